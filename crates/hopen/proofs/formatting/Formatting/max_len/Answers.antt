use Rattle.hopen.proofs.Names.{length, ap, arith, listed_items}
use Rattle.hopen.proofs.Holes.{length-live-le}
use Rattle.hopen.proofs.Listed.{length-items_of}
use Rattle.hopen.proofs.formatting.Formatting.max_len.Goals as goal

pub returns : goal.returns
returns c = omega
    (arith, ap length c.self.view_is, length-live-le (listed_items c.self.inside.slots.items.items), length-items_of c.self.inside.slots.items.items)
