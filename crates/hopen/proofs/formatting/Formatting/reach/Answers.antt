use Rattle.hopen.proofs.Names.{◌∙◌, ap, listed_items, live}
use Rattle.hopen.proofs.Holes.{live-tail}
use Rattle.hopen.proofs.formatting.Formatting.reach.Goals as goal

pub returns : goal.returns
returns c =
    ap (λ xs. live (listed_items xs)) c.close.ensures.items ∙ live-tail c.self.inside.slots.items.items _ c.self.inside.slots.listed.stored ∙ c.self.view_is
