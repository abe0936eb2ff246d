use Rattle.hopen.proofs.Names.{arith, sym, ◌∙◌, listed_items, live, slice_get_past}
use Rattle.hopen.proofs.Holes.{nth-index, nth-item, nth-missing, nth-there, stored_entry-is}
use Rattle.hopen.proofs.Live.{nth-get}
use Rattle.hopen.proofs.formatting.Formatting.get.Goals as goal

pub returns-in_err-index : goal.returns-in_err-index
returns-in_err-index c = let view = listed_items c.self.inside.slots.items.items in
    let past = nth-missing c.self.inside.slots.items.items c.self.inside.slots.listed.stored c.args.back (sym c.slot.ensures ∙ c.in_err-index.was) in
    grind (arith, c.from_residual.ensures, c.self.view_is, slice_get_past (live view) c.args.back past)

pub returns : goal.returns
returns c = let items = c.self.inside.slots.items.items in let stored = c.self.inside.slots.listed.stored in let x = c.index.result.now in
    let found = sym c.in_ok-index.was ∙ c.slot.ensures in let at = nth-index items stored c.args.back c.in_ok-index.index found in
    let is = stored_entry-is x (nth-there items stored c.args.back c.in_ok-index.index found x c.index.ensures) in
    let here = nth-item items stored c.args.back c.in_ok-index.index found x c.index.ensures in
    grind (arith, c.entry.ensures, is, here, nth-get c.args.back at.0 (listed_items items) at.1.0, c.self.view_is)
