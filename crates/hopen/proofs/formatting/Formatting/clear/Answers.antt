use Rattle.hopen.proofs.Names.{common_steps, ◌≡◌, reverse, ◌∙◌, ap, arith, listed_items, by_name}
use Rattle.hopen.proofs.Listed.{last-is, last_of, length-items_of, numbers-back, marker_ordinal, ordinal-le, cleared-take}
use Rattle.hopen.proofs.Live.{cleared-live}
use Rattle.hopen.proofs.formatting.Formatting.clear.Goals as goal

pub truncate-requires : goal.truncate-requires
truncate-requires c = let items = c.self.inside.slots.items.items in
    let marker : c.last.result ≡ marker_ordinal (listed_items items) =
    c.last.ensures ∙ last-is 0 c.self.inside.slots.names ∙ ap (last_of 0) (ap reverse c.self.inside.slots.listed.names ∙ numbers-back by_name items) in
    omega (arith, ordinal-le by_name 0 (listed_items items), length-items_of items)

pub returns : goal.returns
returns c = let items = c.self.inside.slots.items.items in
    let marker : c.last.result ≡ marker_ordinal (listed_items items) =
    c.last.ensures ∙ last-is 0 c.self.inside.slots.names ∙ ap (last_of 0) (ap reverse c.self.inside.slots.listed.names ∙ numbers-back by_name items) in
    grind (arith, common_steps, last-is, last_of, length-items_of, numbers-back, marker_ordinal, ordinal-le, cleared-take, cleared-live)
