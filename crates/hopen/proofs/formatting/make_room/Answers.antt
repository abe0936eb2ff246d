use Rattle.hopen.proofs.Names.{◌∙◌, ap, listed_items, live}
use Rattle.hopen.proofs.Holes.{live-tail}
use Rattle.hopen.proofs.formatting.make_room.Goals as goal
use Rattle.hopen.proofs.formatting.make_room.Goals.{then-slots-gt0, else-slots-gt0}

pub returns : goal.returns
returns c = ap (λ xs. live (listed_items xs)) c.reserve.ensures.items ∙ elim c.if-slots-gt0.branch [
  | then-slots-gt0 w ↦ ap (λ s. live (listed_items s.items.items)) w.slots-is ∙ ap (λ xs. live (listed_items xs)) w.close.ensures.items
      ∙ live-tail c.args.slots.now.items.items 0 c.args.slots.now.listed.stored
  | else-slots-gt0 w ↦ ap (λ s. live (listed_items s.items.items)) w.slots-is
]
