use Rattle.hopen.proofs.Names.{◌≡◌, length, listed_items, live}
use Rattle.hopen.proofs.formatting.trim.Given as goal

abbrev pub invariant-loop-len : goal.invariant-loop-len
invariant-loop-len l = live (listed_items l.slots.items.items) ≡ live (listed_items l.initial.slots.items.items)

abbrev pub decreases-loop-len : goal.decreases-loop-len
decreases-loop-len l = length l.slots.items.items
