use Rattle.hopen.proofs.Closed.{IsTaken}
use Rattle.hopen.proofs.slots.take_holes.Given as goal

abbrev pub invariant-loop-index : goal.invariant-loop-index
invariant-loop-index l = IsTaken l.from l.end l.index l.fn.items.items l.items.items
