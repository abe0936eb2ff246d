use Rattle.hopen.proofs.Names.{◌≤◌, length}
use Rattle.hopen.proofs.slots.last_hole.Given as goal

abbrev pub invariant-loop-hole : goal.invariant-loop-hole
invariant-loop-hole l = l.hole ≤ length l.items

abbrev pub decreases-loop-hole : goal.decreases-loop-hole
decreases-loop-hole l = l.hole
