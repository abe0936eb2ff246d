use Rattle.hnodes.proofs.IndexNames.{◌≤◌, ◌-◌, length, IndexedTo}
use Rattle.hnodes.proofs.indexed_list.unwind.Given as goal

abbrev pub invariant-loop-end : goal.invariant-loop-end
invariant-loop-end l = record { within : l.end ≤ length l.links; above : l.from ≤ l.end; indexed : IndexedTo l.last l.links l.end }

abbrev pub decreases-loop-end : goal.decreases-loop-end
decreases-loop-end l = l.end - l.from
