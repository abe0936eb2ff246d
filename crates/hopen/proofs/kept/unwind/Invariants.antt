use Rattle.hopen.proofs.Names.{◌≤◌, length, AreAsLong, LevelsTo}
use Rattle.hopen.proofs.kept.unwind.Given as goal

abbrev pub invariant-loop-end : goal.invariant-loop-end
invariant-loop-end l = record
    { within : l.end ≤ length l.items; above : l.from ≤ l.end; stands : LevelsTo l.end l.last l.items; tables : AreAsLong l.last l.initial.last }

abbrev pub decreases-loop-end : goal.decreases-loop-end
decreases-loop-end l = l.end
