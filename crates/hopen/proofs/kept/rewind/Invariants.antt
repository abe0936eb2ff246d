use Rattle.hopen.proofs.Names.{◌≡◌, ◌≤◌, ◌-◌, length, map, LevelsTo, opened_by, AreAsLong}
use Rattle.hopen.proofs.kept.rewind.Given as goal

abbrev pub invariant-loop-index : goal.invariant-loop-index
invariant-loop-index l = record {
  within : l.index ≤ length l.items;
  stands : LevelsTo l.index l.last l.items;
  same : map opened_by l.items ≡ map opened_by l.initial.items;
  tables : AreAsLong l.last l.initial.last;
}

abbrev pub decreases-loop-index : goal.decreases-loop-index
decreases-loop-index l = length l.items - l.index
