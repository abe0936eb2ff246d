use Rattle.hopen.proofs.Names.{◌≡◌, length, map, opened_by, stack_of, gap, sum_by, KeepRoom, LevelsStand}
use Rattle.hopen.proofs.leaving.trim.Given as goal

abbrev pub invariant-loop-items : goal.invariant-loop-items
invariant-loop-items l = record {
  stands : LevelsStand l.last l.items.items;
  holes : l.last.holes ≡ sum_by gap (map opened_by l.items.items);
  same : stack_of l.items.items ≡ stack_of l.initial.items.items;
  room : KeepRoom l.last l.initial.last l.items l.initial.items;
}

abbrev pub decreases-loop-items : goal.decreases-loop-items
decreases-loop-items l = length l.items.items
