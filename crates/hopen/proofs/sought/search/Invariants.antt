use Rattle.hopen.proofs.Names.{◌≡◌, ◌≤◌, length, take, last_place, holds_one, is_in, slots_of}
use Rattle.hopen.proofs.sought.search.Given as goal

abbrev pub invariant-loop-level : goal.invariant-loop-level
invariant-loop-level l = record {
  within : l.level ≤ length l.items;
  rest : last_place (holds_one (is_in l.set)) (slots_of (take l.from l.items)) ≡ last_place (holds_one (is_in l.set)) (slots_of (take l.level l.items));
}

abbrev pub decreases-loop-level : goal.decreases-loop-level
decreases-loop-level l = l.level
