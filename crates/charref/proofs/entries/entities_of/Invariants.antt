use Rattle.charref.proofs.Names.{◌≡◌, ◌+◌, ◌≤◌, ◌-◌, length, entity_to, key_at, ◌/◌, vec_capacity}
use Rattle.charref.proofs.ReadingFlat.{HasReadTo}
use Rattle.charref.proofs.entries.entities_of.Given as goal

abbrev pub invariant-loop-start : goal.invariant-loop-start
invariant-loop-start l = record {
  read : HasReadTo l.text l.entities.items (key_at l.text (entity_to l.last l.last_end)) l.start;
  room : vec_capacity l.entities ≡ length l.text / 7 + 1;
  key : l.last ≤ l.last_end;
  later : l.last_end ≤ l.start;
}

abbrev pub decreases-loop-start : goal.decreases-loop-start
decreases-loop-start l = length l.text - l.start
