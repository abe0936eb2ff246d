use Rattle.hserialize.proofs.Names.{◌≡◌, ◌≤◌, ◌+◌, ◌++◌, length, map, vec_capacity, text_of, mapped_attribute, AreEntriesNumbered, pair_of}
use Rattle.hserialize.proofs.sorted.in_order.Given as goal

-- the entries so far and those to come are all of them
abbrev pub invariant-loop-name : goal.invariant-loop-name
invariant-loop-name l = (goal.iterator-loop-name).can_next l.name-iterator × (goal.iterator-loop-name).is_finite l.name-iterator × record {
  same : map pair_of l.entries.items ++ map (mapped_attribute (text_of l.names)) l.name-iterator ≡ map (mapped_attribute (text_of l.names)) l.fn.attrs;
  many : length l.entries.items + length l.name-iterator ≡ length l.fn.attrs;
  numbered : AreEntriesNumbered l.entries.items;
  room : vec_capacity l.fn.entries ≤ vec_capacity l.entries;
}
