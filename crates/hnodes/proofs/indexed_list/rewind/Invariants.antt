use Rattle.hnodes.proofs.IndexNames.{◌≡◌, ◌≤◌, length, numbers_of, IndexedTo}
use Rattle.hnodes.proofs.indexed_list.rewind.Given as goal

abbrev pub invariant-loop-index : goal.invariant-loop-index
invariant-loop-index l = record
    { within : l.index ≤ length l.links; indexed : IndexedTo l.last l.links l.index; same : numbers_of l.links ≡ numbers_of l.initial.links }
