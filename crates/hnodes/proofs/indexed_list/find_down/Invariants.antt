use Rattle.hnodes.proofs.IndexNames.{◌≡◌, ◌==◌, ◌≤◌, length, last_up, numbers_of}
use Rattle.hnodes.proofs.IndexSteps.{Walks}
use Rattle.hnodes.proofs.indexed_list.find_down.Given as goal

abbrev pub invariant-loop-ordinal : goal.invariant-loop-ordinal
invariant-loop-ordinal l = record {
  within : l.ordinal ≤ length l.links;
  walks : Walks l.links l.number l.ordinal;
  same : last_up (λ k. k == l.number) (numbers_of l.links) l.from ≡ last_up (λ k. k == l.number) (numbers_of l.links) l.ordinal;
}

abbrev pub decreases-loop-ordinal : goal.decreases-loop-ordinal
decreases-loop-ordinal l = l.ordinal
