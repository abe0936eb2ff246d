use Rattle.hnodes.proofs.IndexNames.{◌==◌, not, none}
use Rattle.hnodes.proofs.Names.{FiltersInPlace}
use Rattle.hnodes.proofs.indexed_list.squeeze.Given as goal

abbrev pub invariant-loop-index : goal.invariant-loop-index
invariant-loop-index l = FiltersInPlace (λ x. not (x.number == none)) l.initial.links l.links l.kept l.index
