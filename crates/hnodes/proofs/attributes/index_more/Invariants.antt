use Rattle.hnodes.proofs.Names.{◌≡◌, take, attr_numbers}
use Rattle.hnodes.proofs.attributes.index_more.Given as goal

abbrev pub invariant-loop-index : goal.invariant-loop-index
invariant-loop-index l = l.names ≡ attr_numbers (take l.index l.attrs)
