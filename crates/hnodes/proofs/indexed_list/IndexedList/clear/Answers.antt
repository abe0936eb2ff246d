use Rattle.hnodes.proofs.Names.{arith, common_steps}
use Rattle.hnodes.proofs.indexed_list.IndexedList.clear.Goals as goal

pub invariant_of-self : goal.invariant_of-self
invariant_of-self c = grind (arith, common_steps)

pub returns : goal.returns
returns c = grind (arith, common_steps)

pub take_out-requires-clause-within : goal.take_out-requires-clause-within
take_out-requires-clause-within c = grind (arith, common_steps)
