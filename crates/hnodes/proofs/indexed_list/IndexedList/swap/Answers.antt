use Rattle.hnodes.proofs.Names.{arith, common_steps}
use Rattle.hnodes.proofs.indexed_list.IndexedList.swap.Goals as goal

pub invariant_of-self : goal.invariant_of-self
invariant_of-self c = grind (arith, common_steps)

pub returns : goal.returns
returns c = grind (arith, common_steps)

pub swap_at-requires-clause-within : goal.swap_at-requires-clause-within
swap_at-requires-clause-within c = grind (arith, common_steps)
