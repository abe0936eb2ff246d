use Rattle.hnodes.proofs.Names.{arith, common_steps}
use Rattle.hnodes.proofs.indexed_list.IndexedList.set.Goals as goal

pub returns : goal.returns
returns c = grind (arith, common_steps)

pub invariant_of-self : goal.invariant_of-self
invariant_of-self c = grind (arith, common_steps)

pub link_at-link-requires-clause-within : goal.link_at-link-requires-clause-within
link_at-link-requires-clause-within c = grind (arith, common_steps)

pub put_in-requires-clause-within : goal.put_in-requires-clause-within
put_in-requires-clause-within c = grind (arith, common_steps)
