use Rattle.hopen.proofs.Names.{arith, common_steps}
use Rattle.hopen.proofs.slots.Slots.put.Goals as goal

pub push_numbers-requires-clause-len : goal.push_numbers-requires-clause-len
push_numbers-requires-clause-len c = grind (arith, common_steps)

pub invariant_of-self-in_default-push_numbers : goal.invariant_of-self-in_default-push_numbers
invariant_of-self-in_default-push_numbers c = grind (arith, common_steps)

pub invariant_of-self-in-Err-push_numbers : goal.invariant_of-self-in-Err-push_numbers
invariant_of-self-in-Err-push_numbers c = grind (arith, common_steps)

pub returns-in-Err-push_numbers-clause-err : goal.returns-in-Err-push_numbers-clause-err
returns-in-Err-push_numbers-clause-err c = grind (arith, common_steps)

pub truncate-requires-in-Err-push_numbers : goal.truncate-requires-in-Err-push_numbers
truncate-requires-in-Err-push_numbers c = grind (arith, common_steps)

pub invariant_of-self-in-Err : goal.invariant_of-self-in-Err
invariant_of-self-in-Err c = grind (arith, common_steps)

pub returns-in-Err-clause-err : goal.returns-in-Err-clause-err
returns-in-Err-clause-err c = grind (arith, common_steps)
