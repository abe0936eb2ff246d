use Rattle.hmarkup.proofs.Names.{arith, common_steps}
use Rattle.hmarkup.proofs.doctype.DoctypeWalk.data_run.Goals as goal

pub loop-index-preserved : goal.loop-index-preserved
loop-index-preserved c = grind (arith, common_steps)

pub returns-then-not-is_data-clause-counted : goal.returns-then-not-is_data-clause-counted
returns-then-not-is_data-clause-counted c = grind (arith, common_steps)

pub returns-clause-counted : goal.returns-clause-counted
returns-clause-counted c = grind (arith, common_steps)
