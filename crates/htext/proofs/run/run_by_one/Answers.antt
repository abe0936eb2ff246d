use Rattle.htext.proofs.Names.{arith, common_steps}
use Rattle.htext.proofs.run.run_by_one.Goals as goal

pub returns-then-not-is_in_run-clause-counted : goal.returns-then-not-is_in_run-clause-counted
returns-then-not-is_in_run-clause-counted c = grind (arith, common_steps)

pub loop-index-preserved : goal.loop-index-preserved
loop-index-preserved c = grind (arith, common_steps)
