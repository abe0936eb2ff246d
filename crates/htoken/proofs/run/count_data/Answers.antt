use Rattle.htoken.proofs.Names.{arith, common_steps}
use Rattle.htoken.proofs.run.count_data.Goals as goal

pub returns-clause-counted : goal.returns-clause-counted
returns-clause-counted c = grind (arith, common_steps)

pub loop-index-preserved : goal.loop-index-preserved
loop-index-preserved c = grind (arith, common_steps)
