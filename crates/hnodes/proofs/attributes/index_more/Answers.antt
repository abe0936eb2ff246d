use Rattle.hnodes.proofs.Names.{arith, common_steps}
use Rattle.hnodes.proofs.attributes.index_more.Goals as goal

pub loop-index-preserved : goal.loop-index-preserved
loop-index-preserved c = grind (arith, common_steps)

pub returns-in_err-push-clause-first : goal.returns-in_err-push-clause-first
returns-in_err-push-clause-first c = grind (arith, common_steps)
