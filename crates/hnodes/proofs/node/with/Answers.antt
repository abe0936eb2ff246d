use Rattle.hnodes.proofs.Names.{arith, common_steps}
use Rattle.hnodes.proofs.node.with.Goals as goal

pub loop-name-preserved : goal.loop-name-preserved
loop-name-preserved c = grind (arith, common_steps)

pub returns : goal.returns
returns c = grind (arith, common_steps)
