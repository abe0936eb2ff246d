use Rattle.hparse.proofs.Names.{arith, common_steps}
use Rattle.hparse.proofs.parser.with_again.Goals as goal

pub loop-element-preserved : goal.loop-element-preserved
loop-element-preserved c = grind (arith, common_steps)
