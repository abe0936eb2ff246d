use Rattle.hopen.proofs.Names.{arith, common_steps}
use Rattle.hopen.proofs.formatting.trim.Goals as goal

pub loop-len-preserved : goal.loop-len-preserved
loop-len-preserved c = grind (arith, common_steps)
