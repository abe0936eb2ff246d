use Rattle.htext.proofs.Names.{arith, common_steps}
use Rattle.htext.proofs.progress.Progress.ahead.Goals as goal

pub returns-then-alone-gt0 : goal.returns-then-alone-gt0
returns-then-alone-gt0 c = grind (arith, common_steps)
