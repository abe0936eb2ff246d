use Rattle.html_c.proofs.Names.{arith, common_steps}
use Rattle.html_c.proofs.input.InputSource.read.Goals as goal

pub returns-clause-bytes : goal.returns-clause-bytes
returns-clause-bytes c = grind (arith, common_steps)
