use Rattle.hserialize.proofs.Names.{arith, common_steps}
use Rattle.hserialize.proofs.lines.put_doctype.Goals as goal

pub returns : goal.returns
returns g c = grind (arith, common_steps)
