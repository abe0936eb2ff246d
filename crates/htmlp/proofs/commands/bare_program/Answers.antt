use Rattle.htmlp.proofs.Names.{arith, common_steps}
use Rattle.htmlp.proofs.commands.bare_program.Goals as goal

pub returns : goal.returns
returns c = grind (arith, common_steps)
