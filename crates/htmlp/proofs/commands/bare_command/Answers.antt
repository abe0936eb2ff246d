use Rattle.htmlp.proofs.Names.{arith}
use Rattle.htmlp.proofs.commands.bare_command.Goals as goal

pub returns-clause-shape : goal.returns-clause-shape
returns-clause-shape c = grind arith
