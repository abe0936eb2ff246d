use Rattle.htmlp.proofs.Names.{arith, common_steps}
use Rattle.htmlp.proofs.commands.option.Goals as goal

pub returns-clause-rule : goal.returns-clause-rule
returns-clause-rule c = grind (arith, common_steps)
