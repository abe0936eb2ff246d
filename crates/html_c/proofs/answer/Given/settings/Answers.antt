use Rattle.html_c.proofs.Names.{of_size, rules, arith, common_steps}
use Rattle.html_c.proofs.Outcomes.{fails}
use Rattle.html_c.proofs.answer.Given.settings.Goals as goal

pub returns-in_err-context : goal.returns-in_err-context
returns-in_err-context c = fails _ _ _ _ c.from_residual.ensures.1 (of_size (search rules) c.in_err-context.ensures)

pub returns : goal.returns
returns c = grind (arith, common_steps)
