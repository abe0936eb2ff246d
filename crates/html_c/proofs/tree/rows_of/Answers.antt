use Rattle.html_c.proofs.Names.{of_size, unmet_rows}
use Rattle.html_c.proofs.Exports.{no_memory}
use Rattle.html_c.proofs.Outcomes.{fails, reasons}
use Rattle.html_c.proofs.Trees.{some_rows}
use Rattle.html_c.proofs.tree.rows_of.Goals as goal

pub returns-in_err-settings : goal.returns-in_err-settings
returns-in_err-settings c = fails _ _ _ _ c.from_residual.ensures.1 (reasons (λ f why. unmet_rows why) c.in_err-settings.ensures)

pub returns-in_err-parsed : goal.returns-in_err-parsed
returns-in_err-parsed c = fails _ _ _ _ c.from_residual-in_err-parsed.ensures.1 (of_size c.in_ok-settings.ensures.size c.in_err-parsed.ensures)

pub returns-in_err-of : goal.returns-in_err-of
returns-in_err-of c =
    fails _ _ _ _ c.from_residual-in_err-of.ensures.1 (of_size c.in_ok-settings.ensures.size (no_memory c.in_ok-parsed.ensures c.in_err-of.ensures.counted))

pub returns : goal.returns
returns c = rw c.in_ok-of.ensures.counted (some_rows c.in_ok-parsed.ensures)
