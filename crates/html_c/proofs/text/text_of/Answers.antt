use Rattle.html_c.proofs.Names.{no_command, of_size, unmet, arith, common_steps}
use Rattle.html_c.proofs.Exports.{a_text, allowed, no_text}
use Rattle.html_c.proofs.Outcomes.{fails, reasons}
use Rattle.html_c.proofs.text.text_of.Goals as goal

pub returns-in_err-settings-clause-says : goal.returns-in_err-settings-clause-says
returns-in_err-settings-clause-says c = fails _ _ _ _ c.from_residual.ensures.1 (reasons (λ f why. no_command (unmet why)) c.in_err-settings.ensures)

pub returns-in_err-command-clause-says : goal.returns-in_err-command-clause-says
returns-in_err-command-clause-says c =
    fails _ _ _ _ c.from_residual-in_err-command.ensures.1 (of_size c.in_ok-settings.ensures.size (no_command c.in_err-command.ensures))

pub returns-in_err-lists-clause-says : goal.returns-in_err-lists-clause-says
returns-in_err-lists-clause-says c =
    fails _ _ _ _ c.from_residual-in_err-lists.ensures.1 (of_size c.in_ok-settings.ensures.size (no_command (unmet c.in_err-lists.ensures)))

pub text_in-text-requires-clause-context : goal.text_in-text-requires-clause-context
text_in-text-requires-clause-context c = let command = c.in_ok-command.command in
    allowed command.task c.in_ok-command.ensures.context c.in_ok-settings.ensures.allows

pub returns-in_err-text-clause-says : goal.returns-in_err-text-clause-says
returns-in_err-text-clause-says c = fails _ _ _ _ c.from_residual-in_err-text.ensures.1
    (of_size c.in_ok-settings.ensures.size (no_text c.options-options.ensures.told c.in_ok-command.ensures c.in_err-text.ensures.says))

pub returns-clause-says : goal.returns-clause-says
returns-clause-says c = a_text c.options-options.ensures.told c.in_ok-command.ensures c.in_ok-text.ensures.says

pub text_in-text-requires-clause-piece : goal.text_in-text-requires-clause-piece
text_in-text-requires-clause-piece c = grind (arith, common_steps)

pub returns-clause-room : goal.returns-clause-room
returns-clause-room c = grind (arith, common_steps)
