use Rattle.html_c.proofs.Names.{ap, refl, sym, ◌∙◌, may_be_in, misplaced, no_escaping}
use Rattle.html_c.proofs.Outcomes.{fails}
use Rattle.html_c.proofs.answer.Given.command.Goals as goal

pub returns-in_err-escaping : goal.returns-in_err-escaping
returns-in_err-escaping c = fails _ _ _ _ c.from_residual.ensures.1 (no_escaping c.in_err-escaping.ensures)

pub returns-then-not-may_be_in : goal.returns-then-not-may_be_in
returns-then-not-may_be_in c = misplaced c.in-Some.task (sym c.in-Some.ensures)
    (sym (ap (may_be_in c.args.number) c.requires.context) ∙ sym c.may_be_in.ensures ∙ c.if-not-may_be_in.true) refl
