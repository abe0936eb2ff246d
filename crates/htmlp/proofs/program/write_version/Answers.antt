use Rattle.htmlp.proofs.Names.{Err, Ok, refl}
use Rattle.htmlp.proofs.Outcomes.{refused}
use Rattle.htmlp.proofs.program.write_version.Goals as goal

pub returns-in_err-write_text : goal.returns-in_err-write_text
returns-in_err-write_text g c = record
    { answer = Err c.in_err-write_text.field-0.0; writes_text = c.in_err-write_text.ensures.text; outcome_is = refused _ _ c.from_residual.ensures.1 }

pub returns : goal.returns
returns g c = record { answer = Ok tt; writes_text = c.in_ok-write_text.ensures.text; outcome_is = refl }
