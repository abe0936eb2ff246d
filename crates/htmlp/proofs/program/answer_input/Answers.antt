use Rattle.htmlp.proofs.Names.{Ok, Err, refl}
use Rattle.htmlp.proofs.program.answer_input.Goals as goal

pub returns-in-Ok : goal.returns-in-Ok
returns-in-Ok g c = (Ok tt, c.in-Ok.ensures.runs, refl)

pub returns-in-Err : goal.returns-in-Err
returns-in-Err g c = (Err c.in-Err.refusal, c.in-Err.ensures.runs, (refl, refl))
