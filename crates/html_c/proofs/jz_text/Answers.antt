use Rattle.html_c.proofs.Names.{refl, none_answered, text_answered, fitted_text}
use Rattle.html_c.proofs.jz_text.Goals as goal
use Rattle.html_c.proofs.jz_text.Goals.{in-Err, in-Ok}

pub returns-clause-answers : goal.returns-clause-answers
returns-clause-answers c = elim c.match-text_of.branch [
  | in-Ok w ↦ rw (w.output-is, w.answer-is) (text_answered (fitted_text w.in-Ok.text) w.in-Ok.ensures.says w.put_text.ensures.room w.put_text.ensures.answer)
  | in-Err w ↦ rw (w.output-is, w.answer-is) (none_answered w.in-Err.fault w.in-Err.ensures.says refl w.fault_answer.ensures)
]
