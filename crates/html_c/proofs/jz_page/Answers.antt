use Rattle.html_c.proofs.Names.{refl, page_parts, no_page_answered, page_answered}
use Rattle.html_c.proofs.jz_page.Goals as goal
use Rattle.html_c.proofs.jz_page.Goals.{in-Err, in-Ok}

pub returns-clause-answers : goal.returns-clause-answers
returns-clause-answers c = elim c.match-page_of.branch [
  | in-Ok w ↦ rw (w.rows-is, w.words-is, w.errors-is, w.text-is, w.origins-is, w.answer-is)
      (page_answered (page_parts w.in-Ok.page) w.in-Ok.ensures.says w.put.ensures.put w.put.ensures.answer)
  | in-Err w ↦ rw (w.rows-is, w.words-is, w.errors-is, w.text-is, w.origins-is, w.answer-is)
      (no_page_answered w.in-Err.fault w.in-Err.ensures.says refl w.page_fault.ensures)
]
