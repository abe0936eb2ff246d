use Rattle.html_c.proofs.Names.{refl, no_table_answered}
use Rattle.html_c.proofs.Tables.{answered}
use Rattle.html_c.proofs.jz_table.Goals as goal
use Rattle.html_c.proofs.jz_table.Goals.{in-Err, in-Ok}

pub returns-clause-answers : goal.returns-clause-answers
returns-clause-answers c = elim c.match-table_of.branch [
  | in-Ok w ↦ rw (w.output-is, w.answer-is)
      (answered w.in-Ok.ensures w.as_flat.ensures.readable w.as_flat.ensures.flat w.put_bytes.ensures.room w.put_bytes.ensures.answer)
  | in-Err w ↦ rw (w.output-is, w.answer-is) (no_table_answered w.in-Err.fault w.in-Err.ensures refl w.fault_answer.ensures)
]
