use Rattle.html_c.proofs.Names.{refl, no_tree_answered, tree_answered, parsed_rows, parsed_words}
use Rattle.html_c.proofs.jz_tree.Goals as goal
use Rattle.html_c.proofs.jz_tree.Goals.{in-Err, in-Ok}

pub returns-clause-answers : goal.returns-clause-answers
returns-clause-answers c = elim c.match-rows_of.branch [
  | in-Ok w ↦ rw (w.rows-is, w.words-is, w.answer-is) (tree_answered (parsed_rows w.in-Ok.tree.parsed) (parsed_words w.in-Ok.tree.parsed) w.in-Ok.ensures
      w.put_rows.ensures.rows w.put_rows.ensures.words w.put_rows.ensures.answer)
  | in-Err w ↦ rw (w.rows-is, w.words-is, w.answer-is) (no_tree_answered w.in-Err.fault w.in-Err.ensures refl refl w.fault_answer.ensures)
]
