use Rattle.hparse.proofs.Names.{grows_not, err_from_is_err_and, manner, arith, common_steps}
use Rattle.hparse.proofs.Parsings.{has_read, names_of, ends_refused, ends_built}
use Rattle.hparse.proofs.parser.Parser.finish.Goals as goal

pub returns-in_err-answer-clause-shows : goal.returns-in_err-answer-clause-shows
returns-in_err-answer-clause-shows c = λ opts parse_case bytes h.
    let e = err_from_is_err_and c.from_residual.result c.from_residual.ensures.1 in
    rw (e.1, e.2) (ends_refused h c.end-answer.new.self (grows_not _) (names_of _ _ c.deref.ensures c.are_names.ensures.names)
    (c.in_err-answer.ensures (manner opts parse_case) h.began bytes (has_read h c.deref_mut.ensures.value)))

pub returns-clause-shows : goal.returns-clause-shows
returns-clause-shows c = λ opts parse_case bytes h. ends_built h c.end-answer.new.self (grows_not _) (names_of _ _ c.deref.ensures c.are_names.ensures.names)
    c.built.result (c.in_ok-answer.ensures (manner opts parse_case) h.began bytes (has_read h c.deref_mut.ensures.value)) c.built.ensures.built

pub returns-clause-again : goal.returns-clause-again
returns-clause-again c = grind (arith, common_steps)
