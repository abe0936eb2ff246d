use Rattle.hparse.proofs.Names.{err_from_is_err_and, manner, arith, common_steps}
use Rattle.hparse.proofs.Parsings.{has_read, names_of}
use Rattle.hparse.proofs.ReadIn.{not_parsed, parsed}
use Rattle.hparse.proofs.parser.parse_reader.Goals as goal

pub returns-in_err-answer-clause-reads : goal.returns-in_err-answer-clause-reads
returns-in_err-answer-clause-reads g c = λ opts parse_case fed h.
    let e = err_from_is_err_and c.from_residual.result c.from_residual.ensures.1 in
    rw (e.1, e.2) (not_parsed g.R.Source.left g.R.Source.failed h c.args.piece c.args.source.now c.read_to_end-answer.new.source
    c.read_to_end-answer.new.reading (names_of _ _ c.deref.ensures c.are_names.ensures.names) c.in_err-answer.field-0.0
    (c.in_err-answer.ensures (manner opts parse_case) h.began fed (has_read h c.deref_mut.ensures.value)))

pub returns-clause-reads : goal.returns-clause-reads
returns-clause-reads g c = λ opts parse_case fed h. parsed g.R.Source.left g.R.Source.failed h c.args.piece c.args.source.now c.read_to_end-answer.new.source
    c.read_to_end-answer.new.reading (names_of _ _ c.deref.ensures c.are_names.ensures.names) c.built.result c.built.ensures.built
    (c.in_ok-answer.ensures (manner opts parse_case) h.began fed (has_read h c.deref_mut.ensures.value))

pub returns-clause-again : goal.returns-clause-again
returns-clause-again g c = grind (arith, common_steps)
