use Rattle.hwrite.proofs.Vocabulary.{ap, ◌∙◌, err_from_is_err_and, counted_unless}
use Rattle.hwrite.proofs.Written.{cut_short, not_flushed}
use Rattle.hwrite.proofs.engine.write_text.Goals as goal

pub returns-in_err-write_all-clause-text : goal.returns-in_err-write_all-clause-text
returns-in_err-write_all-clause-text g c = let e = err_from_is_err_and c.from_residual.result c.from_residual.ensures.1 in
    rw (e.1, e.2) (cut_short g.W.Target.written g.W.Target.failed c.args.text.now c.args.target.now c.write_all.new.target c.in_err-write_all.field-0.0
    c.in_err-write_all.ensures.cause c.in_err-write_all.ensures.beginning c.in_err-write_all.ensures.count)

pub returns-else-flush-clause-text : goal.returns-else-flush-clause-text
returns-else-flush-clause-text g c = not_flushed g.W.Target.written g.W.Target.failed c.args.text.now c.args.target.now c.write_all.new.target c.flush.new.self
    c.in_ok-write_all.ensures.all c.in_ok-write_all.ensures.count c.flush.ensures.bytes
    (c.flush.ensures.count ∙ ap (counted_unless (g.W.Target.failed c.write_all.new.target)) c.if-flush.false)
