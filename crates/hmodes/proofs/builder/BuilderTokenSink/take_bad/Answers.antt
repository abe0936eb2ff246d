use Rattle.hmodes.proofs.Vocabulary.{ap, ◌∙◌, repeat, replacement_run}
use Rattle.hmodes.proofs.TextRun.{bad_bytes, bad_some, bad_with_references}
use Rattle.hmodes.proofs.builder.BuilderTokenSink.take_bad.Goals as goal

pub put_run-requires-clause-some : goal.put_run-requires-clause-some
put_run-requires-clause-some c =
    bad_some c.args.at c.deref-in-Ok.result.now c.args.count (c.deref-in-Ok.ensures ∙ c.in-Ok.ensures.bytes ∙ ap (repeat c.args.count) bad_bytes)

pub returns-in-Ok : goal.returns-in-Ok
returns-in-Ok c = c.put_run.ensures (replacement_run c.args.at c.args.count)
    (bad_with_references c.args.at c.deref-in-Ok.result.now c.args.count (c.deref-in-Ok.ensures ∙ c.in-Ok.ensures.bytes ∙ ap (repeat c.args.count) bad_bytes))
