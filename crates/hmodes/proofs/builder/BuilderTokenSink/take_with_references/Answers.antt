use Rattle.hmodes.proofs.Vocabulary.{chars}
use Rattle.hmodes.proofs.TextRun.{some_not_null}
use Rattle.hmodes.proofs.builder.BuilderTokenSink.take_with_references.Goals as goal

pub put_run-requires-clause-some : goal.put_run-requires-clause-some
put_run-requires-clause-some c = some_not_null (chars c.args.run.now) c.requires.some
