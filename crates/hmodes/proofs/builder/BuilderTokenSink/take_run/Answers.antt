use Rattle.hmodes.proofs.Vocabulary.{chars, placed}
use Rattle.hmodes.proofs.TextRun.{is_with_references, some_clean}
use Rattle.hmodes.proofs.builder.BuilderTokenSink.take_run.Goals as goal

pub put_run-requires-clause-some : goal.put_run-requires-clause-some
put_run-requires-clause-some c = some_clean (chars c.args.run.now) c.requires.clean

pub returns-then-puts_run : goal.returns-then-puts_run
returns-then-puts_run c = c.put_run.ensures (placed c.args.at (chars c.args.run.now)) (is_with_references c.args.at c.args.run.now)
