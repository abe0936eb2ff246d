use Rattle.htag.proofs.QuietValues.{plain_value}
use Rattle.htag.proofs.piece.ValueWalk.read_value.Goals as goal

pub returns-then-plain : goal.returns-then-plain
returns-then-plain c = rw c.if-plain.true (λ whole. plain_value c.args.table.now c.args.run.now c.utf8.run c.requires.clean (c.requires.plain c.if-plain.true))
