use Rattle.hwrite.proofs.Vocabulary.{rules}
use Rattle.hwrite.proofs.Escapes.{escaped-plain}
use Rattle.hwrite.proofs.words.push_escaped.Goals as goal

pub returns-then-ch-ne92 : goal.returns-then-ch-ne92
returns-then-ch-ne92 c = let plain = escaped-plain c.args.ch c.if-ch-ge32.true c.if-ch-ne34.true c.if-ch-ne92.true in rw plain (search rules)
