use Rattle.hwrite.proofs.Vocabulary.{arith, common_steps}
use Rattle.hwrite.proofs.line_index.LineIndex.feed.Goals as goal

pub loop-byte-preserved : goal.loop-byte-preserved
loop-byte-preserved c = grind (arith, common_steps)

pub returns-clause-ok : goal.returns-clause-ok
returns-clause-ok c = grind (arith, common_steps)
