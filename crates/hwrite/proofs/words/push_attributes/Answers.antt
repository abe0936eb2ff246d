use Rattle.hwrite.proofs.Vocabulary.{arith, common_steps}
use Rattle.hwrite.proofs.words.push_attributes.Goals as goal

pub loop-attr-preserved : goal.loop-attr-preserved
loop-attr-preserved c = grind (arith, common_steps)
