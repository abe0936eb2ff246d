use Rattle.hwrite.proofs.Vocabulary.{arith, elements}
use Rattle.hwrite.proofs.columns.Lines.of.Goals as goal

pub loop-from-preserved : goal.loop-from-preserved
loop-from-preserved c = grind (arith, elements)
