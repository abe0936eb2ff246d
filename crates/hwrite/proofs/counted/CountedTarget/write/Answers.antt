use Rattle.hwrite.proofs.Vocabulary.{arith, common_steps}
use Rattle.hwrite.proofs.counted.CountedTarget.write.Goals as goal

pub returns-in-Ok-clause-bytes : goal.returns-in-Ok-clause-bytes
returns-in-Ok-clause-bytes g c = grind (arith, common_steps)
