use Rattle.hserialize.proofs.Names.{arith, common_steps}
use Rattle.hserialize.proofs.writer.Writer.finish.Goals as goal

pub returns-then-flush-clause-ends : goal.returns-then-flush-clause-ends
returns-then-flush-clause-ends g c = grind (arith, common_steps)
