use Rattle.hserialize.proofs.Names.{arith, common_steps}
use Rattle.hserialize.proofs.gathered.GatheredTarget.write.Goals as goal

pub returns-clause-bytes : goal.returns-clause-bytes
returns-clause-bytes c = grind (arith, common_steps)
