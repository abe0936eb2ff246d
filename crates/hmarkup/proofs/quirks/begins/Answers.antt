use Rattle.hmarkup.proofs.Names.{arith, common_steps}
use Rattle.hmarkup.proofs.quirks.begins.Goals as goal

pub returns-in-None : goal.returns-in-None
returns-in-None c = grind (arith, common_steps)
