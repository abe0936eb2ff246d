use Rattle.hopen.proofs.Names.{arith, common_steps}
use Rattle.hopen.proofs.OpenLevels.{node-level}
use Rattle.hopen.proofs.Somes.{any-somes}
use Rattle.hopen.proofs.stack.OpenStack.contains.Goals as goal

pub returns : goal.returns
returns c = grind (arith, common_steps, any-somes, node-level)
