use Rattle.hparse.proofs.Names.{arith, common_steps}
use Rattle.hparse.proofs.parser.begun.Goals as goal

pub returns : goal.returns
returns c = grind (arith, common_steps)
