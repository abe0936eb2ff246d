use Rattle.htext.proofs.Names.{arith, common_steps}
use Rattle.htext.proofs.decoder.remove_front.Goals as goal

pub returns : goal.returns
returns c = grind (arith, common_steps)
