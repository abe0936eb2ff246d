use Rattle.htext.proofs.Names.{arith, common_steps}
use Rattle.htext.proofs.character.hand_read.Goals as goal

pub returns-in_err-take_error-2 : goal.returns-in_err-take_error-2
returns-in_err-take_error-2 g c = grind (arith, common_steps)
