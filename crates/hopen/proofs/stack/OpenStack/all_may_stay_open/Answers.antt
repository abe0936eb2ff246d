use Rattle.hopen.proofs.Names.{arith, common_steps}
use Rattle.hopen.proofs.Searches.{all-stay}
use Rattle.hopen.proofs.stack.OpenStack.all_may_stay_open.Goals as goal

pub returns : goal.returns
returns c = grind (arith, common_steps, all-stay)
