use Rattle.hopen.proofs.Names.{arith, common_steps}
use Rattle.hopen.proofs.kept.sets_at_end.Goals as goal

pub returns : goal.returns
returns c = grind (arith, common_steps)
