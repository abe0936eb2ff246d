use Rattle.hopen.proofs.Names.{arith, common_steps}
use Rattle.hopen.proofs.leaving.ends_in_hole.Goals as goal

pub returns-then-len-gt0-clause-live : goal.returns-then-len-gt0-clause-live
returns-then-len-gt0-clause-live c = grind (arith, common_steps)
