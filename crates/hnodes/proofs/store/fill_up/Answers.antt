use Rattle.hnodes.proofs.Names.{arith, common_steps}
use Rattle.hnodes.proofs.store.fill_up.Goals as goal

pub returns-clause-same : goal.returns-clause-same
returns-clause-same c = grind (arith, common_steps)
