use Rattle.hnodes.proofs.Names.{arith, common_steps}
use Rattle.hnodes.proofs.store.Store.add_attrs.Goals as goal

pub returns-clause-run : goal.returns-clause-run
returns-clause-run c = grind (arith, common_steps)
