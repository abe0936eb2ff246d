use Rattle.hnodes.proofs.Names.{arith, common_steps}
use Rattle.hnodes.proofs.store.Store.attrs.Goals as goal

pub stored-requires : goal.stored-requires
stored-requires c = grind (arith, common_steps)
