use Rattle.hnodes.proofs.Names.{arith, elements}
use Rattle.hnodes.proofs.store.Texts.get.Goals as goal

pub returns : goal.returns
returns c = grind (arith, elements)
