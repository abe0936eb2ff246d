use Rattle.hopen.proofs.Names.{arith, elements}
use Rattle.hopen.proofs.name_sets.SetNodes.with.Goals as goal

pub returns : goal.returns
returns c = grind (arith, elements)
