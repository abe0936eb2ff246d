use Rattle.charref.proofs.Names.{arith}
use Rattle.charref.proofs.flat.Flat.read.Goals as goal

pub invariant_of-result : goal.invariant_of-result
invariant_of-result c = grind arith
