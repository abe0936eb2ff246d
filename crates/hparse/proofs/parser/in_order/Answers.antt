use Rattle.hparse.proofs.Names.{arith}
use Rattle.hparse.proofs.parser.in_order.Goals as goal

pub returns : goal.returns
returns c = grind arith
