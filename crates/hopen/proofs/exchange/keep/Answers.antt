use Rattle.hopen.proofs.Names.{arith, common_steps}
use Rattle.hopen.proofs.exchange.keep.Goals as goal

pub returns-then-next-gt0-clause-befores : goal.returns-then-next-gt0-clause-befores
returns-then-next-gt0-clause-befores c = grind (arith, common_steps)
