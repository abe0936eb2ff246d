use Rattle.htoken.proofs.Names.{arith}
use Rattle.htoken.proofs.tokenizer.Tokenizer.begin_held.Goals as goal

pub returns : goal.returns
returns c = grind arith
