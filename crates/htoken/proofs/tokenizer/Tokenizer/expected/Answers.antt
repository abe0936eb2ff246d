use Rattle.htoken.proofs.Names.{arith, elements}
use Rattle.htoken.proofs.tokenizer.Tokenizer.expected.Goals as goal

pub returns : goal.returns
returns c = grind (arith, elements)
