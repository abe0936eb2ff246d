use Rattle.htoken.proofs.Names.{arith, common_steps}
use Rattle.htoken.proofs.tokenizer.Tokenizer.end_comment.Goals as goal

pub returns : goal.returns
returns g c = grind (arith, common_steps)
