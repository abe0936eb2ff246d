use Rattle.htag.proofs.Vocabulary.{arith, common_steps}
use Rattle.htag.proofs.piece.ValueWalk.give_back.Goals as goal

pub returns : goal.returns
returns c = grind (arith, common_steps)
