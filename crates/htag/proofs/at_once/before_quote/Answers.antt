use Rattle.htag.proofs.Vocabulary.{arith, common_steps}
use Rattle.htag.proofs.at_once.before_quote.Goals as goal

pub loop-index-preserved : goal.loop-index-preserved
loop-index-preserved c = grind (arith, common_steps)
