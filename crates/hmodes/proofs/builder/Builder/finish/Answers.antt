use Rattle.hmodes.proofs.Vocabulary.{arith, common_steps}
use Rattle.hmodes.proofs.builder.Builder.finish.Goals as goal

pub returns-in_err-errors-clause-again : goal.returns-in_err-errors-clause-again
returns-in_err-errors-clause-again c = grind (arith, common_steps)
