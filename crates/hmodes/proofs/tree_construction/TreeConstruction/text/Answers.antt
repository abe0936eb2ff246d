use Rattle.hmodes.proofs.Vocabulary.{arith, common_steps}
use Rattle.hmodes.proofs.tree_construction.TreeConstruction.text.Goals as goal

pub returns-in_ok-error-in-Eof : goal.returns-in_ok-error-in-Eof
returns-in_ok-error-in-Eof c = grind (arith, common_steps)
