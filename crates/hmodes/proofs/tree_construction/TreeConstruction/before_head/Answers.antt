use Rattle.hmodes.proofs.Vocabulary.{arith, common_steps}
use Rattle.hmodes.proofs.tree_construction.TreeConstruction.before_head.Goals as goal

pub returns-in_ok-insert-in-Start-Head : goal.returns-in_ok-insert-in-Start-Head
returns-in_ok-insert-in-Start-Head c = grind (arith, common_steps)
