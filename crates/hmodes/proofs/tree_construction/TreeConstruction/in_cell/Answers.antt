use Rattle.hmodes.proofs.Vocabulary.{arith, common_steps}
use Rattle.hmodes.proofs.tree_construction.TreeConstruction.in_cell.Goals as goal

pub returns-in_default : goal.returns-in_default
returns-in_default c = grind (arith, common_steps)

pub returns-in_ok-close_marked-in-End-Cell : goal.returns-in_ok-close_marked-in-End-Cell
returns-in_ok-close_marked-in-End-Cell c = grind (arith, common_steps)
