use Rattle.hmodes.proofs.Vocabulary.{arith, common_steps}
use Rattle.hmodes.proofs.tree_construction.TreeConstruction.in_table_text.Goals as goal

pub returns-in_ok-put_pending-in_default : goal.returns-in_ok-put_pending-in_default
returns-in_ok-put_pending-in_default c = grind (arith, common_steps)
