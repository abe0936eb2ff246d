use Rattle.hmodes.proofs.Vocabulary.{arith, common_steps}
use Rattle.hmodes.proofs.tree_construction.TreeConstruction.start_in_table.Goals as goal

pub returns-then-not-in_scope : goal.returns-then-not-in_scope
returns-then-not-in_scope c = grind (arith, common_steps)

pub returns-in_ok-insert_named-in-Col : goal.returns-in_ok-insert_named-in-Col
returns-in_ok-insert_named-in-Col c = grind (arith, common_steps)

pub returns-in_ok-insert_named-in-Cell : goal.returns-in_ok-insert_named-in-Cell
returns-in_ok-insert_named-in-Cell c = grind (arith, common_steps)

pub returns-else-not-in_scope : goal.returns-else-not-in_scope
returns-else-not-in_scope c = grind (arith, common_steps)
