use Rattle.hmodes.proofs.Vocabulary.{arith, common_steps}
use Rattle.hmodes.proofs.tree_construction.TreeConstruction.end_in_table.Goals as goal

pub returns-else-not-in_scope : goal.returns-else-not-in_scope
returns-else-not-in_scope c = grind (arith, common_steps)

pub returns-then-not-in_scope : goal.returns-then-not-in_scope
returns-then-not-in_scope c = grind (arith, common_steps)
