use Rattle.hmodes.proofs.Vocabulary.{arith, common_steps}
use Rattle.hmodes.proofs.tree_construction.TreeConstruction.in_row.Goals as goal

pub returns-else-not-in_scope-2 : goal.returns-else-not-in_scope-2
returns-else-not-in_scope-2 c = grind (arith, common_steps)

pub returns-in_default : goal.returns-in_default
returns-in_default c = grind (arith, common_steps)

pub returns-in-End-Body : goal.returns-in-End-Body
returns-in-End-Body c = grind (arith, common_steps)

pub returns-then-not-in_scope-2 : goal.returns-then-not-in_scope-2
returns-then-not-in_scope-2 c = grind (arith, common_steps)
