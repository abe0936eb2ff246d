use Rattle.hmodes.proofs.Vocabulary.{arith, common_steps}
use Rattle.hmodes.proofs.tree_construction.TreeConstruction.end_heading.Goals as goal

pub returns : goal.returns
returns c = grind (arith, common_steps)

pub returns-then-not-group_in_scope : goal.returns-then-not-group_in_scope
returns-then-not-group_in_scope c = grind (arith, common_steps)
