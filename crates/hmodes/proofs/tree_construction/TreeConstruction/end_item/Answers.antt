use Rattle.hmodes.proofs.Vocabulary.{arith, common_steps}
use Rattle.hmodes.proofs.tree_construction.TreeConstruction.end_item.Goals as goal

pub returns-then-not-in_scope : goal.returns-then-not-in_scope
returns-then-not-in_scope c = grind (arith, common_steps)

pub returns : goal.returns
returns c = grind (arith, common_steps)
