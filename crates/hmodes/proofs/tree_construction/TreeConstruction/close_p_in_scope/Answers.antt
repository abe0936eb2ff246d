use Rattle.hmodes.proofs.Vocabulary.{arith, common_steps}
use Rattle.hmodes.proofs.tree_construction.TreeConstruction.close_p_in_scope.Goals as goal

pub returns : goal.returns
returns c = grind (arith, common_steps)

pub returns-then-in_scope : goal.returns-then-in_scope
returns-then-in_scope c = grind (arith, common_steps)
