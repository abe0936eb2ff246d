use Rattle.hmodes.proofs.Vocabulary.{arith, common_steps}
use Rattle.hmodes.proofs.tree_construction.TreeConstruction.form.Goals as goal

pub returns : goal.returns
returns c = grind (arith, common_steps)

pub returns-then-is_some : goal.returns-then-is_some
returns-then-is_some c = grind (arith, common_steps)
