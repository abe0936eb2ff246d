use Rattle.hmodes.proofs.Vocabulary.{arith, common_steps}
use Rattle.hmodes.proofs.tree_construction.TreeConstruction.textarea.Goals as goal

pub returns : goal.returns
returns c = grind (arith, common_steps)
