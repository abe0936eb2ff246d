use Rattle.hmodes.proofs.Vocabulary.{arith, common_steps}
use Rattle.hmodes.proofs.tree_construction.TreeConstruction.insert_and_go.Goals as goal

pub returns : goal.returns
returns c = grind (arith, common_steps)
