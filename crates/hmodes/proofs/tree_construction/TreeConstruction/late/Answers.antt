use Rattle.hmodes.proofs.Vocabulary.{arith, common_steps}
use Rattle.hmodes.proofs.tree_construction.TreeConstruction.late.Goals as goal

pub returns-in-Again : goal.returns-in-Again
returns-in-Again c = grind (arith, common_steps)

pub returns : goal.returns
returns c = grind (arith, common_steps)
