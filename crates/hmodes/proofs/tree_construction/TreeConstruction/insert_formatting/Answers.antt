use Rattle.hmodes.proofs.Vocabulary.{arith, common_steps}
use Rattle.hmodes.proofs.tree_construction.TreeConstruction.insert_formatting.Goals as goal

pub returns-in_err-insert_formatting : goal.returns-in_err-insert_formatting
returns-in_err-insert_formatting c = grind (arith, common_steps)

pub returns : goal.returns
returns c = grind (arith, common_steps)
