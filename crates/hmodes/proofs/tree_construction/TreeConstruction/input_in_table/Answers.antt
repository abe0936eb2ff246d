use Rattle.hmodes.proofs.Vocabulary.{arith, common_steps}
use Rattle.hmodes.proofs.tree_construction.TreeConstruction.input_in_table.Goals as goal

pub returns-then-not-is_hidden : goal.returns-then-not-is_hidden
returns-then-not-is_hidden c = grind (arith, common_steps)

pub returns : goal.returns
returns c = grind (arith, common_steps)
