use Rattle.hmodes.proofs.Vocabulary.{arith, common_steps}
use Rattle.hmodes.proofs.tree_construction.TreeConstruction.close_dt.Goals as goal

pub returns : goal.returns
returns c = grind (arith, common_steps)

pub returns-then-item_is_near : goal.returns-then-item_is_near
returns-then-item_is_near c = grind (arith, common_steps)
