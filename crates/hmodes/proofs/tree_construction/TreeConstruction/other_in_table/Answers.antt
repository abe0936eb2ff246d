use Rattle.hmodes.proofs.Vocabulary.{arith, common_steps}
use Rattle.hmodes.proofs.tree_construction.TreeConstruction.other_in_table.Goals as goal

pub in_body-requires : goal.in_body-requires
in_body-requires c = grind (arith, common_steps)
