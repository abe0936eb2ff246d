use Rattle.hmodes.proofs.Vocabulary.{arith, common_steps}
use Rattle.hmodes.proofs.tree_construction.TreeConstruction.nobr.Goals as goal

pub returns : goal.returns
returns c = grind (arith, common_steps)

pub close_nobr-requires : goal.close_nobr-requires
close_nobr-requires c = grind (arith, common_steps)
