use Rattle.hnodes.proofs.Names.{arith, common_steps}
use Rattle.hnodes.proofs.tree.Tree.add_missing_attr.Goals as goal

pub returns-clause-ok : goal.returns-clause-ok
returns-clause-ok c = grind (arith, common_steps)
