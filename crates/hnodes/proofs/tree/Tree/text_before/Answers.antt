use Rattle.hnodes.proofs.Names.{arith, common_steps}
use Rattle.hnodes.proofs.tree.Tree.text_before.Goals as goal

pub returns-in-Some-clause-nodes : goal.returns-in-Some-clause-nodes
returns-in-Some-clause-nodes c = grind (arith, common_steps)
