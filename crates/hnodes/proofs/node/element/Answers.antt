use Rattle.hnodes.proofs.Names.{arith, common_steps}
use Rattle.hnodes.proofs.node.element.Goals as goal

pub returns-in-Some-clause-content : goal.returns-in-Some-clause-content
returns-in-Some-clause-content c = grind (arith, common_steps)

pub returns-then-is_empty-clause-content : goal.returns-then-is_empty-clause-content
returns-then-is_empty-clause-content c = grind (arith, common_steps)
