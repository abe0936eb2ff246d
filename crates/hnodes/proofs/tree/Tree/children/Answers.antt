use Rattle.hnodes.proofs.Siblings.{children-made, children-from}
use Rattle.hnodes.proofs.tree.Tree.children.Goals as goal

pub returns-clause-order : goal.returns-clause-order
returns-clause-order c = rw c.first_child-next.ensures.child (children-from c.first_child-next.ensures.nodes.counted c.args.node c.requires)

pub returns-clause-within : goal.returns-clause-within
returns-clause-within c = rw (returns-clause-order c) (children-made c.first_child-next.ensures.nodes.counted c.args.node c.requires)
