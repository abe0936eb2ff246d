use Rattle.hnodes.proofs.Names.{ap, arith, length, children_of}
use Rattle.hnodes.proofs.Sizes.{inside-few, order-long}
use Rattle.hnodes.proofs.TreeOrder.{begins, first-inside}
use Rattle.hnodes.proofs.Siblings.{within-order}
use Rattle.hnodes.proofs.tree.Tree.descendants.Goals as goal

pub invariant_of-result : goal.invariant_of-result
invariant_of-result c = rw c.first_child-next.ensures.child (first-inside c.first_child-next.ensures.nodes.counted c.args.node c.requires)

pub returns-clause-order : goal.returns-clause-order
returns-clause-order c = rw c.first_child-next.ensures.child (begins c.first_child-next.ensures.nodes.counted c.args.node c.requires)

pub returns-clause-within : goal.returns-clause-within
returns-clause-within c = rw (returns-clause-order c) (within-order c.first_child-next.ensures.nodes.counted c.args.node c.requires)

pub returns-clause-few : goal.returns-clause-few
returns-clause-few c = let few = inside-few c.args.self.now.made c.args.self.now.trees c.first_child-next.ensures.nodes.counted c.args.node c.requires in
    omega (arith, ap length (returns-clause-order c), order-long (children_of c.args.node c.args.self.now.trees), few)
