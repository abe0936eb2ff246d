use Rattle.hnodes.proofs.Names.{ap, sym, ◌∙◌, length, rules}
use Rattle.hnodes.proofs.Siblings.{siblings-on}
use Rattle.hnodes.proofs.walks.ChildrenIterator.next.Goals as goal

pub returns-clause-steps : goal.returns-clause-steps
returns-clause-steps c = sym c.self.view_is
    ∙ siblings-on c.next-self-inside.ensures.nodes.counted c.in_ok-node.was c.self.invariant c.next-self-inside.ensures.sibling

pub returns-clause-goes : goal.returns-clause-goes
returns-clause-goes c = let shorter = ap length (returns-clause-steps c) in search rules
