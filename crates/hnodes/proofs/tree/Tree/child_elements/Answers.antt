use Rattle.hnodes.proofs.Names.{◌∙◌, ap, sym, elements_among, siblings_from}
use Rattle.hnodes.proofs.Siblings.{elements-made, children-from}
use Rattle.hnodes.proofs.tree.Tree.child_elements.Goals as goal

pub returns-clause-order : goal.returns-clause-order
returns-clause-order c = let f = c.args.self.now.trees in
    sym c.element_from-next.ensures.same ∙ ap (λ o. elements_among (siblings_from o f) f) c.first_child.ensures.child
    ∙ ap (λ ns. elements_among ns f) (children-from c.first_child.ensures.nodes.counted c.args.node c.requires)

pub returns-clause-within : goal.returns-clause-within
returns-clause-within c = rw (returns-clause-order c) (elements-made c.first_child.ensures.nodes.counted c.args.node c.requires)
