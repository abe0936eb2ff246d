use Rattle.hnodes.proofs.Names.{◌∙◌, ap, sym, elements_among, siblings_from, slice_get}
use Rattle.hnodes.proofs.Siblings.{element-at_first, children-from}
use Rattle.hnodes.proofs.tree.Tree.first_element_child.Goals as goal

pub returns-clause-child : goal.returns-clause-child
returns-clause-child c = let f = c.args.self.now.trees in
    element-at_first f c.args.self.now.made c.element_from.result c.element_from.ensures.element ∙ ap (λ ns. slice_get ns 0) (sym c.element_from.ensures.same)
    ∙ ap (λ o. slice_get (elements_among (siblings_from o f) f) 0) c.first_child-first.ensures.child
    ∙ ap (λ ns. slice_get (elements_among ns f) 0) (children-from c.first_child-first.ensures.nodes.counted c.args.node c.requires)
