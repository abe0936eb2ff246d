use Rattle.hnodes.proofs.Names.{◌<◌, ◌∷◌, ◌∙◌, ap, sym, subst, length, Option, ℕ, rules, IfSome, IsTrue, elements_among, is_element, siblings_from}
use Rattle.hnodes.proofs.Siblings.{element-or, siblings-step}
use Rattle.hnodes.proofs.elements.ChildElementsIterator.next.Goals as goal

pub returns-clause-steps : goal.returns-clause-steps
returns-clause-steps c = let f = c.self.inside.tree.now.trees in
    let this : (c.in_ok-node.node < c.self.inside.tree.now.made) × IsTrue (is_element f c.in_ok-node.node) =
    subst (λ (o : Option ℕ). IfSome o (λ n. (n < c.self.inside.tree.now.made) × IsTrue (is_element f n))) c.in_ok-node.was c.self.invariant in
    sym c.self.view_is ∙ ap (λ o. elements_among (siblings_from o f) f) c.in_ok-node.was
    ∙ ap (λ ns. elements_among ns f) (siblings-step c.next.ensures.nodes.counted c.in_ok-node.node this.0)
    ∙ ap (λ o. elements_among (c.in_ok-node.node ∷ siblings_from o f) f) (sym c.next.ensures.sibling)
    ∙ element-or f c.in_ok-node.node (siblings_from c.next.result f) this.1 ∙ ap (λ ns. c.in_ok-node.node ∷ ns) c.element_from-self-inside.ensures.same

pub returns-clause-goes : goal.returns-clause-goes
returns-clause-goes c = let shorter = ap length (returns-clause-steps c) in search rules
