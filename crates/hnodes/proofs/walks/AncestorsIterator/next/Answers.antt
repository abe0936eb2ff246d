use Rattle.hnodes.proofs.Names.{ap, sym, ◌∙◌, ◌<◌, ◌∷◌, length, subst, Option, ℕ, rules, IfSome, way_up}
use Rattle.hnodes.proofs.WaysUp.{way-step}
use Rattle.hnodes.proofs.walks.AncestorsIterator.next.Goals as goal

pub returns-clause-steps : goal.returns-clause-steps
returns-clause-steps c =
    let within : c.in_ok-node.node < c.self.inside.tree.now.made =
    subst (λ (o : Option ℕ). IfSome o (λ n. n < c.self.inside.tree.now.made)) c.in_ok-node.was c.self.invariant in
    let step = way-step c.self.inside.tree.now.made c.self.inside.tree.now.trees c.parent-self-inside.ensures.nodes.counted c.in_ok-node.node within in
    sym c.self.view_is ∙ ap (λ o. way_up o c.self.inside.tree.now.trees) c.in_ok-node.was ∙ step
    ∙ ap (λ o. c.in_ok-node.node ∷ way_up o c.self.inside.tree.now.trees) (sym c.parent-self-inside.ensures.parent)

pub returns-clause-goes : goal.returns-clause-goes
returns-clause-goes c = let shorter = ap length (returns-clause-steps c) in search rules
