use Rattle.hserialize.proofs.Names.{◌≡◌, ap, sym, ◌∙◌, None, rules, visits_from, child-inside, eq-eqb, refl}
use Rattle.hserialize.proofs.Moves.{begins, begins-none}
use Rattle.hserialize.proofs.walk.first_visit.Goals as goal

pub returns-clause-visits : goal.returns-clause-visits
returns-clause-visits c = λ reach. begins c.args.tree.now.made c.args.tree.now.trees c.first_child.ensures.nodes.counted c.args.root reach c.in_ok-child.child
    c.requires (sym c.first_child.ensures.child ∙ c.in_ok-child.was)

pub returns-clause-inside : goal.returns-clause-inside
returns-clause-inside c =
    child-inside c.first_child.ensures.nodes.counted c.args.root c.args.root c.in_ok-child.child c.requires
    (sym c.first_child.ensures.child ∙ c.in_ok-child.was) (rw (eq-eqb c.args.root c.args.root refl) refl)

pub returns-in_err-child-clause-visits : goal.returns-in_err-child-clause-visits
returns-in_err-child-clause-visits c = λ reach.
    let ended : c.from_residual.result ≡ None = search (rules, c.from_residual.ensures) in
    ap (λ o. visits_from reach c.args.root o c.args.tree.now.trees) ended ∙ begins-none c.args.tree.now.made c.args.tree.now.trees
    c.first_child.ensures.nodes.counted c.args.root reach c.requires (sym c.first_child.ensures.child ∙ c.in_err-child.was)
