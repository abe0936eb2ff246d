use Rattle.hserialize.proofs.Names.{sym, ◌∙◌, ap, ◌∷◌, Option, None, ℕ, ◌≡◌, rules, way_up, after_ends, visits_from, Leave, passes, apart, own-inside}
use Rattle.hserialize.proofs.Moves.{next, climbs, climbs-inside, ends}
use Rattle.hserialize.proofs.walk.visit_after.Goals as goal

pub returns-in-Some-clause-visits : goal.returns-in-Some-clause-visits
returns-in-Some-clause-visits c = λ reach. next c.args.tree.now.made c.args.tree.now.trees c.next.ensures.nodes.counted c.args.root reach c.args.node
    c.in-Some.next c.requires.made c.requires.inside (sym c.next.ensures.sibling ∙ c.in-Some.is)

pub returns-in-Some-clause-inside : goal.returns-in-Some-clause-inside
returns-in-Some-clause-inside c = let counted = c.next.ensures.nodes.counted in let f = c.args.tree.now.trees in
    (passes counted c.args.root c.args.node c.in-Some.next c.requires.made (sym c.next.ensures.sibling ∙ c.in-Some.is)
    (apart c.args.node c.args.root f c.requires.inside) (own-inside c.args.tree.now.made f counted c.args.root c.args.node c.requires.inside)).1

pub returns-in_err-parent-clause-visits : goal.returns-in_err-parent-clause-visits
returns-in_err-parent-clause-visits c = λ reach.
    let ended : None ≡ c.from_residual.result = search (rules, c.from_residual.ensures) in
    climbs c.args.tree.now.made c.args.tree.now.trees c.next.ensures.nodes.counted c.args.root reach c.args.node c.requires.made c.requires.inside
    (sym c.next.ensures.sibling ∙ c.in_default.is)
    ∙ ap (λ (o : Option ℕ). Leave c.args.node ∷ after_ends reach c.args.root (way_up o c.args.tree.now.trees) c.args.tree.now.trees)
    (sym c.parent.ensures.parent ∙ c.in_err-parent.was) ∙ ap (λ o. Leave c.args.node ∷ visits_from reach c.args.root o c.args.tree.now.trees) ended

pub returns-then-eq-clause-visits : goal.returns-then-eq-clause-visits
returns-then-eq-clause-visits c = λ reach. climbs c.args.tree.now.made c.args.tree.now.trees c.next.ensures.nodes.counted c.args.root reach c.args.node
    c.requires.made c.requires.inside (sym c.next.ensures.sibling ∙ c.in_default.is)
    ∙ ap (λ vs. Leave c.args.node ∷ vs) (ends c.args.tree.now.made c.args.tree.now.trees c.parent.ensures.nodes.counted c.args.root reach c.args.node
    c.in_ok-parent.parent (sym c.parent.ensures.parent ∙ c.in_ok-parent.was) (search (rules, c.if-eq.true, c.eq.ensures)))

pub returns-clause-visits : goal.returns-clause-visits
returns-clause-visits c = λ reach. climbs c.args.tree.now.made c.args.tree.now.trees c.next.ensures.nodes.counted c.args.root reach c.args.node c.requires.made
    c.requires.inside (sym c.next.ensures.sibling ∙ c.in_default.is)
    ∙ ap (λ (o : Option ℕ). Leave c.args.node ∷ after_ends reach c.args.root (way_up o c.args.tree.now.trees) c.args.tree.now.trees)
    (sym c.parent.ensures.parent ∙ c.in_ok-parent.was)

pub returns-clause-inside : goal.returns-clause-inside
returns-clause-inside c = (
  c.in_ok-parent.ensures.within,
  climbs-inside c.args.tree.now.made c.args.tree.now.trees c.parent.ensures.nodes.counted c.args.root c.args.node c.in_ok-parent.parent c.requires.made
      c.requires.inside (sym c.parent.ensures.parent ∙ c.in_ok-parent.was) (search (rules, c.if-eq.false, c.eq.ensures)),
)
