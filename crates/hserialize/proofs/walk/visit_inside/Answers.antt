use Rattle.hserialize.proofs.Names.{sym, ◌∙◌, rules, child-inside, own-inside, arith, common_steps}
use Rattle.hserialize.proofs.Moves.{descends}
use Rattle.hserialize.proofs.walk.visit_inside.Goals as goal

pub returns-in-Some-clause-visits : goal.returns-in-Some-clause-visits
returns-in-Some-clause-visits c = descends c.args.tree.now.made c.args.tree.now.trees c.first_child.ensures.nodes.counted c.args.root c.args.reach c.args.node
    c.in-Some.child c.requires.made c.requires.inside (sym c.first_child.ensures.child ∙ c.in-Some.is)
    (λ w is. c.goes_in.ensures w is ∙ search (rules, c.if-goes_in.true))

pub returns-in-Some-clause-inside : goal.returns-in-Some-clause-inside
returns-in-Some-clause-inside c = let counted = c.first_child.ensures.nodes.counted in
    child-inside counted c.args.root c.args.node c.in-Some.child c.requires.made
    (sym c.first_child.ensures.child ∙ c.in-Some.is) (own-inside c.args.tree.now.made c.args.tree.now.trees counted c.args.root c.args.node c.requires.inside)

pub returns-in_default-clause-visits : goal.returns-in_default-clause-visits
returns-in_default-clause-visits c = grind (arith, common_steps)
