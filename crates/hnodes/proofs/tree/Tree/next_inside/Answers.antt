use Rattle.hnodes.proofs.Names.{◌∙◌, ◌∷◌, ap, sym}
use Rattle.hnodes.proofs.TreeOrder.{child-inside, descends, leaf, own-inside}
use Rattle.hnodes.proofs.tree.Tree.next_inside.Goals as goal

pub returns-in-Some-clause-next : goal.returns-in-Some-clause-next
returns-in-Some-clause-next c = descends c.first_child.ensures.nodes.counted c.args.top c.args.node c.in-Some.child c.requires.made
    (sym c.first_child.ensures.child ∙ c.in-Some.is) c.requires.inside

pub returns-in-Some-clause-inside : goal.returns-in-Some-clause-inside
returns-in-Some-clause-inside c = child-inside c.first_child.ensures.nodes.counted c.args.top c.args.node c.in-Some.child c.requires.made
    (sym c.first_child.ensures.child ∙ c.in-Some.is) (own-inside _ _ c.first_child.ensures.nodes.counted c.args.top c.args.node c.requires.inside)

pub returns-in-None-clause-next : goal.returns-in-None-clause-next
returns-in-None-clause-next c = leaf c.first_child.ensures.nodes.counted c.args.top c.args.node c.requires.made
    (sym c.first_child.ensures.child ∙ c.in-None.is) c.requires.inside ∙ ap (λ xs. c.args.node ∷ xs) c.next_outside.ensures.next
