use Rattle.hserialize.proofs.Names.{◌∙◌, ◌∷◌, Enter, ap, refl, true}
use Rattle.hserialize.proofs.Tested.{begun}
use Rattle.hserialize.proofs.Walks.{fails}
use Rattle.hserialize.proofs.plain.is_plain_region.Goals as goal

pub loop-visit-init : goal.loop-visit-init
loop-visit-init c = begun c.args.names.now.table.now c.args.tree.now.made c.args.tree.now.trees c.args.root c.args.top _ _ c.are_names.ensures.names
    c.new-visit-items.ensures.nodes.counted c.requires.made c.requires.not_phrasing c.into_iter-visit-iterator.ensures.into_iter_gives
    c.new-visit-items.ensures.visits

pub returns-then-not-is_plain_node : goal.returns-then-not-is_plain_node
returns-then-not-is_plain_node c = fails _ _ _ (Enter c.in-Enter.node) _ _ (c.in-Some.ensures.steps ∙ ap (λ v. v ∷ c.next.new.self) c.in-Enter.is)
    c.loop-visit.invariant (rw (← c.standing_of-standing.ensures, ← c.is_plain_node.ensures, c.if-not-is_plain_node.true) refl)
