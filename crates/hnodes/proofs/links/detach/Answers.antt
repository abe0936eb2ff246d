use Rattle.hnodes.proofs.Names.{ℕ, Option, sym, ◌∙◌, subst, with_place, IsChanged, arith, common_steps}
use Rattle.hnodes.proofs.Rows.{as_many, neighbours, row_seen, detached_by, stays_by}
use Rattle.hnodes.proofs.links.detach.Goals as goal

pub link_after-requires-clause-parent_in : goal.link_after-requires-clause-parent_in
link_after-requires-clause-parent_in c =
    (neighbours _ _ _ _ _ c.child.view_is c.index-node.ensures c.requires.neighbours).0 c.in-Some.parent (sym c.get.ensures ∙ c.in-Some.is)

pub link_after-requires-clause-before_in : goal.link_after-requires-clause-before_in
link_after-requires-clause-before_in c = (neighbours _ _ _ _ _ c.child.view_is c.index-node.ensures c.requires.neighbours).1

pub link_before-requires-clause-parent_in : goal.link_before-requires-clause-parent_in
link_before-requires-clause-parent_in c = rw (as_many _ _ c.link_after.ensures.contents)
    ((neighbours _ _ _ _ _ c.child.view_is c.index-node.ensures c.requires.neighbours).0 c.in-Some.parent (sym c.get.ensures ∙ c.in-Some.is))

pub link_before-requires-clause-after_in : goal.link_before-requires-clause-after_in
link_before-requires-clause-after_in c =
    rw (as_many _ _ c.link_after.ensures.contents) (neighbours _ _ _ _ _ c.child.view_is c.index-node.ensures c.requires.neighbours).2

pub returns-in-Some : goal.returns-in-Some
returns-in-Some c = detached_by _ _ _ _ _ _ _ (λ s. row_seen s _ _ _ _ c.child.view_is c.requires.child_in c.index-node.ensures)
    (sym c.get.ensures ∙ c.in-Some.is) c.link_after.ensures c.link_before.ensures
    (subst (λ (o : Option ℕ). IsChanged c.args.child (with_place o o o) c.link_before.new.nodes.items c.set_place.new.nodes.items) c.none-none.ensures
    c.set_place.ensures)

pub returns-in_default : goal.returns-in_default
returns-in_default c = stays_by _ _ _ (λ s. row_seen s _ _ _ _ c.child.view_is c.requires.child_in c.index-node.ensures) (sym c.get.ensures ∙ c.in_default.is)

pub set_place-requires : goal.set_place-requires
set_place-requires c = grind (arith, common_steps)
