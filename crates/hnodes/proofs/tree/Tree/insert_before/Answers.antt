use Rattle.hnodes.proofs.Names.{◌∙◌, sym, arith, common_steps}
use Rattle.hnodes.proofs.Opened.{opened, linked, edited, edited_view, gone, neighbours_within, inserted, has_parent}
use Rattle.hnodes.proofs.tree.Tree.insert_before.Goals as goal

pub detach-requires-clause-neighbours : goal.detach-requires-clause-neighbours
detach-requires-clause-neighbours c =
    linked (opened c.self.inside c.args.self.now c.self.view_is c.self.invariant) c.args.child c.requires.child_in

pub unwrap-parent-requires : goal.unwrap-parent-requires
unwrap-parent-requires c = let o = opened c.self.inside c.args.self.now c.self.view_is c.self.invariant in
    let g = gone c.args.child o c.requires.child_in c.requires.sibling_in c.requires.not_inside c.detach.ensures c.sibling.view_is c.index-node.ensures in
    rw c.get.ensures (has_parent g c.requires.sibling_in c.requires.has_parent)

pub hook-requires-clause-parent_in : goal.hook-requires-clause-parent_in
hook-requires-clause-parent_in c = let o = opened c.self.inside c.args.self.now c.self.view_is c.self.invariant in
    let g = gone c.args.child o c.requires.child_in c.requires.sibling_in c.requires.not_inside c.detach.ensures c.sibling.view_is c.index-node.ensures in
    (neighbours_within g).0 c.unwrap-parent.result (sym c.get.ensures ∙ c.unwrap-parent.ensures)

pub hook-requires-clause-previous_in : goal.hook-requires-clause-previous_in
hook-requires-clause-previous_in c = let o = opened c.self.inside c.args.self.now c.self.view_is c.self.invariant in (neighbours_within
    (gone c.args.child o c.requires.child_in c.requires.sibling_in c.requires.not_inside c.detach.ensures c.sibling.view_is c.index-node.ensures)).1

pub invariant_of-self : goal.invariant_of-self
invariant_of-self c = let o = opened c.self.inside c.args.self.now c.self.view_is c.self.invariant in
    let g = gone c.args.child o c.requires.child_in c.requires.sibling_in c.requires.not_inside c.detach.ensures c.sibling.view_is c.index-node.ensures in
    edited o (inserted g c.hook.new.nodes.items c.requires.not_document c.unwrap-parent.result c.to-next.result
    (sym c.get.ensures ∙ c.unwrap-parent.ensures) c.to-next.ensures c.hook.ensures)

pub returns : goal.returns
returns c = let o = opened c.self.inside c.args.self.now c.self.view_is c.self.invariant in
    let g = gone c.args.child o c.requires.child_in c.requires.sibling_in c.requires.not_inside c.detach.ensures c.sibling.view_is c.index-node.ensures in
    edited_view o (inserted g c.hook.new.nodes.items c.requires.not_document c.unwrap-parent.result c.to-next.result
    (sym c.get.ensures ∙ c.unwrap-parent.ensures) c.to-next.ensures c.hook.ensures)

pub hook-requires-clause-child_in : goal.hook-requires-clause-child_in
hook-requires-clause-child_in c = grind (arith, common_steps)

pub hook-requires-clause-next_in : goal.hook-requires-clause-next_in
hook-requires-clause-next_in c = grind (arith, common_steps)

pub index-node-requires : goal.index-node-requires
index-node-requires c = grind (arith, common_steps)

pub hook-requires-clause-few : goal.hook-requires-clause-few
hook-requires-clause-few c = grind (arith, common_steps)
