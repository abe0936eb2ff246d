use Rattle.hnodes.proofs.Names.{arith, common_steps}
use Rattle.hnodes.proofs.Opened.{opened, linked, edited, edited_view, gone, last_within, appended}
use Rattle.hnodes.proofs.tree.Tree.append.Goals as goal

pub detach-requires-clause-neighbours : goal.detach-requires-clause-neighbours
detach-requires-clause-neighbours c =
    linked (opened c.self.inside c.args.self.now c.self.view_is c.self.invariant) c.args.child c.requires.child_in

pub hook-requires-clause-previous_in : goal.hook-requires-clause-previous_in
hook-requires-clause-previous_in c = let o = opened c.self.inside c.args.self.now c.self.view_is c.self.invariant in last_within
    (gone c.args.child o c.requires.child_in c.requires.parent_in c.requires.not_inside c.detach.ensures c.parent.view_is c.index.ensures)

pub invariant_of-self : goal.invariant_of-self
invariant_of-self c = let o = opened c.self.inside c.args.self.now c.self.view_is c.self.invariant in
    let g = gone c.args.child o c.requires.child_in c.requires.parent_in c.requires.not_inside c.detach.ensures c.parent.view_is c.index.ensures in
    edited o (appended g c.hook.new.nodes.items c.requires.not_document c.none.result c.none.ensures c.hook.ensures)

pub returns : goal.returns
returns c = let o = opened c.self.inside c.args.self.now c.self.view_is c.self.invariant in
    let g = gone c.args.child o c.requires.child_in c.requires.parent_in c.requires.not_inside c.detach.ensures c.parent.view_is c.index.ensures in
    edited_view o (appended g c.hook.new.nodes.items c.requires.not_document c.none.result c.none.ensures c.hook.ensures)

pub hook-requires-clause-child_in : goal.hook-requires-clause-child_in
hook-requires-clause-child_in c = grind (arith, common_steps)

pub hook-requires-clause-parent_in : goal.hook-requires-clause-parent_in
hook-requires-clause-parent_in c = grind (arith, common_steps)

pub index-requires : goal.index-requires
index-requires c = grind (arith, common_steps)
