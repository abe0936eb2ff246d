use Rattle.hnodes.proofs.Rows.{same-grown}
use Rattle.hnodes.proofs.Opened.{opened, kept_there, edited, edited_view, unwritten}
use Rattle.hnodes.proofs.tree.Tree.widen.Goals as goal

pub invariant_of-self : goal.invariant_of-self
invariant_of-self c = let o = opened c.self.inside c.args.self.now c.self.view_is c.self.invariant in
    let kept = kept_there o c.requires c.node.view_is c.index_mut.ensures.value in edited o (unwritten o c.requires c.node.view_is c.index_mut.ensures.value
    (same-grown c.self.inside.store) _ (c.index.ensures c.self.inside.store kept))

pub returns : goal.returns
returns c = let o = opened c.self.inside c.args.self.now c.self.view_is c.self.invariant in
    let kept = kept_there o c.requires c.node.view_is c.index_mut.ensures.value in edited_view o (unwritten o c.requires c.node.view_is
    c.index_mut.ensures.value (same-grown c.self.inside.store) _ (c.index.ensures c.self.inside.store kept))
