use Rattle.hnodes.proofs.Names.{refl, with_attribute, attribute_of}
use Rattle.hnodes.proofs.Rows.{same-grown}
use Rattle.hnodes.proofs.Opened.{on_err, opened, edited, edited_view, kept_there, written, unwritten}
use Rattle.hnodes.proofs.tree.Tree.add_attr.Goals as goal

pub add_attr-requires : goal.add_attr-requires
add_attr-requires c =
    kept_there (opened c.self.inside c.args.self.now c.self.view_is c.self.invariant) c.requires c.node.view_is c.index_mut.ensures.value

pub invariant_of-self : goal.invariant_of-self
invariant_of-self c = let o = opened c.self.inside c.args.self.now c.self.view_is c.self.invariant in
    edited o (unwritten o c.requires c.node.view_is c.index_mut.ensures.value (same-grown c.self.inside.store) _ c.in_err-add_attr.ensures.err)

pub returns-in_err-add_attr-clause-err : goal.returns-in_err-add_attr-clause-err
returns-in_err-add_attr-clause-err c = let o = opened c.self.inside c.args.self.now c.self.view_is c.self.invariant in on_err c.from_residual.result
    (edited_view o (unwritten o c.requires c.node.view_is c.index_mut.ensures.value (same-grown c.self.inside.store) _ c.in_err-add_attr.ensures.err))

pub invariant_of-self-2 : goal.invariant_of-self-2
invariant_of-self-2 c = let o = opened c.self.inside c.args.self.now c.self.view_is c.self.invariant in
    edited o (written o c.requires c.node.view_is c.index_mut.ensures.value (same-grown c.self.inside.store) _ (with_attribute (attribute_of c.args.attr)) refl
    c.in_ok-add_attr.ensures.ok)

pub returns-clause-ok : goal.returns-clause-ok
returns-clause-ok c = let o = opened c.self.inside c.args.self.now c.self.view_is c.self.invariant in
    edited_view o (written o c.requires c.node.view_is c.index_mut.ensures.value (same-grown c.self.inside.store) _ (with_attribute (attribute_of c.args.attr))
    refl c.in_ok-add_attr.ensures.ok)
