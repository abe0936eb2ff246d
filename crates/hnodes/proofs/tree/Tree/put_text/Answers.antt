use Rattle.hnodes.proofs.Names.{with_text, refl, sym, ◌∙◌, length, arith, eqb-true, eqb-false, text, common_steps}
use Rattle.hnodes.proofs.Opened.{on_err, opened, edited, edited_view, kept_there, unwritten, written}
use Rattle.hnodes.proofs.Placed.{put-nothing, put-joins, put-makes}
use Rattle.hnodes.proofs.tree.Tree.put_text.Goals as goal

pub returns-then-is_empty-clause-ok : goal.returns-then-is_empty-clause-ok
returns-then-is_empty-clause-ok c = put-nothing c.args.text.now c.args.place c.args.self.now (eqb-true _ 0 (sym c.is_empty.ensures ∙ c.if-is_empty.true))

pub add_text-requires : goal.add_text-requires
add_text-requires c = let o = opened c.self.inside c.args.self.now c.self.view_is c.self.invariant in
    kept_there o c.in-Some.ensures.within c.before-in-Some.view_is c.index_mut.ensures.value

pub invariant_of-self : goal.invariant_of-self
invariant_of-self c = let o = opened c.self.inside c.args.self.now c.self.view_is c.self.invariant in
    edited o (unwritten o c.in-Some.ensures.within c.before-in-Some.view_is c.index_mut.ensures.value c.add_text.ensures.grown _
    c.in_err-add_text-in-Some.ensures.err)

pub returns-in_err-add_text-in-Some-clause-err : goal.returns-in_err-add_text-in-Some-clause-err
returns-in_err-add_text-in-Some-clause-err c = let o = opened c.self.inside c.args.self.now c.self.view_is c.self.invariant in
    on_err c.from_residual.result (edited_view o (unwritten o c.in-Some.ensures.within c.before-in-Some.view_is c.index_mut.ensures.value
    c.add_text.ensures.grown _ c.in_err-add_text-in-Some.ensures.err))

pub invariant_of-self-in-Some : goal.invariant_of-self-in-Some
invariant_of-self-in-Some c = let o = opened c.self.inside c.args.self.now c.self.view_is c.self.invariant in
    edited o (written o c.in-Some.ensures.within c.before-in-Some.view_is c.index_mut.ensures.value c.add_text.ensures.grown _ (with_text c.args.text.now) refl
    c.in_ok-add_text-in-Some.ensures.ok)

pub returns-in_ok-add_text-in-Some-clause-ok : goal.returns-in_ok-add_text-in-Some-clause-ok
returns-in_ok-add_text-in-Some-clause-ok c = let o = opened c.self.inside c.args.self.now c.self.view_is c.self.invariant in
    rw (← put-joins c.args.text.now c.args.place c.args.self.now c.in-Some.before c.utf8.text (sym c.text_before.ensures.text ∙ c.in-Some.is))
    (edited_view o (written o c.in-Some.ensures.within c.before-in-Some.view_is c.index_mut.ensures.value c.add_text.ensures.grown _ (with_text c.args.text.now)
    refl c.in_ok-add_text-in-Some.ensures.ok))

pub returns-in_ok-node-in-None-clause-ok : goal.returns-in_ok-node-in-None-clause-ok
returns-in_ok-node-in-None-clause-ok c = let some = eqb-false (length c.args.text.now) 0 (sym c.is_empty.ensures ∙ c.if-is_empty.false) in
    let made = put-makes c.args.text.now c.args.place c.args.self.now c.utf8.text (omega arith) c.text_before.ensures.nodes c.requires
    (sym c.text_before.ensures.text ∙ c.in-None.is) in
    rw (← made, c.insert.ensures, c.in_ok-node-in-None.ensures.ok, c.in_ok-node-in-None.ensures.number.0) refl

pub insert-requires-clause-child_in : goal.insert-requires-clause-child_in
insert-requires-clause-child_in c = grind (arith, common_steps)

pub insert-requires-clause-not_inside : goal.insert-requires-clause-not_inside
insert-requires-clause-not_inside c = grind (arith, common_steps)

pub insert-requires-clause-place : goal.insert-requires-clause-place
insert-requires-clause-place c = grind (arith, common_steps)
