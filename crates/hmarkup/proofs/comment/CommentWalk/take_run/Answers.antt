use Rattle.hmarkup.proofs.Names.{error_if, NestedComment, eqb-true, eqb-false, ◌≡◌, ◌∙◌, sym, [], length, refl, append-nil, err_from_is_err_and, run_ran_out, run_goes_on, nil_from_length, chars-nil, run_refused}
use Rattle.hmarkup.proofs.Outcomes.{begins_of, run_read}
use Rattle.hmarkup.proofs.Handing.{hand_one}
use Rattle.hmarkup.proofs.comment.CommentWalk.take_run.Goals as goal
use Rattle.hmarkup.proofs.comment.CommentWalk.take_run.Goals.{then-is_nested_comment+in_ok-tell, else-is_nested_comment}

pub returns-then-is_empty : goal.returns-then-is_empty
returns-then-is_empty g c = let none : c.args.run.now ≡ [] = nil_from_length c.args.run.now (eqb-true _ 0 (sym c.is_empty.ensures ∙ c.if-is_empty.true)) in
    λ kind text raised h. rw (none, chars-nil) (run_goes_on [] refl (refl, refl) (rw (append-nil text, append-nil raised) h))

pub returns-in_err-tell : goal.returns-in_err-tell
returns-in_err-tell g c = let e = err_from_is_err_and c.from_residual.result c.from_residual.ensures.1 in
    let some = eqb-false (length c.args.run.now) 0 (cc) in
    rw (e.1, e.2) (λ kind text raised h. run_refused _ _ refl (hand_one g.S.ErrorSink.gives _ _ _ _ c.in_err-tell.ensures) (begins_of kind _ _ _ (run_read
    c.args.at c.args.run.now c.utf8.run c.requires some kind c.args.self.now text raised _ (sym c.if-is_nested_comment.true ∙ c.is_nested_comment.ensures) h)))

pub returns-in_err-keep_run : goal.returns-in_err-keep_run
returns-in_err-keep_run g c = let e = err_from_is_err_and c.from_residual-in_err-keep_run.result c.from_residual-in_err-keep_run.ensures.1 in
    let some = eqb-false (length c.args.run.now) 0 (sym c.is_empty.ensures ∙ c.if-is_empty.false) in
    rw (e.1, e.2) (λ kind text raised h. run_ran_out (error_if c.is_nested_comment.result NestedComment c.args.at) refl (elim c.if-is_nested_comment.branch [
      | then-is_nested_comment+in_ok-tell w ↦ rw (w.if-is_nested_comment.true, w.errors-is) (hand_one g.S.ErrorSink.gives _ _ _ _ w.in_ok-tell.ensures)
      | else-is_nested_comment w ↦ rw (w.if-is_nested_comment.false, w.errors-is) (refl, refl)
    ]) (begins_of kind _ _ _
    (run_read c.args.at c.args.run.now c.utf8.run c.requires some kind c.args.self.now text raised c.is_nested_comment.result c.is_nested_comment.ensures h)))

pub returns : goal.returns
returns g c = let some = eqb-false (length c.args.run.now) 0 (sym c.is_empty.ensures ∙ c.if-is_empty.false) in
    rw c.in_ok-keep_run.ensures (λ kind text raised h.
    run_goes_on (error_if c.is_nested_comment.result NestedComment c.args.at) refl (elim c.if-is_nested_comment.branch [
      | then-is_nested_comment+in_ok-tell w ↦ rw (w.if-is_nested_comment.true, w.errors-is) (hand_one g.S.ErrorSink.gives _ _ _ _ w.in_ok-tell.ensures)
      | else-is_nested_comment w ↦ rw (w.if-is_nested_comment.false, w.errors-is) (refl, refl)
    ]) (run_read c.args.at c.args.run.now c.utf8.run c.requires some kind c.args.self.now text raised c.is_nested_comment.result c.is_nested_comment.ensures h))
