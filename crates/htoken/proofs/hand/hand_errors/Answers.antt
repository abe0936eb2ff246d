use Rattle.htoken.proofs.Names.{refl, err_is}
use Rattle.htoken.proofs.Handing.{item_next, item_refused, item_taken}
use Rattle.htoken.proofs.hand.hand_errors.Goals as goal

pub loop-error-preserved : goal.loop-error-preserved
loop-error-preserved g c = item_taken g.S.ErrorSink.gives _ _ c.args.errors.now _ _ _
    (item_next c.args.errors.now c.loop-error.error-index _ _ c.loop-error-test.true refl) c.loop-error.invariant _ c.in_ok-take_error.ensures

pub returns-in_err-take_error : goal.returns-in_err-take_error
returns-in_err-take_error g c = rw (err_is c.from_residual.result _ c.from_residual.ensures.1) (item_refused g.S.ErrorSink.gives _ _ c.args.errors.now _ _ _
    (item_next c.args.errors.now c.loop-error.error-index _ _ c.loop-error-test.true refl) c.loop-error.invariant _ _ c.in_err-take_error.ensures)
