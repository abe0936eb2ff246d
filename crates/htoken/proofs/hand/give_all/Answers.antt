use Rattle.htoken.proofs.Names.{ap, refl, run_tokens, err_is}
use Rattle.htoken.proofs.Handing.{item_next, item_refused, item_taken}
use Rattle.htoken.proofs.hand.give_all.Goals as goal

pub loop-p-preserved : goal.loop-p-preserved
loop-p-preserved g c = item_taken g.S.TokenSink.gives_token _ _ (run_tokens c.args.text.now) _ _ _
    (ap run_tokens (item_next c.args.text.now c.loop-p.p-index _ _ c.loop-p-test.true refl)) c.loop-p.invariant _ c.in_ok-take_text.ensures

pub returns-in_err-take_text : goal.returns-in_err-take_text
returns-in_err-take_text g c =
    rw (err_is c.from_residual.result _ c.from_residual.ensures.1) (item_refused g.S.TokenSink.gives_token _ _ (run_tokens c.args.text.now) _ _ _
    (ap run_tokens (item_next c.args.text.now c.loop-p.p-index _ _ c.loop-p-test.true refl)) c.loop-p.invariant _ _ c.in_err-take_text.ensures)
