use Rattle.htoken.proofs.Names.{refl, ap, ◌∙◌, Err, Refusal, cut_ran_out, cut_given, err_is}
use Rattle.htoken.proofs.Handing.{no_token}
use Rattle.htoken.proofs.tokenizer.Tokenizer.cut_off.Goals as goal

pub returns-in_err-end-clause-cuts : goal.returns-in_err-end-clause-cuts
returns-in_err-end-clause-cuts g c = rw (err_is c.from_residual.result _ c.from_residual.ensures.1)
    (λ table body h. cut_ran_out (ap (λ (x : Refusal). Err x) (c.in_err-end.ensures.cut table body h)) refl)

pub returns-clause-cuts : goal.returns-clause-cuts
returns-clause-cuts g c = λ table body h. cut_given _ (c.in_ok-end.ensures.cut table body h)
    (rw (← (c.deref.ensures.value ∙ c.in_ok-push.ensures.items)) (no_token g.S.ErrorSink.gives g.S.TokenSink.gives_token _ _ _ _ c.hand_errors.ensures)) refl
