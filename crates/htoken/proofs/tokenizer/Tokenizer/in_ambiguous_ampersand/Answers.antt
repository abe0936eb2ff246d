use Rattle.htoken.proofs.Names.{◌≡◌, true, false, arith, nat_tests, is_alphanumeric, gives_item, err_is}
use Rattle.htoken.proofs.Going.{takes_after}
use Rattle.htoken.proofs.Handing.{reports_given}
use Rattle.htoken.proofs.InReference.{run_goes_on, run_ended, run_refused}
use Rattle.htoken.proofs.tokenizer.Tokenizer.in_ambiguous_ampersand.Goals as goal

pub returns-then-is_ascii_alphanumeric : goal.returns-then-is_ascii_alphanumeric
returns-then-is_ascii_alphanumeric g c = λ table start names text taken h.
    let letter : is_alphanumeric c.args.p.ch ≡ true = grind (arith, nat_tests) in run_goes_on _ h letter _ _ _ (c.give.ensures names)

pub returns-in_err-tell_unknown : goal.returns-in_err-tell_unknown
returns-in_err-tell_unknown g c = rw (err_is c.from_residual.result _ c.from_residual.ensures.1) (λ table start names text taken h.
    let other : is_alphanumeric c.args.p.ch ≡ false = grind (arith, nat_tests) in
    run_refused _ h other _ _ _ _ (reports_given g.S.ErrorSink.gives g.S.TokenSink.gives_token names _ _ _ _ c.in_err-tell_unknown.ensures))

pub returns : goal.returns
returns g c = λ table start names text taken h.
    let other : is_alphanumeric c.args.p.ch ≡ false = grind (arith, nat_tests) in
    takes_after _ (reports_given g.S.ErrorSink.gives g.S.TokenSink.gives_token names _ _ _ _ c.in_ok-tell_unknown.ensures)
    (c.in_text.ensures table start names text _ (run_ended (gives_item g.S.ErrorSink.gives g.S.TokenSink.gives_token) h other))
