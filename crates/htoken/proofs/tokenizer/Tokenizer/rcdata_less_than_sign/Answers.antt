use Rattle.htoken.proofs.Names.{◌≡◌, false, eqb, refl, arith, nat_tests, gives_item, err_is}
use Rattle.htoken.proofs.Going.{takes_after}
use Rattle.htoken.proofs.InRaw.{raw_solidus_follows, less_given, less_refused}
use Rattle.htoken.proofs.tokenizer.Tokenizer.rcdata_less_than_sign.Goals as goal

pub returns-then-p-eq47 : goal.returns-then-p-eq47
returns-then-p-eq47 g c = λ table start names text taken h. raw_solidus_follows _ h c.requires _ _
    (record { kind_is = refl; last_is = refl; at_is = refl; stays = (refl, refl, refl) }) refl refl refl refl c.clear.ensures.items c.if-p-eq47.true

pub returns-in_err-give_raw : goal.returns-in_err-give_raw
returns-in_err-give_raw g c = rw (err_is c.from_residual.result _ c.from_residual.ensures.1) (λ table start names text taken h.
    let other : eqb c.args.p.ch 47 ≡ false = grind (arith, nat_tests) in less_refused _ h c.requires _ _ _ _ other (c.in_err-give_raw.ensures.handed names))

pub returns : goal.returns
returns g c = λ table start names text taken h.
    let other : eqb c.args.p.ch 47 ≡ false = grind (arith, nat_tests) in
    takes_after _ (c.in_ok-give_raw.ensures.handed names) (c.in_text.ensures table start names text _
    (less_given (gives_item g.S.ErrorSink.gives g.S.TokenSink.gives_token) h c.requires _ other c.in_ok-give_raw.ensures.follows))
