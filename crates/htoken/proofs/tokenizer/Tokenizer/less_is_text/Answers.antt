use Rattle.htoken.proofs.Names.{refl, gives_item, err_is}
use Rattle.htoken.proofs.Going.{takes_after}
use Rattle.htoken.proofs.InData.{other_follows, other_refused}
use Rattle.htoken.proofs.tokenizer.Tokenizer.less_is_text.Goals as goal

pub returns-in_err-give_faulty : goal.returns-in_err-give_faulty
returns-in_err-give_faulty g c = rw (err_is c.from_residual.result _ c.from_residual.ensures.1)
    (λ table start names text taken h. other_refused _ h c.requires.state _ _ _ _ c.requires.other (c.in_err-give_faulty.ensures names))

pub returns : goal.returns
returns g c = λ table start names text taken h. takes_after _ (c.in_ok-give_faulty.ensures names)
    (c.in_text.ensures table start names text _ (other_follows (gives_item g.S.ErrorSink.gives g.S.TokenSink.gives_token) h c.requires.state _
    (record { kind_is = refl; last_is = refl; at_is = refl; stays = (refl, refl, refl) }) refl refl c.requires.other))
