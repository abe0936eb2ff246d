use Rattle.htoken.proofs.Names.{ap, Err, Refusal, err_is, ◌≡◌, true, refl, arith, rules, nat_tests, is_letter, gives_item}
use Rattle.htoken.proofs.Going.{ran_out_of}
use Rattle.htoken.proofs.InData.{bogus_from_none, solidus_follows, bang_follows, question_follows, letter_follows}
use Rattle.htoken.proofs.tokenizer.Tokenizer.tag_open.Goals as goal

pub returns-in-47 : goal.returns-in-47
returns-in-47 g c = λ table start names text taken h.
    solidus_follows _ h c.requires _ _ (record { kind_is = refl; last_is = refl; at_is = refl; stays = (refl, refl, refl) }) refl refl c.in-47.is

pub returns-in-33 : goal.returns-in-33
returns-in-33 g c = λ table start names text taken h. bang_follows _ h c.requires _ _
    (record { kind_is = refl; last_is = refl; at_is = refl; stays = (refl, refl, refl) }) refl c.clear.ensures.items refl c.in-33.is

pub returns-in_err-begin_held-in-63 : goal.returns-in_err-begin_held-in-63
returns-in_err-begin_held-in-63 g c = rw (err_is c.from_residual.result _ c.from_residual.ensures.1)
    (λ table start names text taken h. ran_out_of h (ap (λ (x : Refusal). Err x) c.in_err-begin_held-in-63.ensures))

pub returns-in_ok-begin_held-in-63 : goal.returns-in_ok-begin_held-in-63
returns-in_ok-begin_held-in-63 g c = λ table start names text taken h.
    c.in_comment.ensures table start names text taken (question_follows (gives_item g.S.ErrorSink.gives g.S.TokenSink.gives_token) h c.requires _
    (bogus_from_none _ (record c.args.self.now { held = c.clear-in-63.new.self }) _ _ _ c.clear-in-63.ensures.items c.in_ok-begin_held-in-63.ensures.1)
    c.in-63.is)

pub returns-in_ok-begin_tag-in_default : goal.returns-in_ok-begin_tag-in_default
returns-in_ok-begin_tag-in_default g c = λ table start names text taken h.
    let letter : is_letter c.args.p.ch ≡ true = grind (arith, nat_tests) in letter_follows _ h c.requires _ _ c.in_ok-begin_tag-in_default.ensures letter

pub returns-in_err-begin_tag-in_default : goal.returns-in_err-begin_tag-in_default
returns-in_err-begin_tag-in_default g c = λ table start names text taken h. ran_out_of h (search rules)
