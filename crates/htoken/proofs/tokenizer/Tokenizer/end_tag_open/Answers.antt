use Rattle.htoken.proofs.Names.{ap, Err, Refusal, err_is, ◌≡◌, true, not, ◌||◌, refl, arith, rules, nat_tests, MissingEndTagName, is_letter, is_greater, error, gives_item}
use Rattle.htoken.proofs.Going.{ran_out_of}
use Rattle.htoken.proofs.Handing.{error_given}
use Rattle.htoken.proofs.InData.{bogus_from_none, nothing_is, end_letter_follows, end_other_follows}
use Rattle.htoken.proofs.tokenizer.Tokenizer.end_tag_open.Goals as goal

pub returns-in-62 : goal.returns-in-62
returns-in-62 g c = λ table start names text taken h.
    nothing_is _ h c.requires.0 c.requires.1 _ _ _ _ (record { kind_is = refl; last_is = refl; at_is = refl; stays = (refl, refl, refl) }) refl refl c.in-62.is
    (error_given g.S.ErrorSink.gives g.S.TokenSink.gives_token names (error MissingEndTagName c.args.p.at) _ _ _ c.take_error.ensures)

pub returns-in_ok-begin_tag-in_default : goal.returns-in_ok-begin_tag-in_default
returns-in_ok-begin_tag-in_default g c = λ table start names text taken h.
    let letter : is_letter c.args.p.ch ≡ true = grind (arith, nat_tests) in
    end_letter_follows _ h c.requires.0 c.requires.1 _ _ c.in_ok-begin_tag-in_default.ensures letter

pub returns-in_err-begin_held-in_default-2 : goal.returns-in_err-begin_held-in_default-2
returns-in_err-begin_held-in_default-2 g c =
    rw (err_is c.from_residual-in_err-begin_held-in_default-2.result _ c.from_residual-in_err-begin_held-in_default-2.ensures.1)
    (λ table start names text taken h. ran_out_of h (ap (λ (x : Refusal). Err x) c.in_err-begin_held-in_default-2.ensures))

pub returns-in_ok-begin_held-in_default-2 : goal.returns-in_ok-begin_held-in_default-2
returns-in_ok-begin_held-in_default-2 g c = λ table start names text taken h.
    let other : not (is_letter c.args.p.ch || is_greater c.args.p.ch) ≡ true = grind (arith, nat_tests) in
    c.in_comment.ensures table start names text taken (end_other_follows (gives_item g.S.ErrorSink.gives g.S.TokenSink.gives_token) h c.requires.0 c.requires.1
    _ (bogus_from_none _ (record c.args.self.now { held = c.clear.new.self }) _ _ _ c.clear.ensures.items c.in_ok-begin_held-in_default-2.ensures.1) other)

pub returns-in_err-begin_tag-in_default : goal.returns-in_err-begin_tag-in_default
returns-in_err-begin_tag-in_default g c = λ table start names text taken h. ran_out_of h (search rules)
