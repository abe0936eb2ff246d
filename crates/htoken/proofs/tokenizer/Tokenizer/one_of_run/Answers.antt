use Rattle.htoken.proofs.Names.{◌∙◌, ap, arith, begins_with, gives_item, List, ℕ, Ok, Err, sym, subst, take, len_utf8, chars, placed, Placed, Takes, err_is, slice_get, first_cut, first_char, len_utf8_bounds, rules}
use Rattle.htoken.proofs.Fronts.{cut_refused}
use Rattle.htoken.proofs.tokenizer.Tokenizer.one_of_run.Goals as goal

pub returns-clause-takes : goal.returns-clause-takes
returns-clause-takes g c = λ table start before text taken grows h.
    let first = begins_with (chars c.args.run.now.text.now) c.unwrap-ch.result
    (ap (λ (bs : List ℕ). slice_get (chars bs) 0) (sym c.chars.ensures.rest) ∙ sym c.next.ensures.steps.2 ∙ c.unwrap-ch.ensures) in
    let run = c.args.run.now.text.now in
    subst (λ (x : List Placed). Takes (gives_item g.S.ErrorSink.gives g.S.TokenSink.gives_token) table start text x taken c.take.new.names c.args.sink.now
    (Ok tt) c.take.new.sink c.take.new.self) (first_char run (search rules) c.unwrap-ch.result first.0 first.1 c.args.run.now.at
    ∙ ap (λ (n : ℕ). placed c.args.run.now.at (chars (take n run))) (sym c.len_utf8.ensures.value))
    (c.in_ok-take.ensures.takes table start before text taken grows h)

pub returns-clause-few : goal.returns-clause-few
returns-clause-few g c =
    let first = begins_with (chars c.args.run.now.text.now) c.unwrap-ch.result (cc (c.chars.ensures.rest, c.next.ensures.steps.2, c.unwrap-ch.ensures)) in
    let ch = c.unwrap-ch.result in (
      omega (arith, c.len_utf8.ensures.value, (len_utf8_bounds ch).0),
      rw c.len_utf8.ensures.value (first_cut c.args.run.now.text.now (search rules) ch first.0 first.1),
    )

pub returns-in_err-take-clause-takes : goal.returns-in_err-take-clause-takes
returns-in_err-take-clause-takes g c =
    let first = begins_with (chars c.args.run.now.text.now) c.unwrap-ch.result
    (ap (λ (bs : List ℕ). slice_get (chars bs) 0) (sym c.chars.ensures.rest) ∙ sym c.next.ensures.steps.2 ∙ c.unwrap-ch.ensures) in
    let run = c.args.run.now.text.now in
    let ch = c.unwrap-ch.result in
    rw (err_is c.from_residual.result _ c.from_residual.ensures.1) (λ table start before text taken grows h. cut_refused c.args.run.now.at
    (first_cut run (search rules) ch first.0 first.1) (subst (λ (x : List Placed). Takes (gives_item g.S.ErrorSink.gives g.S.TokenSink.gives_token) table start
    text x taken c.take.new.names c.args.sink.now (Err c.in_err-take.field-0.0) c.take.new.sink c.take.new.self)
    (first_char run (search rules) ch first.0 first.1 c.args.run.now.at) (c.in_err-take.ensures.takes table start before text taken grows h)))
