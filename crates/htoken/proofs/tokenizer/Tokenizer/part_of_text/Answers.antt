use Rattle.htoken.proofs.Names.{refl, sym, subst, chars, placed, err_is}
use Rattle.htoken.proofs.Fronts.{placed_same, IsCalm, taken_now}
use Rattle.htoken.proofs.Handing.{reports_given}
use Rattle.htoken.proofs.InText.{error_refused, text_given, text_refused}
use Rattle.htoken.proofs.tokenizer.Tokenizer.part_of_text.Goals as goal

pub returns-in_err-front-clause-takes : goal.returns-in_err-front-clause-takes
returns-in_err-front-clause-takes g c = let told = c.in_err-front.ensures.front in
    rw (err_is c.from_residual.result _ c.from_residual.ensures.1) (λ names table start before text taken grows h. error_refused _
    (taken_now names (subst IsCalm (sym c.requires.text) tt) grows h) c.requires.text _ (placed c.args.run.now.at (chars c.args.run.now.text.now)) refl _
    _ _ told.0 (reports_given g.S.ErrorSink.gives g.S.TokenSink.gives_token names told.0 _ _ _ told.1))

pub returns-in_err-give_text-clause-takes : goal.returns-in_err-give_text-clause-takes
returns-in_err-give_text-clause-takes g c = let front = c.in_ok-front.ensures.front in
    rw (err_is c.from_residual-in_err-give_text.result _ c.from_residual-in_err-give_text.ensures.1)
    (λ names table start before text taken grows h.
    text_refused g.S.ErrorSink.gives g.S.TokenSink.gives_token (taken_now names (subst IsCalm (sym c.requires.text) tt) grows h) c.requires.text front.front
    _ _ front.handed c.give_text.new.self c.in_err-give_text.ensures.then (placed c.front.result.at (chars c.front.result.text.now))
    (placed_same c.front.ensures.text c.front.ensures.at) c.in_err-give_text.ensures.follows _ _ _ c.in_err-give_text.ensures.handed)

pub returns-then-may_take_with_references-clause-takes : goal.returns-then-may_take_with_references-clause-takes
returns-then-may_take_with_references-clause-takes g c = λ names table start before text taken grows h.
    let front = c.in_ok-front.ensures.front in
    c.take_references.ensures.takes table start names text taken c.args.sink.now
    (text_given g.S.ErrorSink.gives g.S.TokenSink.gives_token (taken_now names (subst IsCalm (sym c.requires.text) tt) grows h) c.requires.text front.front _ _
    front.handed c.give_text.new.self c.in_ok-give_text.ensures.then (placed c.front.result.at (chars c.front.result.text.now))
    (placed_same c.front.ensures.text c.front.ensures.at) c.in_ok-give_text.ensures.follows _ c.in_ok-give_text.ensures.handed)

pub returns-clause-takes : goal.returns-clause-takes
returns-clause-takes g c = λ names table start before text taken grows h.
    let front = c.in_ok-front.ensures.front in
    c.take_end.ensures.takes table start names text taken c.args.sink.now
    (text_given g.S.ErrorSink.gives g.S.TokenSink.gives_token (taken_now names (subst IsCalm (sym c.requires.text) tt) grows h) c.requires.text front.front _ _
    front.handed c.give_text.new.self c.in_ok-give_text.ensures.then (placed c.front.result.at (chars c.front.result.text.now))
    (placed_same c.front.ensures.text c.front.ensures.at) c.in_ok-give_text.ensures.follows _ c.in_ok-give_text.ensures.handed)

pub take_references-requires-clause-ends : goal.take_references-requires-clause-ends
take_references-requires-clause-ends g c = rw c.in_ok-give_text.ensures.then
    (record { cut = c.in_ok-front.ensures.front.front.cut; ends = c.in_ok-front.ensures.ends; whole = c.in_ok-front.ensures.whole })

pub take_end-requires-clause-ends : goal.take_end-requires-clause-ends
take_end-requires-clause-ends g c = rw c.in_ok-give_text.ensures.then
    (record { cut = c.in_ok-front.ensures.front.front.cut; ends = c.in_ok-front.ensures.ends; whole = c.in_ok-front.ensures.whole })
