use Rattle.htoken.proofs.Names.{Bool, ℕ, List, sym, subst, Ok, Err, ParseError, Hands, run_events, IsTextWithReferences, gives_item, err_is, TakesTextWithReferences}
use Rattle.htoken.proofs.Handing.{HandsEvents-append, reports_given, errors_left, run_given}
use Rattle.htoken.proofs.with_references.TextWithReferences.give.Goals as goal

pub returns-in_err-take_with_references : goal.returns-in_err-take_with_references
returns-in_err-take_with_references g c = let gives = g.S.ErrorSink.gives in let gives_token = g.S.TokenSink.gives_token in
    rw (err_is c.from_residual.result _ c.from_residual.ensures.1)
    (λ names given with_references. errors_left gives gives_token names _ _ (run_events given) c.args.self.now.raised.errors.items _
    (run_given gives gives_token names _ _ given _ (c.in_err-take_with_references.ensures given (rw c.as_str.ensures with_references))))

pub returns-in_err-hand_errors : goal.returns-in_err-hand_errors
returns-in_err-hand_errors g c = let gives = g.S.ErrorSink.gives in let gives_token = g.S.TokenSink.gives_token in
    rw (err_is c.from_residual-in_err-hand_errors.result _ c.from_residual-in_err-hand_errors.ensures.1)
    (λ names given with_references. HandsEvents-append (gives_item gives gives_token) names _ _ _ (run_events given) _ _ (run_given gives gives_token names _ _
    given _ ((subst (λ (b : Bool). TakesTextWithReferences gives_token c.args.sink.now c.as_str.result.now c.args.at (Ok b) c.take_with_references.new.self)
    c.if-not-branch.false c.in_ok-take_with_references.ensures) given
    (subst (λ (x : List ℕ). IsTextWithReferences given x c.args.at) (sym c.as_str.ensures) with_references)))
    (reports_given gives gives_token names c.args.self.now.raised.errors.items _ _ _
    (subst (λ (es : List ParseError). Hands gives c.take_with_references.new.self es (Err c.in_err-hand_errors.field-0.0) c.hand_errors.new.sink)
    c.deref.ensures.value c.in_err-hand_errors.ensures)))

pub returns : goal.returns
returns g c = λ names given with_references.
    let gives = g.S.ErrorSink.gives in let gives_token = g.S.TokenSink.gives_token in
    HandsEvents-append (gives_item gives gives_token) names _ _ _ (run_events given) _ _ (run_given gives gives_token names _ _ given _
    ((subst (λ (b : Bool). TakesTextWithReferences gives_token c.args.sink.now c.as_str.result.now c.args.at (Ok b) c.take_with_references.new.self)
    c.if-not-branch.false c.in_ok-take_with_references.ensures) given
    (subst (λ (x : List ℕ). IsTextWithReferences given x c.args.at) (sym c.as_str.ensures) with_references))) (reports_given gives gives_token names
    c.args.self.now.raised.errors.items _ _ _ (subst (λ (es : List ParseError). Hands gives c.take_with_references.new.self es (Ok tt) c.hand_errors.new.sink)
    c.deref.ensures.value c.in_ok-hand_errors.ensures))
