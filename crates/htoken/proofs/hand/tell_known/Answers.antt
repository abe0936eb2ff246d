use Rattle.htoken.proofs.Names.{map, option_to_list, error, Hands-append, Hands, hand_one, sym, subst, err_is}
use Rattle.htoken.proofs.Handing.{Hands-more}
use Rattle.htoken.proofs.hand.tell_known.Goals as goal

pub returns-in_err-tell_if : goal.returns-in_err-tell_if
returns-in_err-tell_if g c = rw (err_is c.from_residual.result _ c.from_residual.ensures.1)
    (Hands-more g.S.ErrorSink.gives _ _ _ (map (λ code. error code c.args.at) (option_to_list c.args.found.now.fault)) _ c.in_err-tell_if.ensures)

pub returns-in-Some : goal.returns-in-Some
returns-in-Some g c = Hands-append g.S.ErrorSink.gives _ _ _ _ _ _ c.in_ok-tell_if.ensures
    (subst (λ b. Hands g.S.ErrorSink.gives c.tell_if.new.sink (map (λ code. error code c.args.at) (option_to_list b)) c.take_error.result c.take_error.new.self)
    (sym c.in-Some.is) (hand_one g.S.ErrorSink.gives _ _ (error c.in-Some.code c.args.at) _ c.take_error.ensures))
