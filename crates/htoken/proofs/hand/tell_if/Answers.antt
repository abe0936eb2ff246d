use Rattle.htoken.proofs.Names.{sym, subst, error, error_if, Hands, hand_one}
use Rattle.htoken.proofs.hand.tell_if.Goals as goal

pub returns-then-says : goal.returns-then-says
returns-then-says g c = subst (λ b. Hands g.S.ErrorSink.gives c.args.sink.now (error_if b c.args.code c.args.at) c.take_error.result c.take_error.new.self)
    (sym c.if-says.true) (hand_one g.S.ErrorSink.gives _ _ (error c.args.code c.args.at) _ c.take_error.ensures)
