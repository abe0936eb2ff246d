use Rattle.htoken.proofs.Names.{map, characters_of, known_errors, gives_item, Reports, err_is}
use Rattle.htoken.proofs.Handing.{HandsEvents-append, reports_given, place_given, tokens_left}
use Rattle.htoken.proofs.hand.give_piece.Goals as goal

pub returns-in_err-tell_known : goal.returns-in_err-tell_known
returns-in_err-tell_known g c = let errors = known_errors c.args.found.now c.args.at in
    rw (err_is c.from_residual.result _ c.from_residual.ensures.1)
    (λ names. tokens_left g.S.ErrorSink.gives g.S.TokenSink.gives_token names _ _ (map Reports errors) (characters_of c.args.found.now.characters) c.args.at _
    (reports_given g.S.ErrorSink.gives g.S.TokenSink.gives_token names errors _ _ _ c.in_err-tell_known.ensures))

pub returns : goal.returns
returns g c = λ names. HandsEvents-append (gives_item g.S.ErrorSink.gives g.S.TokenSink.gives_token) names _ _ _ _ _ _
    (reports_given g.S.ErrorSink.gives g.S.TokenSink.gives_token names (known_errors c.args.found.now c.args.at) _ _ _ c.in_ok-tell_known.ensures)
    (place_given g.S.ErrorSink.gives g.S.TokenSink.gives_token names _ _ (characters_of c.args.found.now.characters) c.args.at _ c.give_each.ensures)
