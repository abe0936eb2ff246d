use Rattle.htoken.proofs.Names.{Some, Alone, err_is}
use Rattle.htoken.proofs.Handing.{error_refused, token_handed}
use Rattle.htoken.proofs.tokenizer.Tokenizer.end_span.Goals as goal

pub returns-in_err-end_errors-clause-handed : goal.returns-in_err-end_errors-clause-handed
returns-in_err-end_errors-clause-handed g c = rw (err_is c.from_residual.result _ c.from_residual.ensures.1) (error_refused g.S.ErrorSink.gives
    g.S.TokenSink.gives_token c.args.self.now.raised.errors.items _ _ (Some (Alone c.args.token)) _ c.in_err-end_errors.ensures.handed)

pub returns-clause-handed : goal.returns-clause-handed
returns-clause-handed g c = token_handed g.S.ErrorSink.gives g.S.TokenSink.gives_token c.args.self.now.raised.errors.items _ _ _ _ _
    c.in_ok-end_errors.ensures.handed c.take_token.ensures
