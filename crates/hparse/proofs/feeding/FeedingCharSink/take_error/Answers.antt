use Rattle.hparse.proofs.Names.{refl, InputError, gives_item, error_given}
use Rattle.hparse.proofs.Held.{holds_error, proceeds}
use Rattle.hparse.proofs.feeding.FeedingCharSink.take_error.Goals as goal

pub returns : goal.returns
returns g c = let gives = gives_item g.S.ErrorSink.gives g.S.TokenSink.gives_token in
    rw (← c.self.view_is) (proceeds gives _ _ refl (InputError c.args.error) c.take_error-answer.result
    (λ m began fed h. holds_error _ h c.args.error refl refl refl c.take_error-answer.result c.is_err-self-inside.ensures.value
    (error_given g.S.ErrorSink.gives g.S.TokenSink.gives_token c.self.inside.names c.args.error _ _ _ c.take_error-answer.ensures)))
