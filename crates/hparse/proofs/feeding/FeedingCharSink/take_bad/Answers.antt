use Rattle.hparse.proofs.Names.{arith, refl}
use Rattle.hparse.proofs.Held.{bad_untold, bad_fed}
use Rattle.hparse.proofs.feeding.FeedingCharSink.take_bad.Goals as goal

pub returns-in-Err : goal.returns-in-Err
returns-in-Err g c = rw (← c.self.view_is) (bad_untold g.S.ErrorSink.gives g.S.TokenSink.gives_token _ _ refl c.args.at c.args.count c.in-Err.refusal
    (omega (arith, c.if-count-eq0.false)) refl refl c.in-Err.ensures)

pub returns : goal.returns
returns g c = rw (← c.self.view_is) (bad_fed g.S.ErrorSink.gives g.S.TokenSink.gives_token _ _ refl c.args.at c.args.count c.tell_bad.new.sink
    c.feed_bad-answer.result (omega (arith, c.if-count-eq0.false)) refl c.feed_bad-answer.ensures.grows c.is_err-self-inside.ensures.value c.in_default.ensures
    c.feed_bad-answer.ensures.takes)
