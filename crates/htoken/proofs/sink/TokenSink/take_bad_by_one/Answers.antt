use Rattle.htoken.proofs.Names.{arith, err_is}
use Rattle.htoken.proofs.Handing.{bad_goes_on, bad_refused}
use Rattle.htoken.proofs.sink.TokenSink.take_bad_by_one.Goals as goal

pub returns-in_err-take_text : goal.returns-in_err-take_text
returns-in_err-take_text g c = rw (err_is c.from_residual.result _ c.from_residual.ensures.1) (bad_refused g.Self.TokenSink.gives_token _ _ c.args.at
    c.args.count c.loop-taken.taken c.loop-taken.invariant.takes c.in_err-take_text.field-0.0 _ c.loop-taken-test.true c.in_err-take_text.ensures)

pub loop-taken-preserved : goal.loop-taken-preserved
loop-taken-preserved g c = record {
  few = omega (arith, c.loop-taken-test.true);
  takes = bad_goes_on g.Self.TokenSink.gives_token _ _ c.args.at c.args.count c.loop-taken.taken c.loop-taken.invariant.takes c.take_text.new.self
      c.loop-taken-test.true c.in_ok-take_text.ensures;
}
