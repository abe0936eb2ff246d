use Rattle.htext.proofs.Names.{arith, err_from_is_err_and}
use Rattle.htext.proofs.Handing.{bad_goes_on, bad_untold, bad_ungiven}
use Rattle.htext.proofs.sink.CharSink.take_bad.Goals as goal

pub returns-in_err-take_error : goal.returns-in_err-take_error
returns-in_err-take_error g c = let e = err_from_is_err_and c.from_residual.result c.from_residual.ensures.1 in
    rw (e.1, e.2) (bad_untold g.Self.CharSink.gives _ _ c.args.at c.args.count c.loop-taken.taken c.loop-taken.invariant.takes c.in_err-take_error.field-0.0 _
    c.loop-taken-test.true c.in_err-take_error.ensures)

pub returns-in_err-take_char : goal.returns-in_err-take_char
returns-in_err-take_char g c = let e = err_from_is_err_and c.from_residual-in_err-take_char.result c.from_residual-in_err-take_char.ensures.1 in
    rw (e.1, e.2) (bad_ungiven g.Self.CharSink.gives _ _ c.args.at c.args.count c.loop-taken.taken c.loop-taken.invariant.takes c.take_error.new.self _
    c.in_err-take_char.field-0.0 c.loop-taken-test.true c.in_ok-take_error.ensures c.in_err-take_char.ensures)

pub loop-taken-preserved : goal.loop-taken-preserved
loop-taken-preserved g c = record {
  few = omega (arith, c.loop-taken-test.true);
  takes = bad_goes_on g.Self.CharSink.gives _ _ c.args.at c.args.count c.loop-taken.taken c.loop-taken.invariant.takes c.take_error.new.self
      c.take_char.new.self c.loop-taken-test.true c.in_ok-take_error.ensures c.in_ok-take_char.ensures;
}
