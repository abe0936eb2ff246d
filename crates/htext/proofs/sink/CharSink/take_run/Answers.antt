use Rattle.htext.proofs.Names.{◌+◌, arith, err_from_is_err_and, IsUtf8-past_char, Character}
use Rattle.htext.proofs.Wide.{one_more, one_refused, none_left}
use Rattle.htext.proofs.sink.CharSink.take_run.Goals as goal

pub loop-index-preserved : goal.loop-index-preserved
loop-index-preserved g c = let so = c.loop-index.invariant in let step = c.in-Some.ensures.steps in
    record {
      takes = one_more g.Self.CharSink.gives Character _ _ c.loop-index.self (c.args.at + c.loop-index.index-iterator.at) _ so.takes c.in-Some.ch _ so.utf8
          step.1 (c.args.at + c.in-Some.index) (omega (arith, step.0)) c.take_char.new.self (c.args.at + c.next.new.self.at) (omega (arith, step.2))
          c.in_ok-take_char.ensures;
      utf8 = IsUtf8-past_char _ _ c.in-Some.ch so.utf8 step.1;
    }

pub returns-in_err-take_char : goal.returns-in_err-take_char
returns-in_err-take_char g c = let so = c.loop-index.invariant in let step = c.in-Some.ensures.steps in
    let e = err_from_is_err_and c.from_residual.result c.from_residual.ensures.1 in
    rw (e.1, e.2) (one_refused g.Self.CharSink.gives Character _ _ c.loop-index.self (c.args.at + c.loop-index.index-iterator.at) _ so.takes c.in-Some.ch _
    so.utf8 step.1 (c.args.at + c.in-Some.index) (omega (arith, step.0)) c.take_char.new.self c.in_err-take_char.field-0.0 c.in_err-take_char.ensures)

pub returns : goal.returns
returns g c = none_left g.Self.CharSink.gives Character _ _ c.loop-index.self (c.args.at + c.loop-index.index-iterator.at) _ c.loop-index.invariant.takes
    c.in-None.ensures.steps.0
