use Rattle.htoken.proofs.Names.{◌+◌, arith, IsUtf8-past_char, Placed, Handed, Alone, err_is, one_more, one_refused, none_left}
use Rattle.htoken.specs.declared.token.Token.TheVariants as code
use Rattle.htoken.proofs.sink.TokenSink.take_run_by_one.Goals as goal

abbrev token : Placed → Handed
token p = Alone (code.Char p.ch p.at)

pub loop-index-preserved : goal.loop-index-preserved
loop-index-preserved g c = let so = c.loop-index.invariant in let step = c.in-Some.ensures.steps in
    record {
      takes = one_more g.Self.TokenSink.gives_token token _ _ c.loop-index.self (c.args.at + c.loop-index.index-iterator.at) _ so.takes c.in-Some.ch _ so.utf8
          step.1 (c.args.at + c.in-Some.index) (omega (arith, step.0)) c.take_text.new.self (c.args.at + c.next.new.self.at) (omega (arith, step.2))
          c.in_ok-take_text.ensures;
      utf8 = IsUtf8-past_char _ _ c.in-Some.ch so.utf8 step.1;
    }

pub returns-in_err-take_text : goal.returns-in_err-take_text
returns-in_err-take_text g c = let so = c.loop-index.invariant in let step = c.in-Some.ensures.steps in
    rw (err_is c.from_residual.result _ c.from_residual.ensures.1)
    (one_refused g.Self.TokenSink.gives_token token _ _ c.loop-index.self (c.args.at + c.loop-index.index-iterator.at) _ so.takes c.in-Some.ch _ so.utf8 step.1
    (c.args.at + c.in-Some.index) (omega (arith, step.0)) c.take_text.new.self c.in_err-take_text.field-0.0 c.in_err-take_text.ensures)

pub returns : goal.returns
returns g c = none_left g.Self.TokenSink.gives_token token _ _ c.loop-index.self (c.args.at + c.loop-index.index-iterator.at) _ c.loop-index.invariant.takes
    c.in-None.ensures.steps.0
