use Rattle.hparse.proofs.Names.{List, arith, refl, sym, subst, Ok, Err, err_from_is_err_and, Hands, Read, input_errors, next_bad}
use Rattle.hparse.proofs.feeding.tell_bad.Goals as goal

pub returns-in_err-take_error : goal.returns-in_err-take_error
returns-in_err-take_error g c = let e = err_from_is_err_and c.from_residual.result c.from_residual.ensures.1 in
    rw (e.1, e.2) (c.loop-told.invariant.tells (Err c.in_err-take_error.field-0.0) _
    (subst (λ (rs : List Read). Hands g.S.ErrorSink.gives c.loop-told.sink (input_errors rs) (Err c.in_err-take_error.field-0.0) c.take_error.new.self)
    (sym (next_bad c.args.at c.args.count c.loop-told.told c.loop-told-test.true))
    (Err c.in_err-take_error.field-0.0, _, c.in_err-take_error.ensures, (refl, refl))))

pub loop-told-preserved : goal.loop-told-preserved
loop-told-preserved g c = record {
  few = omega (arith, c.loop-told-test.true);
  tells = λ answer new h. c.loop-told.invariant.tells answer new
      (subst (λ (rs : List Read). Hands g.S.ErrorSink.gives c.loop-told.sink (input_errors rs) answer new)
      (sym (next_bad c.args.at c.args.count c.loop-told.told c.loop-told-test.true)) (Ok tt, c.take_error.new.self, c.in_ok-take_error.ensures, h));
}
