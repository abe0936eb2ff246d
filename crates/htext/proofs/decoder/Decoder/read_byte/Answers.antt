use Rattle.htext.proofs.Names.{◌∷◌, [], drop, refl, sym, ap, ◌∙◌, arith, length, length-drop, err_from_is_err_and}
use Rattle.htext.proofs.Handing.{ran_out_before}
use Rattle.htext.proofs.Advancing.{piece_stops, piece_taken}
use Rattle.htext.proofs.decoder.Decoder.read_byte.Goals as goal

pub returns-in_err-push : goal.returns-in_err-push
returns-in_err-push g c = let e = err_from_is_err_and c.from_residual.result c.from_residual.ensures.1 in
    rw (← c.self.view_is, e.1, e.2)
    (record { feeds = λ fed h. ran_out_before g.S.CharSink.gives _ fed (c.args.byte ∷ []) c.args.sink.now; fed = tt; how = refl })

pub returns-in_err-count : goal.returns-in_err-count
returns-in_err-count g c = let e = err_from_is_err_and c.from_residual-in_err-count.result c.from_residual-in_err-count.ensures.1 in
    rw (← c.self.view_is, c.advance.ensures.how.0, c.advance.ensures.how.1, c.advance.ensures.how.2, e.1, e.2) (piece_stops g.S.CharSink.gives _ _ _ _ _ _ _
    (c.args.byte ∷ []) _ (c.deref.ensures.value ∙ c.in_ok-push.ensures.items) _ _ c.in_err-count.field-0.0 _ refl c.in_err-count.ensures.reads)

pub returns : goal.returns
returns g c = let rest = c.remove_front.ensures ∙ ap (drop c.in_ok-count.count) (sym c.deref.ensures.value) in
    rw (← c.self.view_is, c.advance.ensures.how.0, c.advance.ensures.how.1, c.advance.ensures.how.2)
    (piece_taken g.S.CharSink.gives _ _ _ _ _ _ _ (c.args.byte ∷ []) _ (c.deref.ensures.value ∙ c.in_ok-push.ensures.items) _ _ c.in_ok-count.count _ _ _ rest
    (omega (arith, ap length rest, length-drop c.in_ok-count.count c.deref.result.now, c.in_ok-count.ensures.few)) c.in_ok-count.ensures.reads)
