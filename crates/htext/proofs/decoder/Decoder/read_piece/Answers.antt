use Rattle.htext.proofs.Names.{◌++◌, ◌-◌, List, ℕ, length, take, drop, refl, sym, ap, ◌∙◌, arith, length-drop, err_from_is_err_and, take_rest}
use Rattle.htext.proofs.Advancing.{piece_stops, piece_taken, piece_lost}
use Rattle.htext.proofs.decoder.Decoder.read_piece.Goals as goal

pub returns-in_err-count : goal.returns-in_err-count
returns-in_err-count g c = let none = rw (← c.self.view_is) at c.requires in let e = err_from_is_err_and c.from_residual.result c.from_residual.ensures.1 in
    rw (← c.self.view_is, c.advance.ensures.how.0, c.advance.ensures.how.1, c.advance.ensures.how.2, e.1, e.2) (piece_stops g.S.CharSink.gives _ _ _ _ _ _ _
    c.args.bytes.now _ (ap (λ (x : List ℕ). x ++ c.args.bytes.now) (sym none)) _ _ c.in_err-count.field-0.0 _ refl c.in_err-count.ensures.reads)

pub returns-in_err-extend_from_slice : goal.returns-in_err-extend_from_slice
returns-in_err-extend_from_slice g c = let none = rw (← c.self.view_is) at c.requires in
    let e = err_from_is_err_and c.from_residual-in_err-extend_from_slice.result c.from_residual-in_err-extend_from_slice.ensures.1 in
    rw (← c.self.view_is, c.advance.ensures.how.0, c.advance.ensures.how.1, c.advance.ensures.how.2, e.1, e.2) (piece_lost g.S.CharSink.gives _ _ _ _ _ _ _
    c.args.bytes.now _ (ap (λ (x : List ℕ). x ++ c.args.bytes.now) (sym none)) _ _ c.in_ok-count.count _ _ _ refl c.in_ok-count.ensures.reads)

pub returns : goal.returns
returns g c = let none = rw (← c.self.view_is) at c.requires in
    let rest = c.in_ok-extend_from_slice.ensures.items
    ∙ ap (λ (x : List ℕ). x ++ take (length c.args.bytes.now - c.in_ok-count.count) (drop c.in_ok-count.count c.args.bytes.now)) none
    ∙ take_rest c.args.bytes.now c.in_ok-count.count in
    rw (← c.self.view_is, c.advance.ensures.how.0, c.advance.ensures.how.1, c.advance.ensures.how.2)
    (piece_taken g.S.CharSink.gives _ _ _ _ _ _ _ c.args.bytes.now _ (ap (λ (x : List ℕ). x ++ c.args.bytes.now) (sym none)) _ _ c.in_ok-count.count _ _ _ rest
    (omega (arith, ap length rest, length-drop c.in_ok-count.count c.args.bytes.now, c.in_ok-count.ensures.few)) c.in_ok-count.ensures.reads)
