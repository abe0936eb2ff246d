use Rattle.htext.proofs.Names.{◌+◌, ◌++◌, ℕ, List, take, drop, Err, ap, ◌∙◌, subst, take-append-drop, err_from_is_err_and, ReadsOn, take_more, take_rest, arith, common_steps}
use Rattle.htext.proofs.Handing.{reads_append, reads_more}
use Rattle.htext.proofs.decoder.Decoder.read_on.Goals as goal

pub returns-then-is_empty : goal.returns-then-is_empty
returns-then-is_empty g c = let bytes = c.args.bytes.now in let i = c.loop-index.index in
    subst (λ (x : List ℕ). ReadsOn g.S.CharSink.gives c.args.self.now x c.args.sink.now c.read_piece.result c.read_piece.new.self c.read_piece.new.sink)
    (ap (λ (x : List ℕ). take i bytes ++ x) (take_rest bytes i) ∙ take-append-drop i bytes)
    (reads_append g.S.CharSink.gives _ _ _ _ _ _ _ _ _ c.loop-index.invariant c.read_piece.ensures)

pub returns-in_err-read_byte : goal.returns-in_err-read_byte
returns-in_err-read_byte g c = let bytes = c.args.bytes.now in let i = c.loop-index.index in
    let e = err_from_is_err_and c.from_residual.result c.from_residual.ensures.1 in
    let read = rw (← take_more bytes i 0 c.loop-index-test.true) at
    (reads_append g.S.CharSink.gives _ _ _ _ _ _ _ _ _ c.loop-index.invariant c.in_err-read_byte.ensures) in
    rw (e.1, e.2) (subst
    (λ (x : List ℕ). ReadsOn g.S.CharSink.gives c.args.self.now x c.args.sink.now (Err c.in_err-read_byte.field-0.0) c.read_byte.new.self c.read_byte.new.sink)
    (take-append-drop (i + 1) bytes) (reads_more g.S.CharSink.gives _ _ _ (drop (i + 1) bytes) _ _ _ read))

pub loop-index-preserved : goal.loop-index-preserved
loop-index-preserved g c = rw (take_more c.args.bytes.now c.loop-index.index 0 c.loop-index-test.true)
    (reads_append g.S.CharSink.gives _ _ _ _ _ _ _ _ _ c.loop-index.invariant c.in_ok-read_byte.ensures)

pub returns : goal.returns
returns g c = grind (arith, common_steps)
