use Rattle.hparse.proofs.Names.{◌+◌, take, drop, sym, subst, arith, HasReadTokens, as_document, take_all}
use Rattle.hparse.proofs.RunOf.{joined, joined_more, joined_all, shows_piece, shows_end, shows_all, has_read_tokens}
use Rattle.hparse.proofs.document.tokens.Goals as goal

pub returns-in-Err : goal.returns-in-Err
returns-in-Err c = let options = c.args.options.now in let fed = joined (take c.loop-piece.piece-index c.args.pieces.now) in let h = c.loop-piece.invariant in
    shows_piece h _ (joined (drop (c.loop-piece.piece-index + 1) c.args.pieces.now))
    (c.in-Err.ensures (as_document options.table.now options.bad_bytes options.limits.input) h.began fed h.has_read)
    (joined_all c.args.pieces.now c.loop-piece.piece-index _ (omega arith))

pub loop-piece-preserved : goal.loop-piece-preserved
loop-piece-preserved c = let options = c.args.options.now in let fed = joined (take c.loop-piece.piece-index c.args.pieces.now) in
    let h = c.loop-piece.invariant in
    subst (HasReadTokens options.table.now options.bad_bytes options.limits.input c.feed.new.self)
    (sym (joined_more c.args.pieces.now c.loop-piece.piece-index _ (omega arith)))
    (has_read_tokens h _ (c.in_default.ensures (as_document options.table.now options.bad_bytes options.limits.input) h.began fed h.has_read))

pub returns-in-Err-end : goal.returns-in-Err-end
returns-in-Err-end c = let options = c.args.options.now in let all = take_all c.loop-piece.piece-index c.args.pieces.now c.loop-piece-test.false in
    let h = rw all at c.loop-piece.invariant in
    shows_end c.end.new.self h c.in-Err-end.refusal
    (c.in-Err-end.ensures (as_document options.table.now options.bad_bytes options.limits.input) h.began _ h.has_read)

pub returns : goal.returns
returns c = let options = c.args.options.now in let all = take_all c.loop-piece.piece-index c.args.pieces.now c.loop-piece-test.false in
    let h = rw all at c.loop-piece.invariant in
    shows_all c.end.new.self h c.into_run.result
    (c.in_default-end.ensures (as_document options.table.now options.bad_bytes options.limits.input) h.began _ h.has_read)
    (rw (← c.into_parts-names.ensures.names, ← c.into_parts-names.ensures.sink) c.into_run.ensures)
