use Rattle.htoken.proofs.Names.{◌∙◌, sym, ap, subst, take, take-take}
use Rattle.std.proofs.Common.{IsUtf8}
use Rattle.htoken.proofs.gathered_text.GatheredText.push_front.Goals as goal

pub put-requires-clause-utf8 : goal.put-requires-clause-utf8
put-requires-clause-utf8 c =
    subst IsUtf8 (sym (take-take c.args.count 16 c.as_bytes-bytes.result.now c.if-count-le-PIECE.true ∙ ap (take c.args.count) c.as_bytes-bytes.ensures.value))
    c.requires.front

pub returns-then-bytes-ge-PIECE-clause-text : goal.returns-then-bytes-ge-PIECE-clause-text
returns-then-bytes-ge-PIECE-clause-text c =
    rw (← (take-take c.args.count 16 c.as_bytes-bytes.result.now c.if-count-le-PIECE.true ∙ ap (take c.args.count) c.as_bytes-bytes.ensures.value))
    c.put.ensures.text
