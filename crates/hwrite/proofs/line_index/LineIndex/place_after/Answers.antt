use Rattle.hwrite.proofs.Vocabulary.{◌<◌, ◌∙◌, ap, arith, get_or, length, is_end, kind_at}
use Rattle.hwrite.proofs.Indexing.{ends_alike}
use Rattle.hwrite.proofs.Marks.{place_next}
use Rattle.hwrite.proofs.line_index.LineIndex.place_after.Goals as goal

pub loop-index-preserved : goal.loop-index-preserved
loop-index-preserved c = λ bytes has line column.
    let at = c.loop-index.index in let byte = get_or bytes at 0 in let inside : at < length bytes = omega (arith, has.length_is) in
    let kind = ap (λ kinds. kind_at kinds at) c.deref.ensures.value ∙ has.kinds at inside in
    let alike = c.byte_at-byte.ensures byte kind in
    let before = c.loop-index.invariant bytes has line column in
    place_next bytes at c.byte_at-byte.result c.is_before_lf.result c.loop-index.place _ (omega (arith, has.fits))
    (ends_alike c.byte_at-byte.result byte c.is_before_lf.result alike ∙ ap (is_end byte) (c.is_before_lf.ensures bytes has)) alike.begins before.0 before.1
    c.next_place-place.ensures.line c.next_place-place.ensures.column
