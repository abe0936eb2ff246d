use Rattle.hwrite.proofs.Vocabulary.{◌≡◌, ◌+◌, ◌==◌, ap, arith, get_or, refl, rules, is_end}
use Rattle.hwrite.proofs.Marks.{place_next}
use Rattle.hwrite.proofs.columns.place_after.Goals as goal

pub loop-index-preserved : goal.loop-index-preserved
loop-index-preserved c = let text = c.args.text.now in let before_lf : c.eq-before_lf.result ≡ (get_or text (1 + c.loop-index.index) 0 == 10) = search rules in
    place_next text c.loop-index.index (get_or text c.loop-index.index 0) c.eq-before_lf.result c.loop-index.place _ (omega arith)
    (ap (is_end (get_or text c.loop-index.index 0)) before_lf) refl c.loop-index.invariant.0 c.loop-index.invariant.1 c.next_place-place.ensures.line
    c.next_place-place.ensures.column
