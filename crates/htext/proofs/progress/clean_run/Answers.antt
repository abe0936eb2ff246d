use Rattle.htext.proofs.Names.{◌∙◌, ap, sym, subst, ℕ, prefix_len, is_clean_byte, IsCleanFront, IsUtf8-past_char, IsCharBoundary-from_drop}
use Rattle.htext.proofs.Clean.{all_left, clean_front, past_char, past_front}
use Rattle.htext.proofs.progress.clean_run.Goals as goal

pub loop-ch-init : goal.loop-ch-init
loop-ch-init c = record { left = all_left c.args.text.now c.utf8.text; utf8 = c.utf8.text }

pub range_from-rest-requires : goal.range_from-rest-requires
range_from-rest-requires c = λ _.
    let rest = c.loop-ch.rest.now in let is = c.run-count.ensures.counted ∙ ap (prefix_len is_clean_byte) c.as_bytes.ensures.value in
    let front = subst (λ (n : ℕ). IsCleanFront n rest) (sym is) (clean_front rest c.loop-ch.invariant.utf8) in
    IsCharBoundary-from_drop rest c.run-count.result front.cut.within front.cut.back

pub loop-ch-preserved : goal.loop-ch-preserved
loop-ch-preserved c = let text = c.args.text.now in let rest = c.loop-ch.rest.now in let next = c.range_from-rest.result.now in
    let after = c.in-Some.after.now in
    let is = c.in-Some.ensures.0 in
    let counted = c.run-count.ensures.counted ∙ ap (prefix_len is_clean_byte) c.as_bytes.ensures.value in
    let front = subst (λ (n : ℕ). IsCleanFront n rest) (sym counted) (clean_front rest c.loop-ch.invariant.utf8) in
    let left = past_front c.run-count.result text rest next c.loop-ch.invariant.left front c.range_from-rest.ensures.value in
    record {
      left = past_char text next after c.in-Some.ch left c.range_from-rest.utf8 is (sym c.is_clean.ensures ∙ c.if-is_clean.true);
      utf8 = IsUtf8-past_char next after c.in-Some.ch c.range_from-rest.utf8 is;
    }

pub returns-in_default : goal.returns-in_default
returns-in_default c = let text = c.args.text.now in let rest = c.loop-ch.rest.now in let next = c.range_from-rest.result.now in
    let counted = c.run-count.ensures.counted ∙ ap (prefix_len is_clean_byte) c.as_bytes.ensures.value in
    let front = subst (λ (n : ℕ). IsCleanFront n rest) (sym counted) (clean_front rest c.loop-ch.invariant.utf8) in
    (past_front c.run-count.result text rest next c.loop-ch.invariant.left front c.range_from-rest.ensures.value).clean
