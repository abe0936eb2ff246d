use Rattle.htext.proofs.Names.{◌≡◌, ℕ, ◌-◌, List, length, map, sym, ap, ◌∙◌, arith, err_from_is_err_and, IsUtf8-past_char, chars_past_char, length-encode, chars-nil, length-append, length-drop, encode_utf8, len_utf8, chars, placed, Whole, ends_in_return, IsCharBoundary-from_drop}
use Rattle.htext.proofs.Handing.{hand_more, hand_refused, hand_all}
use Rattle.htext.proofs.Runs.{front_of}
use Rattle.htext.proofs.Wide.{run_more, run_refused, ends_after}
use Rattle.htext.proofs.progress.Progress.hand_text.Goals as goal

pub returns-in_err-take_run-clause-handed : goal.returns-in_err-take_run-clause-handed
returns-in_err-take_run-clause-handed g c = let e = err_from_is_err_and c.from_residual.result c.from_residual.ensures.1 in
    let here = rw (c.if-not-after_return.true) at c.loop-ch.invariant.handed in
    let taken = rw (c.range.ensures.value ∙ front_of c.clean_run-run.result c.loop-ch.rest.now) at c.in_err-take_run.ensures in
    rw (e.1, e.2) (run_refused g.S.CharSink.gives _ _ _ c.loop-ch.sink _ c.clean_run-run.result c.loop-ch.rest.now here c.clean_run-run.ensures _
    c.in_err-take_run.field-0.0 taken)

pub range-requires-clause-end_boundary : goal.range-requires-clause-end_boundary
range-requires-clause-end_boundary g c =
    IsCharBoundary-from_drop c.loop-ch.rest.now c.clean_run-run.result c.clean_run-run.ensures.cut.within c.clean_run-run.ensures.cut.back

pub range_from-rest-requires : goal.range_from-rest-requires
range_from-rest-requires g c =
    λ _. IsCharBoundary-from_drop c.loop-ch.rest.now c.clean_run-run.result c.clean_run-run.ensures.cut.within c.clean_run-run.ensures.cut.back

pub loop-ch-preserved-then-run-gt0 : goal.loop-ch-preserved-then-run-gt0
loop-ch-preserved-then-run-gt0 g c = let free = c.if-not-after_return.true in let here = rw free at c.loop-ch.invariant.handed in
    let ended = rw free at c.loop-ch.invariant.ends in
    let taken = rw (c.range.ensures.value ∙ front_of c.clean_run-run.result c.loop-ch.rest.now) at c.in_ok-take_run.ensures in
    let n = c.clean_run-run.result in
    let bytes = c.loop-ch.rest.now in
    let left = c.range_from-rest.ensures.value in
    record {
      handed = rw (free, left) (run_more g.S.CharSink.gives _ _ _ c.loop-ch.sink _ n bytes here c.clean_run-run.ensures _ taken);
      reached = omega (arith, c.loop-ch.invariant.reached, ap length left, length-drop n bytes, c.clean_run-run.ensures.cut.within);
      utf8 = rw left c.clean_run-run.ensures.cut.back;
      ends = rw (free, left) (sym (ends_after n c.loop-ch.place bytes c.clean_run-run.ensures) ∙ ended);
    }

pub returns-in_err-hand_char-clause-handed : goal.returns-in_err-hand_char-clause-handed
returns-in_err-hand_char-clause-handed g c = let e = err_from_is_err_and c.from_residual-in_err-hand_char.result c.from_residual-in_err-hand_char.ensures.1 in
    rw (e.1, e.2) (hand_refused g.S.CharSink.gives _ _ _ c.loop-ch.sink _ _ _ c.loop-ch.invariant.handed c.in-Some.ch _ _ c.in_err-hand_char.field-0.0
    c.loop-ch.invariant.utf8 c.in-Some.ensures.0 c.in_err-hand_char.ensures)

pub loop-ch-preserved : goal.loop-ch-preserved
loop-ch-preserved g c = let is = c.in-Some.ensures.0 in let bytes = c.loop-ch.rest.now in let after = c.in-Some.after.now in
    let long : length bytes - length after ≡ len_utf8 c.in-Some.ch = omega
    (arith, ap length is, length-append (encode_utf8 c.in-Some.ch) after, length-encode c.in-Some.ch) in
    record {
      handed = rw long (hand_more g.S.CharSink.gives _ _ _ c.loop-ch.sink _ _ _ c.loop-ch.invariant.handed c.in-Some.ch _ _ c.loop-ch.invariant.utf8 is
          c.in_ok-hand_char.ensures);
      reached = omega (arith, c.loop-ch.invariant.reached, c.in-Some.ensures.1);
      utf8 = IsUtf8-past_char bytes after c.in-Some.ch c.loop-ch.invariant.utf8 is;
      ends = rw long (sym (ap (λ (cs : List ℕ). ends_in_return c.loop-ch.after_return (map Whole (placed c.loop-ch.place cs)))
          (chars_past_char _ _ _ c.loop-ch.invariant.utf8 is)) ∙ c.loop-ch.invariant.ends);
    }

pub returns-clause-handed : goal.returns-clause-handed
returns-clause-handed g c = hand_all g.S.CharSink.gives _ _ _ c.loop-ch.sink _ _ _ c.loop-ch.invariant.handed c.in_default.ensures

pub returns-clause-end : goal.returns-clause-end
returns-clause-end g c =
    sym (ap (λ (cs : List ℕ). ends_in_return c.loop-ch.after_return (map Whole (placed c.loop-ch.place cs))) (ap chars c.in_default.ensures ∙ chars-nil))
    ∙ c.loop-ch.invariant.ends
