use Rattle.htext.proofs.Names.{◌≤◌, ◌+◌, ◌-◌, ℕ, List, length, ap, ◌∙◌, arith, err_from_is_err_and, length-drop, take_rest, common_steps}
use Rattle.htext.proofs.Beginnings.{open_short}
use Rattle.htext.proofs.Stopping.{what_waits, ahead_bounds, ahead_refused, ahead_waits}
use Rattle.htext.proofs.Advancing.{text_is, within_all, next_text, stuck_next, next_bad, turn_stops, turn_more, refused_stops, waits_now}
use Rattle.htext.proofs.progress.Progress.advance.Goals as goal

pub returns-in_err-hand_text-clause-reads : goal.returns-in_err-hand_text-clause-reads
returns-in_err-hand_text-clause-reads g c = rw (← c.loop-count.invariant.bom, ← c.loop-count.invariant.bad, ← c.loop-count.invariant.limit) (λ all h j.
    let e = err_from_is_err_and c.from_residual.result c.from_residual.ensures.1 in let turned = c.loop-count.invariant.turned all h j in
    let text = text_is _ c.loop-count.count c.args.bytes.now _ _ c.fitting.ensures c.valid_text-text.ensures in
    rw (e.1, e.2) (turn_stops g.S.CharSink.gives _ _ _ _ all _ _ _ _ _ _ turned _ _ _ (next_text g.S.CharSink.gives _ _ _ _ all _ _ _ _ _ _ turned _ text) _
    c.in_err-hand_text.field-0.0 c.in_err-hand_text.ensures.handed))

pub returns-in-Refused-clause-reads : goal.returns-in-Refused-clause-reads
returns-in-Refused-clause-reads g c = rw (← c.loop-count.invariant.bom, ← c.loop-count.invariant.bad, ← c.loop-count.invariant.limit) (λ all h j.
    let turned = c.loop-count.invariant.turned all h j in
    let text = text_is _ c.loop-count.count c.args.bytes.now _ _ c.fitting.ensures c.valid_text-text.ensures in
    let more = turn_more g.S.CharSink.gives _ _ _ _ all _ _ _ _ _ _ turned _ _ _ (next_text g.S.CharSink.gives _ _ _ _ all _ _ _ _ _ _ turned _ text) _
    c.in_ok-hand_text.ensures.handed in
    let next =
    rw (take_rest c.args.bytes.now _, c.hand_text.ensures.how.1, c.hand_text.ensures.how.2, c.in_ok-hand_text.ensures.read) at c.in-Refused.ensures in
    refused_stops g.S.CharSink.gives _ _ _ _ all _ _ _ _ _ _ more (stuck_next g.S.CharSink.gives _ _ _ _ all _ _ _ _ _ _ turned _ text) c.in-Refused.refusal
    (ahead_refused _ _ _ _ _ next))

pub returns-in-Waits-clause-reads : goal.returns-in-Waits-clause-reads
returns-in-Waits-clause-reads g c =
    rw
    (← c.loop-count.invariant.bom, ← c.loop-count.invariant.bad, ← c.loop-count.invariant.limit, c.in_ok-hand_text.ensures.read, c.in_ok-hand_text.ensures.end)
    (λ all h j. let turned = c.loop-count.invariant.turned all h j in
    let text = text_is _ c.loop-count.count c.args.bytes.now _ _ c.fitting.ensures c.valid_text-text.ensures in
    let more = turn_more g.S.CharSink.gives _ _ _ _ all _ _ _ _ _ _ turned _ _ _ (next_text g.S.CharSink.gives _ _ _ _ all _ _ _ _ _ _ turned _ text) _
    c.in_ok-hand_text.ensures.handed in
    let next = rw (take_rest c.args.bytes.now _, c.hand_text.ensures.how.1, c.hand_text.ensures.how.2, c.in_ok-hand_text.ensures.read) at c.in-Waits.ensures in
    waits_now g.S.CharSink.gives _ _ _ _ all _ _ _ _ _ _ more (stuck_next g.S.CharSink.gives _ _ _ _ all _ _ _ _ _ _ turned _ text)
    (ahead_waits _ _ _ _ next))

pub returns-in-Waits-clause-few : goal.returns-in-Waits-clause-few
returns-in-Waits-clause-few g c = let bytes : List ℕ = c.args.bytes.now in let count : ℕ = c.loop-count.count + length c.valid_text-text.result.now in
    let within : count + 0 ≤ length bytes =
    within_all _ _ 0 bytes _ _ c.fitting.ensures c.valid_text-text.ensures c.loop-count.invariant.within (omega arith) in
    let w = what_waits _ _ _ _ (ahead_waits _ _ _ _ c.in-Waits.ensures) in
    (omega arith, omega (arith, open_short _ w.is_open, ap length (take_rest bytes count), length-drop count bytes))

pub hand_bad-requires-clause-each : goal.hand_bad-requires-clause-each
hand_bad-requires-clause-each g c = (ahead_bounds _ _ _ _ _ _ c.in-Bad.ensures).0

pub loop-count-smaller : goal.loop-count-smaller
loop-count-smaller g c = let bounds = ahead_bounds _ _ _ _ _ _ c.in-Bad.ensures in
    omega (arith, bounds.1, within_all _ _ c.in-Bad.len c.args.bytes.now _ _ c.fitting.ensures c.valid_text-text.ensures c.loop-count.invariant.within bounds.3)

pub returns-in_err-hand_bad-in-Bad-clause-reads : goal.returns-in_err-hand_bad-in-Bad-clause-reads
returns-in_err-hand_bad-in-Bad-clause-reads g c = rw (← c.loop-count.invariant.bom, ← c.loop-count.invariant.bad, ← c.loop-count.invariant.limit) (λ all h j.
    let e = err_from_is_err_and c.from_residual-in_err-hand_bad-in-Bad.result c.from_residual-in_err-hand_bad-in-Bad.ensures.1 in
    let turned = c.loop-count.invariant.turned all h j in
    let text = text_is _ c.loop-count.count c.args.bytes.now _ _ c.fitting.ensures c.valid_text-text.ensures in
    let more = turn_more g.S.CharSink.gives _ _ _ _ all _ _ _ _ _ _ turned _ _ _ (next_text g.S.CharSink.gives _ _ _ _ all _ _ _ _ _ _ turned _ text) _
    c.in_ok-hand_text.ensures.handed in
    let next = rw (take_rest c.args.bytes.now _, c.hand_text.ensures.how.1, c.hand_text.ensures.how.2, c.in_ok-hand_text.ensures.read) at c.in-Bad.ensures in
    let handed = rw (c.in_ok-hand_text.ensures.read) at c.in_err-hand_bad-in-Bad.ensures.handed in
    rw (e.1, e.2) (turn_stops g.S.CharSink.gives _ _ _ _ all _ _ _ _ _ _ more _ _ _ (next_bad g.S.CharSink.gives _ _ _ _ all _ _ _ _ _ _ more _ _ next) _
    c.in_err-hand_bad-in-Bad.field-0.0 handed))

pub loop-count-preserved : goal.loop-count-preserved
loop-count-preserved g c = let bytes : List ℕ = c.args.bytes.now in
    record {
      within = within_all _ _ c.in-Bad.len bytes _ _ c.fitting.ensures c.valid_text-text.ensures c.loop-count.invariant.within
          (ahead_bounds _ _ _ _ _ _ c.in-Bad.ensures).3;
      bom = c.hand_bad.ensures.how.0 ∙ c.hand_text.ensures.how.0 ∙ c.loop-count.invariant.bom;
      bad = c.hand_bad.ensures.how.1 ∙ c.hand_text.ensures.how.1 ∙ c.loop-count.invariant.bad;
      limit = c.hand_bad.ensures.how.2 ∙ c.hand_text.ensures.how.2 ∙ c.loop-count.invariant.limit;
      turned =
          rw (
            c.hand_bad.ensures.how.0,
            c.hand_bad.ensures.how.1,
            c.hand_bad.ensures.how.2,
            c.hand_text.ensures.how.0,
            c.hand_text.ensures.how.1,
            c.hand_text.ensures.how.2,
            c.in_ok-hand_bad-in-Bad.ensures.read,
            c.in_ok-hand_bad-in-Bad.ensures.end,
            c.in_ok-hand_text.ensures.read,
          ) (λ all h j. let turned = c.loop-count.invariant.turned all h j in
          let text = text_is _ c.loop-count.count bytes _ _ c.fitting.ensures c.valid_text-text.ensures in
          let more = turn_more g.S.CharSink.gives _ _ _ _ all _ _ _ _ _ _ turned _ _ _ (next_text g.S.CharSink.gives _ _ _ _ all _ _ _ _ _ _ turned _ text) _
          c.in_ok-hand_text.ensures.handed in
          let next = rw (take_rest bytes _, c.hand_text.ensures.how.1, c.hand_text.ensures.how.2, c.in_ok-hand_text.ensures.read) at c.in-Bad.ensures in
          turn_more g.S.CharSink.gives _ _ _ _ all _ _ _ _ _ _ more _ _ _ (next_bad g.S.CharSink.gives _ _ _ _ all _ _ _ _ _ _ more _ _ next) _
          (rw (c.in_ok-hand_text.ensures.read) at c.in_ok-hand_bad-in-Bad.ensures.handed));
    }

pub slice_bounds-ahead-start : goal.slice_bounds-ahead-start
slice_bounds-ahead-start g c = grind (arith, common_steps)

pub slice_bounds-ahead-count : goal.slice_bounds-ahead-count
slice_bounds-ahead-count g c = grind (arith, common_steps)

pub loop-count-init : goal.loop-count-init
loop-count-init g c = grind (arith, common_steps)

pub hand_text-requires : goal.hand_text-requires
hand_text-requires g c = grind (arith, common_steps)
