use Rattle.hserialize.proofs.Names.{◌∙◌, ap, ◌+◌, CharIndices, arith, common_steps}
use Rattle.hserialize.proofs.Output.{last_put, passed_on}
use Rattle.hserialize.proofs.Escapes.{begins_at, run_is, kept, replaced, put_failed, last_is, at_within, done_within}
use Rattle.hserialize.proofs.escaped.put_escaped.Goals as goal

pub returns-in_err-put_before : goal.returns-in_err-put_before
returns-in_err-put_before g c = let s = c.loop-at.invariant in
    passed_on _ _ _ _ c.from_residual.ensures.1 (put_failed _ _ _ _ _ _ _ _ s c.in-Some.ch _ c.in-Some.ensures.steps.1 _
    (run_is _ _ _ _ _ _ _ _ s _ _ c.as_bytes-bytes.ensures.value c.in-Some.ensures.steps.0) _ c.in-Some-reference.ensures.some _ c.in_err-put_before.ensures)

pub loop-at-preserved-in-Some-reference : goal.loop-at-preserved-in-Some-reference
loop-at-preserved-in-Some-reference g c = let s = c.loop-at.invariant in
    replaced _ _ _ _ _ _ _ _ s c.in-Some.ch _ c.in-Some.ensures.steps.1 _
    (run_is _ _ _ _ _ _ _ _ s _ _ c.as_bytes-bytes.ensures.value c.in-Some.ensures.steps.0) _ c.in-Some-reference.ensures.some _ _ _
    (λ i. c.in-Some.ensures.steps.0 i + c.len_utf8.ensures.len i) c.in-Some.ensures.steps.2 c.in_ok-put_before.ensures

pub loop-at-preserved : goal.loop-at-preserved
loop-at-preserved g c =
    kept _ _ _ _ _ _ _ _ c.loop-at.invariant c.in-Some.ch _ c.in-Some.ensures.steps.1 _ c.in-Some.ensures.steps.2 (c.reference.ensures.none c.in_default.is)

pub returns : goal.returns
returns g c = let s = c.loop-at.invariant in
    last_put _ _ _ _ _ _ _ s.left (last_is _ _ _ _ _ _ _ _ s c.in-None.ensures.steps.0 _ c.as_bytes-bytes.ensures.value) c.put.ensures

pub loop-at-init : goal.loop-at-init
loop-at-init g c = let gives = c.into_iter-at-iterator.ensures.into_iter_gives in
    begins_at _ _ _ _ _ _ (ap (λ (i : CharIndices). i.at) gives ∙ c.char_indices-at-items.ensures.offset)
    (ap (λ (i : CharIndices). i.rest.now) gives ∙ c.char_indices-at-items.ensures.rest) c.utf8.source

pub slice_bounds-put_before-end : goal.slice_bounds-put_before-end
slice_bounds-put_before-end g c = at_within _ _ _ _ _ _ _ _ c.loop-at.invariant _ _ c.as_bytes-bytes.ensures.value c.in-Some.ensures.steps.0

pub slice_bounds-put-count : goal.slice_bounds-put-count
slice_bounds-put-count g c = done_within _ _ _ _ _ _ _ _ c.loop-at.invariant _ c.as_bytes-bytes.ensures.value

pub slice_bounds-put-start : goal.slice_bounds-put-start
slice_bounds-put-start g c = grind (arith, common_steps)
