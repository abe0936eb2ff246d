use Rattle.htext.proofs.Names.{ℕ, List, ◌++◌, ap, ◌∙◌, sym, arith, length, drop, ◌-◌, map, prefix_len, take_all, length-append, length-drop, count_trailing_zeros, is_run_byte, is_not_of, prefix_len-le-length, length-chunk, pick_l_whole, common_steps}
use Rattle.htext.proofs.Lanes.{twice_through, twice_stops}
use Rattle.htext.proofs.run.short_run.Goals as goal
use lib.Lanes.{chunk, mask_l}

pub returns-then-found-ne0-clause-counted : goal.returns-then-found-ne0-clause-counted
returns-then-found-ne0-clause-counted c = let d = c.args.bytes.now in let eight : List ℕ = chunk 0 8 d in
    let found = c.stops-found.ensures ∙ ap (λ (v : List ℕ). mask_l (map (is_not_of c.args.kind) v))
    (pick_l_whole 0 (eight ++ eight) 16 (omega (arith, length-append eight eight, length-chunk 0 8 d (omega arith)))) in
    ap (count_trailing_zeros 64) found ∙ sym (twice_stops (is_run_byte c.args.kind) d 0 8 (omega arith) (omega arith) (omega (arith, found)))

pub returns-then-found-ne0-clause-few : goal.returns-then-found-ne0-clause-few
returns-then-found-ne0-clause-few c = omega (arith, returns-then-found-ne0-clause-counted c, prefix_len-le-length (is_run_byte c.args.kind) c.args.bytes.now)

pub returns-clause-counted : goal.returns-clause-counted
returns-clause-counted c = let d = c.args.bytes.now in let eight : List ℕ = chunk 0 8 d in
    let found = c.stops-found.ensures ∙ ap (λ (v : List ℕ). mask_l (map (is_not_of c.args.kind) v))
    (pick_l_whole 0 (eight ++ eight) 16 (omega (arith, length-append eight eight, length-chunk 0 8 d (omega arith)))) in
    let left = ap (prefix_len (is_run_byte c.args.kind)) (take_all (length d - 8) (drop 8 d) (omega (arith, length-drop 8 d))) in
    omega (arith, twice_through (is_run_byte c.args.kind) d 0 8 (omega arith) (omega (arith, found)), c.run_by_one.ensures.counted, left)

pub slice_bounds-run_by_one-count : goal.slice_bounds-run_by_one-count
slice_bounds-run_by_one-count c = grind (arith, common_steps)

pub slice_bounds-run_by_one-start : goal.slice_bounds-run_by_one-start
slice_bounds-run_by_one-start c = grind (arith, common_steps)

pub overflow_add-result : goal.overflow_add-result
overflow_add-result c = grind (arith, common_steps)

pub returns-clause-few : goal.returns-clause-few
returns-clause-few c = grind (arith, common_steps)
