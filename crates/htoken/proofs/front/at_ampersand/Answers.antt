use Rattle.htoken.proofs.Names.{◌≡◌, true, false, ℕ, ◌<◌, ◌≤◌, List, length, drop, sym, ap, ◌∙◌, subst, arith, rules, slice_index, is_ascii, prefix_len, get_or-drop, prefix_len-le-length, is_alphanumeric, has_references, length-drop, first_amp}
use Rattle.htoken.proofs.WithReferences.{alone_bare, letters_bare, rest_of, whole_is}
use Rattle.htoken.proofs.front.at_ampersand.Goals as goal

pub returns-then-first-ne35 : goal.returns-then-first-ne35
returns-then-first-ne35 c = let run = c.args.run.now in let may : has_references c.args.kind ≡ true = search rules in
    let amp : slice_index run 0 ≡ 38 = search rules in
    let long : 1 < length run = search rules in
    let other : is_alphanumeric (slice_index run 1) ≡ false = search rules in
    let sign : slice_index run 1 ≡ 35 → ⊥ = search rules in
    let ascii : is_ascii (slice_index run 1) ≡ true = search rules in
    alone_bare c.args.table.now c.args.kind run may amp long other sign ascii

pub overflow_add-size : goal.overflow_add-size
overflow_add-size c = let all = c.as_bytes-bytes.result.now in let counted = c.alphanumeric_run-size.ensures ∙ ap (prefix_len is_alphanumeric) (rest_of all) in
    let long : 1 < length all = search rules in
    omega (arith, counted, prefix_len-le-length is_alphanumeric (drop 1 all), length-drop 1 all, long, c.as_bytes-bytes.ensures.len)

pub returns-then-is_ascii : goal.returns-then-is_ascii
returns-then-is_ascii c = let run = c.args.run.now in let all = c.as_bytes-bytes.result.now in let bytes = drop 1 all in
    let may : has_references c.args.kind ≡ true = search rules in
    let amp : slice_index all 0 ≡ 38 = search rules in
    let long : 1 < length all = search rules in
    let k = c.in-Some.field-0-1 in
    let few = subst (λ (x : List ℕ). (0 < k) × (k ≤ length x)) (rest_of all) c.in-Some.ensures.few in
    let counted = c.alphanumeric_run-size.ensures ∙ ap (prefix_len is_alphanumeric) (rest_of all) in
    let left : prefix_len is_alphanumeric bytes < length bytes = omega (arith, c.if-size-bytes.true, counted, length-drop 1 all, long) in
    let ascii : is_ascii (slice_index bytes (prefix_len is_alphanumeric bytes)) ≡ true = rw (← counted)
    (ap is_ascii (get_or-drop 1 all c.alphanumeric_run-size.result 0) ∙ sym c.is_ascii-then-size-bytes.ensures ∙ c.if-is_ascii.true) in
    rw counted (letters_bare c.args.table.now c.args.kind bytes c.in-Some.found k few.0 few.1 c.if-found.true
    (λ at after. rw (← (rest_of all)) (c.in-Some.ensures.read at after)) run (sym c.as_bytes-bytes.ensures.value ∙ first_amp all (omega (arith, long)) amp) may
    left ascii)

pub returns-in-Some-2 : goal.returns-in-Some-2
returns-in-Some-2 c = let all = c.as_bytes-bytes.result.now in let bytes = drop 1 all in let k = c.in-Some.field-0-1 in
    let may : has_references c.args.kind ≡ true = search rules in
    let amp : slice_index all 0 ≡ 38 = search rules in
    let some : 0 < length all = search rules in
    let few = subst (λ (x : List ℕ). (0 < k) × (k ≤ length x)) (rest_of all) c.in-Some.ensures.few in
    whole_is c.args.kind c.args.run.now bytes c.in-Some.found k may c.in-Some.ensures.table (sym c.as_bytes-bytes.ensures.value ∙ first_amp all some amp) few.1
    (rw (← (rest_of all)) c.in-Some.ensures.ascii) c.if-found.false c.if-found-le1.true (λ at after. rw (← (rest_of all)) (c.in-Some.ensures.read at after))
