use Rattle.htag.proofs.Vocabulary.{◌≡◌, ◌≤◌, ◌∷◌, ◌++◌, ◌-◌, [], ℕ, List, true, false, None, length, take, drop, sym, ap, ◌∙◌, subst, arith, nat_tests, length-drop, length-take-le, list_all, placed, prefix_len, slice_index, string_bytes, take_all, IsRead, is_ascii, is_quoted_byte, front_of, IsQuietFront, rules, prefix_len_stops, common_steps}
use Rattle.htag.proofs.Ascii.{edge_of}
use Rattle.htag.proofs.QuietValues.{first_amp, length-placed, reference_front, text_front}
use Rattle.htag.proofs.piece.ValueWalk.read_front.Goals as goal

pub returns-then-count-gt0 : goal.returns-then-count-gt0
returns-then-count-gt0 c = λ some.
    let run = c.args.run.now in let n = c.quoted_run-count.result in let old = string_bytes c.args.self.now.text in
    subst (IsQuietFront c.args.table.now run n old)
    (sym (c.in_ok-push_str.ensures.bytes ∙ ap (λ (x : List ℕ). old ++ x) (c.range.ensures.value ∙ front_of n run))) (text_front c.args.table.now run n old
    c.utf8.run c.requires.clean (c.quoted_run-count.ensures.counted ∙ ap (prefix_len (is_quoted_byte 38)) c.as_bytes-bytes.ensures.value))

pub range-requires-clause-end_boundary : goal.range-requires-clause-end_boundary
range-requires-clause-end_boundary c = let run = c.args.run.now in let n = c.quoted_run-count.result in
    edge_of n run (text_front c.args.table.now run n (string_bytes c.args.self.now.text) c.utf8.run c.requires.clean
    (c.quoted_run-count.ensures.counted ∙ ap (prefix_len (is_quoted_byte 38)) c.as_bytes-bytes.ensures.value)).cut

rest_of : (all : List ℕ) → take (length all - 1) (drop 1 all) ≡ drop 1 all
rest_of all = take_all (length all - 1) (drop 1 all) (omega (arith, length-drop 1 all))

pub overflow_sub-result : goal.overflow_sub-result
overflow_sub-result c = let rest = (let all = c.as_bytes-bytes.result.now in take (length all - 1) (drop 1 all)) in
    omega (arith, (c.in-Some.ensures.read 0 []).within, length-placed 0 (take c.in-Some.seen rest), length-take-le c.in-Some.seen rest c.in-Some.ensures.few.1)

pub returns : goal.returns
returns c = λ some.
    let run = c.args.run.now in let all = c.as_bytes-bytes.result.now in let k = c.in-Some.seen in let found = c.in-Some.found in
    let none : prefix_len (is_quoted_byte 38) run ≡ 0 = omega
    (arith, c.if-count-gt0.false, c.quoted_run-count.ensures.counted ∙ ap (prefix_len (is_quoted_byte 38)) c.as_bytes-bytes.ensures.value) in
    let stops : is_quoted_byte 38 (slice_index run 0) ≡ false =
    ap (λ (n : ℕ). is_quoted_byte 38 (slice_index run n)) (sym none) ∙ prefix_len_stops (is_quoted_byte 38) run 0 (omega (arith, none, c.requires.some)) in
    let amp : slice_index run 0 ≡ 38 = grind (arith, stops, nat_tests) in
    let missing : found.missing_semicolon ≡ false = search rules in
    let fault : found.fault ≡ None = search rules in
    let no_run : found.is_ambiguous ≡ false = search rules in
    subst (IsQuietFront c.args.table.now run _ (string_bytes c.args.self.now.text)) (sym c.in_ok-push_to.ensures) (reference_front c.args.table.now run
    (drop 1 all) c.utf8.run (first_amp run c.requires.some amp ∙ ap (λ (x : List ℕ). 38 ∷ drop 1 x) (sym c.as_bytes-bytes.ensures.value)) k
    (subst (λ (x : List ℕ). k ≤ length x) (rest_of all) c.in-Some.ensures.few.1)
    (subst (λ (x : List ℕ). list_all is_ascii (take k x) ≡ true) (rest_of all) c.in-Some.ensures.ascii) found missing fault no_run
    (λ at after. subst (λ (x : List ℕ). IsRead c.args.table.now false (placed at (take k x)) after found) (rest_of all) (c.in-Some.ensures.read at after))
    (string_bytes c.args.self.now.text))

pub returns-then-found : goal.returns-then-found
returns-then-found c = grind (arith, common_steps)

pub returns-in_default : goal.returns-in_default
returns-in_default c = grind (arith, common_steps)
