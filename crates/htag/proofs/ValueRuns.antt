-- A run of characters that stand for themselves in a value: taken at once, they are taken one by one.
use Rattle.htag.proofs.Vocabulary.{◌≡◌, ◌≤◌, ◌<◌, ℕ, Bool, true, false, not, eqb, List, [], ◌++◌, take, drop, sym, ap, ◌∙◌, subst, append-nil, arith, nat_tests, list_all, prefix_len, string_bytes, ParseError, Placed, Texts, all, placed, all_placed, all_weaker, Entities, TagState, TagWalk, IsInTag, IsInValue, KeepsTag, ends_unquoted, is_unquoted_byte, pieces_errors, plain_pieces, chars, IsUtf8, is_clean, is_quoted_byte, IsCut, is_no_reference, next_at, front_of_test, IsValueRun, refl}
use Rattle.htag.specs.declared.piece.Pending.TheVariants as reading
use Rattle.htag.proofs.Even.{not_odd}
use Rattle.htag.proofs.InRun.{next_then}
use Rattle.htag.proofs.InValue.{plain_steps}
use Rattle.htag.proofs.Keeping.{looks_further, quoted_goes_on, unquoted_goes_on}
use Rattle.htag.proofs.QuietValues.{front_bytes, front_quiet}
use Rattle.htag.proofs.Whole.{even_quiet, unquoted_even, unquoted_inside}
use Rattle.htag.proofs.Pieces.{plain_text}

module _ (run : List ℕ) (count : ℕ) (u : IsUtf8 run) where
  -- such a run ends between characters, each of which passes as its bytes do
  passes : (test : ℕ → Bool) → ((byte : ℕ) → 128 ≤ byte → test byte ≡ true) → count ≡ prefix_len test run
      → IsCut count run × (list_all test (chars (take count run)) ≡ true)
  passes test long is = subst (λ (n : ℕ). IsCut n run × (list_all test (chars (take n run)) ≡ true)) (sym is) (front_of_test test long run u)

  quoted_passes : (mark : ℕ) → mark < 128 → count ≡ prefix_len (is_quoted_byte mark) run
      → IsCut count run × (list_all (is_quoted_byte mark) (chars (take count run)) ≡ true)
  quoted_passes mark small is = passes (is_quoted_byte mark) (λ byte l. grind (arith, l, small, nat_tests)) is

  unquoted_pass : count ≡ prefix_len is_unquoted_byte run → IsCut count run × (list_all is_unquoted_byte (chars (take count run)) ≡ true)
  unquoted_pass is = passes is_unquoted_byte (λ byte l. grind (arith, l, nat_tests)) is

  pub value_run_cut : (state : TagState) → IsValueRun state run count → IsCut count run
  value_run_cut state (IsValueRun.quoted mark before ascii is) = (quoted_passes mark (grind (arith, ascii, nat_tests)) is).0
  value_run_cut state (IsValueRun.unquoted before is) = (unquoted_pass is).0

  -- they are taken
  module _ {table : Entities} {names : Texts} {walk : TagWalk} (nothing : walk.value.reading ≡ reading.Nothing) {body : List Placed} {errors : List ParseError}
      (at : ℕ) (h : IsInTag table names walk body (next_at at run 0) errors) (clean : list_all is_clean (chars run) ≡ true) (some : 0 < count) {new : TagWalk}
      (keeps : KeepsTag walk new) (attribute : new.attribute ≡ walk.attribute) (place : new.at ≡ walk.at) (same : new.phase ≡ walk.phase)
      (still : new.value.reading ≡ walk.value.reading) (bytes : string_bytes new.value.text ≡ string_bytes walk.value.text ++ take count run) where
    abbrev fed : List Placed
    fed = placed at (chars (take count run))

    fed_ahead : IsCut count run → IsInTag table names walk body (placed at (chars (take count run))) errors
    fed_ahead cut = rw (next_then at count run cut some) (looks_further h (drop 1 fed))

    value_takes : (quoted : Bool) → IsCut count run → list_all is_no_reference (chars (take count run)) ≡ true → (text : List Placed) (own : List ParseError)
        → IsInValue table quoted walk.value text fed own → IsInValue table quoted new.value (text ++ fed) [] (own ++ pieces_errors quoted (plain_pieces fed))
    value_takes quoted cut plain text own v =
        plain_steps v nothing still (bytes ∙ ap (λ (x : List ℕ). string_bytes walk.value.text ++ x) (front_bytes run count cut clean plain at))
        (all_placed is_no_reference at (chars (take count run)) plain)

    none_more : (es : List ParseError) → es ≡ [] → errors ≡ errors ++ es
    none_more es none = rw (none, append-nil) refl

    pub value_run_taken : IsValueRun walk.phase run count → IsInTag table names new (body ++ placed at (chars (take count run))) (next_at at run count) errors
    value_run_taken (IsValueRun.quoted mark before ascii is) = let (cut, inside) = quoted_passes mark (grind (arith, ascii, nat_tests)) is in
        let plain = all_weaker (is_quoted_byte mark) is_no_reference (λ c e. grind (arith, e, nat_tests)) (chars (take count run)) inside in
        let others = all_weaker (is_quoted_byte mark) (λ c. not (eqb c mark)) (λ c e. grind (arith, e, nat_tests)) (chars (take count run)) inside in
        looks_further (quoted_goes_on (fed_ahead cut) (pieces_errors true (plain_pieces fed)) keeps attribute place same
        (none_more _ (front_quiet run count cut clean plain at)) before (value_takes true cut plain)
        (all_placed (λ c. not (eqb c mark)) at (chars (take count run)) others)) (next_at at run count)
    value_run_taken (IsValueRun.unquoted before is) = let (cut, inside) = unquoted_pass is in let cs = chars (take count run) in
        let plain = all_weaker is_unquoted_byte is_no_reference (λ c e. grind (arith, e, nat_tests)) (chars (take count run)) inside in
        let even = ap (all not_odd) (plain_text fed) ∙ all_placed not_odd at cs (all_weaker is_unquoted_byte not_odd unquoted_even cs inside) in
        looks_further (unquoted_goes_on (fed_ahead cut) (pieces_errors false (plain_pieces fed)) keeps attribute place same
        (none_more _ (even_quiet (plain_pieces fed) (front_quiet run count cut clean plain at) even)) before (value_takes false cut plain)
        (all_placed (λ c. not (ends_unquoted c)) at cs (all_weaker is_unquoted_byte (λ c. not (ends_unquoted c)) unquoted_inside cs inside)))
        (next_at at run count)
