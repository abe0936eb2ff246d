-- What stands whole in a run: a tag without attributes, or an attribute.
use Rattle.htag.proofs.Vocabulary.{◌≡◌, ◌≤◌, ◌<◌, ℕ, zero, suc, ◌+◌, ◌-◌, Bool, true, false, not, ◌||◌, ◌&&◌, eqb, eqb_self, List, [], ◌∷◌, ◌++◌, length, take, drop, sym, refl, ap, ◌∙◌, subst, append_assoc, append-nil, arith, nat_tests, length-drop, length-take-le, take-append-drop, take_all, slice_index, list_all, prefix_len, ParseError, Placed, begins, characters, is_equals, is_greater, is_letter, is_quote, is_space, name_bytes, placed, is_plain_byte, all_weaker, all_placed, Entities, is_unquoted_byte, is_word_byte, ends_name, ends_unquoted, tag_errors, take_at, list_all-append, is_ascii, is_quoted_byte, IsPlainValue, is_no_reference, length-append, nil_from_length, PlainValue, drop-cons, prefix_len_is, prefix_len_passes, prefix_len_stops, is_ascii_lowercase, placed-append, IsBareName, IsTagName, IsNameBefore, IsPlainAttribute, IsWritten, IsTagFront}
use Rattle.htag.proofs.InRun.{counted_all, word_bytes, word_in_name, word_nulls, word_plain}

-- what is before a byte, the byte, and what is after it
split : (n : ℕ) (run : List ℕ) (c : ℕ) → n < length run → slice_index run n ≡ c → run ≡ take n run ++ c ∷ drop (suc n) run
split n run c l is = sym (take-append-drop n run) ∙ ap (λ (x : List ℕ). take n run ++ x) (drop-cons run n 0 l ∙ ap (λ (d : ℕ). d ∷ drop (suc n) run) is)

pub name_is : (run : List ℕ) (count : ℕ) → count ≡ prefix_len is_word_byte run → count ≤ length run → is_ascii_lowercase (slice_index run 0) ≡ true → 0 < count
    → IsTagName run count
name_is [] count is l first some = absurd (omega (arith, l, some))
name_is (x ∷ xs) zero is l first some = absurd (omega (arith, some))
name_is (x ∷ xs) (suc n) is l first some = record {
  letter = x;
  letters = take n xs;
  others = drop n xs;
  run_is = ap (λ (ys : List ℕ). x ∷ ys) (sym (take-append-drop n xs));
  count_is = omega (arith, length-take-le n xs (omega (arith, l)));
  first = grind (arith, first, nat_tests);
  words = counted_all is_word_byte (x ∷ xs) (suc n) is;
}

-- a name, whatever comes after it
module _ (after run : List ℕ) (count : ℕ) (is : IsNameBefore after run count) where
  pub named_taken : take count run ≡ is.letter ∷ is.letters
  named_taken = ap (take count) is.run_is ∙ take_at (is.letter ∷ is.letters) (after ++ is.others) count (omega (arith, is.count_is))

  pub named_within : count ≤ length run
  named_within = omega (arith, is.count_is, ap length is.run_is, length-append (is.letter ∷ is.letters) (after ++ is.others))

  pub named_plain : list_all is_plain_byte (take count run) ≡ true
  named_plain = ap (list_all is_plain_byte) named_taken ∙ all_weaker is_word_byte is_plain_byte word_plain (is.letter ∷ is.letters) is.words

  -- and by itself
  pub named_alone : IsTagName (take count run) (length (take count run))
  named_alone = record {
    letter = is.letter;
    letters = is.letters;
    others = [];
    run_is = named_taken ∙ sym (append-nil (is.letter ∷ is.letters));
    count_is = ap length named_taken ∙ omega arith;
    first = is.first;
    words = is.words;
  }

-- a `>` after it
pub bare_name_is : (run : List ℕ) (count : ℕ) → IsTagName run count → count < length run → slice_index run count ≡ 62 → IsBareName run count
bare_name_is run count is l ends = record {
  letter = is.letter;
  letters = is.letters;
  others = drop (suc count) run;
  run_is = split count run 62 l ends ∙ ap (λ (x : List ℕ). x ++ 62 ∷ drop (suc count) run) (named_taken [] run count is);
  count_is = is.count_is;
  first = is.first;
  words = is.words;
}

module _ (run : List ℕ) (count : ℕ) (is : IsBareName run count) where
  abbrev name : List ℕ
  name = is.letter ∷ is.letters

  pub bare_taken_whole : take (count + 1) run ≡ (is.letter ∷ is.letters) ++ 62 ∷ []
  bare_taken_whole = ap (take (count + 1)) (is.run_is ∙ sym (append_assoc name (62 ∷ []) is.others))
      ∙ take_at (name ++ 62 ∷ []) is.others (count + 1) (omega (arith, is.count_is, length-append name (62 ∷ [])))

  plain_name : list_all is_plain_byte (is.letter ∷ is.letters) ≡ true
  plain_name = all_weaker is_word_byte is_plain_byte word_plain name is.words

  pub bare_within : count + 1 ≤ length run
  bare_within = omega (arith, is.count_is, ap length is.run_is, length-append name (62 ∷ is.others))

  pub bare_plain : list_all is_plain_byte (take (count + 1) run) ≡ true
  bare_plain = ap (list_all is_plain_byte) bare_taken_whole ∙ list_all-append is_plain_byte name (62 ∷ []) ∙ ap (λ (b : Bool). b && true) plain_name

  module _ (at : ℕ) where
    -- the name and the `>`, with their places
    pub bare_placed : placed at (take (count + 1) run) ≡ placed at (is.letter ∷ is.letters) ++ record { ch = 62; at = at + count } ∷ []
    bare_placed = let end : at + length name ≡ at + count = omega (arith, is.count_is) in
        ap (placed at) bare_taken_whole ∙ placed-append at name (62 ∷ []) plain_name ∙ ap (λ (n : ℕ). placed at name ++ record { ch = 62; at = n } ∷ []) end

    pub bare_bytes : name_bytes (placed at (is.letter ∷ is.letters)) ≡ take count run
    bare_bytes = word_bytes at name is.words ∙ sym (named_taken (62 ∷ []) run count is)

    pub bare_no_errors : tag_errors (placed at (is.letter ∷ is.letters)) [] ≡ []
    bare_no_errors = ap (λ (es : List ParseError). es ++ []) (word_nulls at name is.words)

    pub bare_front : (table : Entities) (end place : ℕ) (mark : List ℕ) (opening rest : List Placed) → characters opening ≡ mark
        → IsTagFront table end mark opening (placed at (is.letter ∷ is.letters)) [] (record { ch = 62; at = place } ∷ rest)
    bare_front table end place mark opening rest opens = record {
      opens = opens;
      first = is.first;
      runs = record {
        passes_none = all_placed (λ c. not (ends_name c)) at name (all_weaker is_word_byte (λ c. not (ends_name c)) word_in_name name is.words);
        stops_after = refl;
      };
      in_parts = tt;
    }

-- a start tag has begun with it
pub named_begins : (name : List ℕ) → IsTagName name (length name) → (at : ℕ) → (begins is_letter (placed at name) ≡ true) × (list_all is_word_byte name ≡ true)
named_begins name is at = let long : length is.others ≡ 0 = omega (arith, is.count_is, ap length is.run_is, length-append (is.letter ∷ is.letters) is.others) in
    let all : name ≡ is.letter ∷ is.letters =
    is.run_is ∙ ap (λ (x : List ℕ). (is.letter ∷ is.letters) ++ x) (nil_from_length is.others long) ∙ append-nil (is.letter ∷ is.letters) in
    (ap (λ (x : List ℕ). begins is_letter (placed at x)) all ∙ is.first, ap (list_all is_word_byte) all ∙ is.words)

-- AN ATTRIBUTE

-- where the first of two marks is the second quote
pub quote_first : (quote : ℕ) (run : List ℕ) → prefix_len (is_quoted_byte quote) run < length run
    → slice_index run (prefix_len (is_quoted_byte quote) run) ≡ quote → prefix_len (is_quoted_byte quote) run ≡ prefix_len (λ b. not (eqb b quote)) run
quote_first quote run l is = sym (prefix_len_is (λ b. not (eqb b quote)) run (prefix_len (is_quoted_byte quote) run) 0 (omega (arith, l))
    (λ k below. let passes = prefix_len_passes (is_quoted_byte quote) run k 0 below in grind (arith, passes, nat_tests))
    (λ _. ap (λ (c : ℕ). not (eqb c quote)) is ∙ ap not (eqb_self quote)))

not_mark : (c mark : ℕ) → not (eqb c mark) ≡ false → c ≡ mark
not_mark c mark h = grind (arith, nat_tests)

-- a value that is written so
written_is : {run : List ℕ} {n : ℕ} {plain : Bool} (before value after others : List ℕ) (next : ℕ) → run ≡ before ++ (value ++ (after ++ next ∷ others))
    → n ≡ length value → (plain ≡ true → list_all is_no_reference value ≡ true) → (length before ≡ 0 → plain ≡ true) → IsWritten before value after next
    → IsPlainValue run (record { before = length before; value = n; after = length after; plain = plain })
written_is before value after others next run_is value_is plain bare written = record {
  before = before;
  value = value;
  after = after;
  next = next;
  others = others;
  run_is = run_is;
  before_is = refl;
  value_is = value_is;
  after_is = refl;
  plain = plain;
  bare = bare;
  written = written;
}

-- a value in quotes, one without, and a missing one
pub quoted_is : (run rest : List ℕ) (n : ℕ) (plain : Bool) → rest ≡ drop 2 run → 1 < length run → slice_index run 0 ≡ 61 → is_quote (slice_index run 1) ≡ true
    → n ≡ prefix_len (λ b. not (eqb b (slice_index run 1))) rest → n + 1 < length rest → ends_name (slice_index rest (n + 1)) ≡ true
    → (plain ≡ true → n ≡ prefix_len (is_quoted_byte (slice_index run 1)) rest) → IsPlainValue run (record { before = 2; value = n; after = 1; plain = plain })
quoted_is [] rest n plain rest_is l equals quote is within ends none = absurd (omega (arith, l))
quoted_is (x ∷ []) rest n plain rest_is l equals quote is within ends none = absurd (omega (arith, l))
quoted_is (x ∷ y ∷ others) rest n plain rest_is l equals quote is within ends none = let inner : n < length rest = omega (arith, within) in
    let end : suc n ≡ n + 1 = omega arith in
    let mark : slice_index rest n ≡ y = not_mark (slice_index rest n) y
    (ap (λ (k : ℕ). not (eqb (slice_index rest k) y)) is ∙ prefix_len_stops (λ b. not (eqb b y)) rest 0 (omega (arith, sym is, inner))) in
    written_is (61 ∷ y ∷ []) (take n rest) (y ∷ []) (drop (suc (suc n)) rest) (slice_index rest (n + 1)) (ap (λ (c : ℕ). c ∷ y ∷ others) equals
    ∙ ap (λ (r : List ℕ). 61 ∷ y ∷ r) (sym rest_is ∙ split n rest y inner mark ∙ ap (λ (r : List ℕ). take n rest ++ y ∷ r)
    (drop-cons rest (suc n) 0 (omega (arith, within)) ∙ ap (λ (k : ℕ). slice_index rest k ∷ drop (suc (suc n)) rest) end)))
    (sym (length-take-le n rest (omega (arith, inner))))
    (λ e. all_weaker (is_quoted_byte y) is_no_reference (λ b h. grind (arith, h, nat_tests)) (take n rest) (counted_all (is_quoted_byte y) rest n (none e)))
    (λ e. absurd (omega (arith, e))) (IsWritten.quoted y quote refl (counted_all (λ b. not (eqb b y)) rest n is) refl ends)

pub unquoted_is : (run rest : List ℕ) (n : ℕ) → rest ≡ drop 1 run → 0 < length run → slice_index run 0 ≡ 61 → n ≡ prefix_len is_unquoted_byte rest → 0 < n
    → n < length rest → ends_unquoted (slice_index rest n) ≡ true → IsPlainValue run (record { before = 1; value = n; after = 0; plain = true })
unquoted_is [] rest n rest_is l equals is some within ends = absurd (omega (arith, l))
unquoted_is (x ∷ others) rest n rest_is l equals is some within ends =
    let long : n ≡ length (take n rest) = sym (length-take-le n rest (omega (arith, within))) in
    written_is (61 ∷ []) (take n rest) [] (drop (suc n) rest) (slice_index rest n)
    (ap (λ (c : ℕ). c ∷ others) equals ∙ ap (λ (r : List ℕ). 61 ∷ r) (sym rest_is ∙ split n rest (slice_index rest n) within refl)) long
    (λ e. all_weaker is_unquoted_byte is_no_reference (λ b h. grind (arith, h, nat_tests)) (take n rest) (counted_all is_unquoted_byte rest n is)) (λ e. refl)
    (IsWritten.unquoted refl (omega (arith, some, long)) (counted_all is_unquoted_byte rest n is) refl ends)

pub missing_is : (run : List ℕ) → (eqb (slice_index run 0) 47 || is_greater (slice_index run 0)) ≡ true
    → IsPlainValue run (record { before = 0; value = 0; after = 0; plain = true })
missing_is [] ends = absurd cc
missing_is (x ∷ rest) ends = written_is [] [] [] rest x refl refl (λ e. refl) (λ e. refl) (IsWritten.missing refl refl refl ends)

pub apart_is : (run : List ℕ) → 1 < length run → is_space (slice_index run 0) ≡ true → is_ascii (slice_index run 1) ≡ true
    → not (is_space (slice_index run 1) || is_equals (slice_index run 1)) ≡ true → IsPlainValue run (record { before = 0; value = 0; after = 1; plain = true })
apart_is [] l space small other = absurd (omega (arith, l))
apart_is (x ∷ []) l space small other = absurd (omega (arith, l))
apart_is (x ∷ y ∷ rest) l space small other =
    written_is [] [] (x ∷ []) rest y refl refl (λ e. refl) (λ e. refl) (IsWritten.apart x refl refl refl space small other)

pub attribute_is : (run bytes : List ℕ) (n : ℕ) (value : PlainValue) → bytes ≡ run → n ≡ prefix_len is_word_byte bytes → (n ≡ 0 → ⊥) → n ≤ length bytes
    → IsPlainValue (take (length bytes - n) (drop n bytes)) value → IsPlainAttribute run n value
attribute_is run bytes n value same is some few h = subst (λ (x : List ℕ). IsPlainAttribute x n value) same (record {
  some = omega (arith, some);
  within = few;
  words = counted_all is_word_byte bytes n is;
  value = subst (λ (x : List ℕ). IsPlainValue x value) (take_all (length bytes - n) (drop n bytes) (omega (arith, length-drop n bytes))) h;
})
