-- Where a text is among the texts of a table.
use Rattle.names.proofs.Vocabulary.{◌≡◌, ℕ, ◌+◌, ◌<◌, Bool, false, List, [], ◌∷◌, ◌++◌, length, map, sym, refl, ap, ◌∙◌, arith, Some, string_bytes, length-append, get_or_from_slice_get, slice_get_within, String, bytes_eq, option_map, slice_get, list_any, position, known, nat_tests, length-map, position_or_len}
use Rattle.names.proofs.KnownTexts.{place_of}

module _ {X : Type 0} (test : X → Bool) where
  among : (xs ys : List X) → position_or_len test xs < length xs → position_or_len test (xs ++ ys) ≡ position_or_len test xs
  among [] ys h = absurd (omega arith)
  among (x ∷ xs) ys h = grind (arith, among xs ys)

  past : (xs ys : List X) → list_any test xs ≡ false → position_or_len test (xs ++ ys) ≡ length xs + position_or_len test ys
  past [] ys h = omega arith
  past (x ∷ xs) ys h = grind (arith, past xs ys)

  -- before others, and after elements that do not pass
  place-among : (xs ys : List X) (n : ℕ) → position test xs ≡ Some n → position test (xs ++ ys) ≡ Some n
  place-among xs ys n h = grind (arith, nat_tests, among xs ys, length-append xs ys)

  place-past : (xs ys : List X) → list_any test xs ≡ false → position test (xs ++ ys) ≡ option_map (λ n. length xs + n) (position test ys)
  place-past xs ys h = grind (arith, nat_tests, past xs ys h, length-append xs ys)

of_keys : {A : Type 0} (text : List ℕ) (keys : List (String A))
    → position_or_len (bytes_eq text) (map string_bytes keys) ≡ position_or_len (λ k. bytes_eq text (string_bytes k)) keys
of_keys text [] = refl
of_keys text (k ∷ ks) = grind (arith, of_keys text ks)

place_of_key : {A : Type 0} (text : List ℕ) (keys : List (String A))
    → position (bytes_eq text) (map string_bytes keys) ≡ position (λ k. bytes_eq text (string_bytes k)) keys
place_of_key text keys = grind (arith, of_keys text keys, length-map keys string_bytes)

-- a known text
pub place_of_known : {A : Type 0} (keys : List (String A)) (text : List ℕ) (n : ℕ) → slice_get known n ≡ Some text
    → position (bytes_eq text) (known ++ map string_bytes keys) ≡ Some n
place_of_known keys text n at = place-among (bytes_eq text) known (map string_bytes keys) n
    (ap (λ (t : List ℕ). position (bytes_eq t) known) (sym (get_or_from_slice_get known n text [] at)) ∙ place_of n (slice_get_within known n text at))

-- another
pub place_of_other : {A : Type 0} (keys : List (String A)) (text : List ℕ) → list_any (bytes_eq text) known ≡ false
    → position (bytes_eq text) (known ++ map string_bytes keys) ≡ option_map (λ n. length known + n) (position (λ k. bytes_eq text (string_bytes k)) keys)
place_of_other keys text other =
    place-past (bytes_eq text) known (map string_bytes keys) other ∙ ap (option_map (λ n. length known + n)) (place_of_key text keys)
