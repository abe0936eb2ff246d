-- Which bytes are refused, and how.
use Rattle.htext.proofs.Names.{◌≡◌, ℕ, ◌<◌, ◌≤◌, ◌+◌, ◌-◌, true, List, ◌++◌, length, take, drop, refl, ap, arith, inl, inr, append_assoc, None, Some, zero, suc, cases_lt, nat_tests, take_all, take-append-drop, length-append, length-take, length-take-le, length-drop, encode_same, length-encode, utf8_valid_len-IsUtf8, ◌↔◌, IsScalar, encode_utf8, len_utf8, IsUtf8, utf8_valid_len, utf8_invalid_len, Bom, NotUtf8, TooLarge, Replace, valid_len, bad_len, fitting_within, fitting, refusal_of, BeginsNoCharacter}
use Rattle.htext.proofs.Valid.{refusal_within, valid_len_le, valid_front_utf8, utf8_valid_len-append, starts_back, none_valid, refusal_past, invalid_bounds}
use Rattle.htext.proofs.Beginnings.{under_limit}
use Rattle.htext.proofs.Fronts.{Parts, front_le, front_past, fit_le}

-- the valid front is all of what is accepted
pub accepted : (limit : ℕ) (bytes : List ℕ) → (refusal_within limit bytes ≡ None) ↔ (IsUtf8 bytes × (length bytes ≤ limit))
accepted limit bytes = (
  λ h. let all : valid_len limit bytes ≡ length bytes = grind (arith, nat_tests) in
      (rw (all, take_all (length bytes) bytes (omega arith)) at (valid_front_utf8 limit bytes), omega (arith, all, valid_len_le limit bytes)),
  λ h. grind (arith, nat_tests, take_all limit bytes h.1, utf8_valid_len-IsUtf8 bytes h.0),
)

pub not_utf8 : (limit : ℕ) (front rest : List ℕ) → IsUtf8 front → length front ≤ limit → 0 < length rest → BeginsNoCharacter rest
    → refusal_within limit (front ++ rest) ≡ Some (NotUtf8 (length front))
not_utf8 limit front rest u within some none =
    grind (arith, nat_tests, none_valid rest none, under_limit (limit - length front) rest, refusal_past limit front rest u within)

-- a character that is longer than the limit is not in the valid front
pub too_long : (limit ch : ℕ) (rest : List ℕ) → limit < len_utf8 ch → BeginsNoCharacter (take limit (encode_utf8 ch ++ rest))
too_long limit ch rest longer c more scalar is = let left = drop limit (encode_utf8 ch ++ rest) in
    let same = encode_same ch c rest (more ++ left) (grind (arith, take-append-drop limit (encode_utf8 ch ++ rest), append_assoc)) in
    grind (arith, longer, same, length-append (encode_utf8 c) more, length-encode c, length-take limit (encode_utf8 ch ++ rest))

pub too_large : (limit : ℕ) (front : List ℕ) (ch : ℕ) (rest : List ℕ) → IsUtf8 front → IsScalar ch → length front ≤ limit → limit < length front + len_utf8 ch
    → refusal_within limit (front ++ (encode_utf8 ch ++ rest)) ≡ Some (TooLarge (length front))
too_large limit front ch rest u scalar within longer = let what : List ℕ = encode_utf8 ch ++ rest in
    let stuck : valid_len (limit - length front) what ≡ 0 = none_valid _ (too_long (limit - length front) ch rest (omega arith)) in
    let past = refusal_past limit front what u within stuck in
    grind (arith, nat_tests, starts_back what rest ch scalar refl, length-append (encode_utf8 ch) rest, length-encode ch, past)

-- WHERE BAD BYTES ARE REPLACED

-- the bad part that is at the front, where the input has ended
pub last_part : (rest : List ℕ) → utf8_valid_len rest ≡ 0 → 0 < length rest → bad_len true rest ≡ Some (utf8_invalid_len rest)
last_part rest none some = grind (arith, nat_tests)

-- all that fits is read
all_step : (k limit : ℕ) (bytes : List ℕ) → length bytes ≤ limit
    → ((r : ℕ) (rest : List ℕ) → length rest ≤ r → length rest < length bytes → fitting_within true k r rest ≡ length rest)
    → fitting_within true (suc k) limit bytes ≡ length bytes
unfolding fitting_within
all_step k limit bytes within after = let n : ℕ = valid_len limit bytes in let rest : List ℕ = drop n bytes in let m : ℕ = utf8_invalid_len rest in
    let all : n ≡ utf8_valid_len bytes = ap utf8_valid_len (take_all limit bytes within) in let le : n ≤ length bytes = (valid_len_le limit bytes).1 in
    let none : utf8_valid_len rest ≡ 0 = grind
    (arith, all, take-append-drop n bytes, utf8_valid_len-append (take n bytes) rest (valid_front_utf8 limit bytes), length-take-le n bytes le) in
    let len = length-drop n bytes in elim (cases_lt 0 (length rest)) [
      | inl some ↦ let bounds = invalid_bounds rest some in let more = after (limit - (n + m)) (drop (n + m) bytes) in
          grind (arith, nat_tests, last_part rest none some, bounds, len, length-drop (n + m) bytes, more)
      | inr nothing ↦ omega (arith, len, fit_le true (suc k) limit bytes)
    ]

all_within : (k limit : ℕ) (bytes : List ℕ) → length bytes ≤ limit → length bytes ≤ k → fitting_within true (suc k) limit bytes ≡ length bytes
all_within zero limit bytes within fuel = all_step zero limit bytes within (λ r rest le less. absurd (omega (arith, less)))
all_within (suc k) limit bytes within fuel = all_step (suc k) limit bytes within (λ r rest le less. all_within k r rest le (omega (arith, less)))

pub all_read : (limit : ℕ) (bytes : List ℕ) → length bytes ≤ limit → fitting true limit bytes ≡ length bytes
all_read limit bytes within = all_within (length bytes) limit bytes within (omega arith)

pub replaced : (bom : Bom) (limit : ℕ) (bytes : List ℕ)
    → (refusal_of (record { bom = bom; bad = Replace; limit = limit }) bytes ≡ None) ↔ (length bytes ≤ limit)
replaced bom limit bytes = (λ h. grind (arith, nat_tests, front_le true Replace limit bytes), λ within. grind (arith, nat_tests, all_read limit bytes within))

-- what follows a front that doesn't fit
pub replaced_past : (bom : Bom) (limit : ℕ) (front rest : List ℕ) → Parts front rest → length front ≤ limit → fitting true (limit - length front) rest ≡ 0
    → 0 < length rest → refusal_of (record { bom = bom; bad = Replace; limit = limit }) (front ++ rest) ≡ Some (TooLarge (length front))
replaced_past bom limit front rest p within stuck some =
    grind (arith, nat_tests, length-append front rest, front_past true Replace limit front rest p within, stuck)
