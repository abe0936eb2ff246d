-- A numeric reference that stands whole in a run of the input, outside a value.
use Rattle.charref.proofs.Names.{arith, ◌≡◌, ℕ, ◌+◌, ◌*◌, ◌≤◌, ◌<◌, min, Bool, true, false, nat_eq, List, [], ◌∷◌, ◌++◌, length, take, slice_get, get_or, Some, inl, inr, ◌⊎◌, refl, sym, ap, ◌∙◌, subst, nat_tests, is_ascii, list_all, some_same, Placed, placed, Base, Decimal, Hexadecimal, Reference, Number, Entities, digit_value, is_digit_of, radix, IsHeldReference, IsSign, number_sign, IsRead, number_reference, Settles, zero-mul, HasSign}
use Rattle.charref.proofs.Numbers.{two_signs, first_digit, next_digit, number_closed, held_sign}
use Rattle.charref.proofs.AtOnce.{last_at, more_bytes}
use Rattle.charref.proofs.Fronts.{run_more}

-- SIGNS

pub sign_first : (bytes : List ℕ) → slice_get bytes 0 ≡ Some 35 → HasSign Decimal bytes 1
sign_first [] is = absurd (cc)
sign_first (b ∷ bs) is = let same : b ≡ 35 = some_same b 35 is in
    record { few = omega arith; ascii = rw same refl; sign = λ at. number_sign (record { ch = b; at = at }) same }

x_ascii : (c : ℕ) → (c ≡ 120) ⊎ (c ≡ 88) → is_ascii c ≡ true
x_ascii c (inl h) = ap is_ascii h
x_ascii c (inr h) = ap is_ascii h

pub x_taken : (bytes : List ℕ) → HasSign Decimal bytes 1 → 1 < length bytes → (get_or bytes 1 0 ≡ 120) ⊎ (get_or bytes 1 0 ≡ 88) → HasSign Hexadecimal bytes 2
x_taken bytes before within is = record {
  few = omega arith;
  ascii = run_more is_ascii bytes 1 within before.ascii (x_ascii (get_or bytes 1 0) is);
  sign = λ at. subst (IsSign Hexadecimal) (sym (more_bytes bytes 1 within at)) (held_sign [] false Hexadecimal
      (placed at (take 1 bytes) ++ last_at at bytes 1 ∷ []) (two_signs [] false (placed at (take 1 bytes)) (last_at at bytes 1) (before.sign at) is));
}

-- DIGITS

digit_ascii : (base : Base) (c : ℕ) → is_digit_of base c ≡ true → is_ascii c ≡ true
digit_ascii Decimal c h = grind (arith, nat_tests)
digit_ascii Hexadecimal c h = grind (arith, nat_tests)

-- The bytes from `start` up to `count` are digits, and this is their number.
pub record HasDigits (base : Base) (bytes : List ℕ) (start count value : ℕ) : Type 0 where
  pub after : start ≤ count
  pub few : count ≤ length bytes
  pub small : value ≤ 0x110000
  pub ascii : list_all is_ascii (take count bytes) ≡ true
  pub none : count ≡ start → value ≡ 0
  pub some : start < count → (table : Entities) (at : ℕ) → IsHeldReference table false (Number base value) (placed at (take count bytes))

pub no_digit_yet : (base : Base) (bytes : List ℕ) (start : ℕ) → HasSign base bytes start → HasDigits base bytes start start 0
no_digit_yet base bytes start sign = record
    { after = omega arith; few = sign.few; small = omega arith; ascii = sign.ascii; none = λ same. refl; some = λ less. absurd (omega arith) }

pub one_digit_more : (base : Base) (bytes : List ℕ) (start count value byte d next : ℕ) → HasSign base bytes start → HasDigits base bytes start count value
    → count < length bytes → byte ≡ get_or bytes count 0 → is_digit_of base byte ≡ true → d ≡ digit_value byte → d < 16
    → next ≡ min (value * radix base + d) 0x110000 → HasDigits base bytes start (count + 1) next
one_digit_more base bytes start count value byte d next sign before within is digit d-is small next-is = let after : start ≤ count = before.after in
    record {
      after = omega arith;
      few = omega arith;
      small = omega arith;
      ascii = run_more is_ascii bytes count within before.ascii (ap is_ascii (sym is) ∙ digit_ascii base byte digit);
      none = λ same. absurd (omega arith);
      some = λ less table at. rw (more_bytes bytes count within at) (held table at (last_at at bytes count) (sym is) (nat_eq count start) refl);
    } where
      held : (table : Entities) (at : ℕ) (p : Placed) → p.ch ≡ byte → (b : Bool) → nat_eq count start ≡ b
          → IsHeldReference table false (Number base next) (placed at (take count bytes) ++ p ∷ [])
      held table at p ch true test = let same : count ≡ start = grind (arith, nat_tests) in
          let first : next ≡ min (0 * radix base + d) 0x110000 = next-is ∙ ap (λ v. min (v * radix base + d) 0x110000) (before.none same) in
          let next-d : next ≡ d = omega (arith, zero-mul (radix base)) in
          first_digit table false base (placed at (take count bytes)) p next (subst (λ n. IsSign base (placed at (take n bytes))) (sym same) (sign.sign at))
          (ap (is_digit_of base) ch ∙ digit) (next-d ∙ d-is ∙ ap digit_value (sym ch)) (omega arith)
      held table at p ch false test = next_digit table false base value (placed at (take count bytes)) p d next
          (before.some (grind (arith, nat_tests, before.after)) table at) (ap (is_digit_of base) ch ∙ digit) (d-is ∙ ap digit_value (sym ch)) next-is

-- and their `;`
pub number_settles : (base : Base) (bytes : List ℕ) (start count value : ℕ) (found : Reference) → HasDigits base bytes start count value → start < count
    → count < length bytes → get_or bytes count 0 ≡ 59 → found ≡ number_reference value 0 false → (table : Entities) → Settles table bytes (count + 1) found
number_settles base bytes start count value found digits some within semicolon is table = record {
  some = omega arith;
  few = omega arith;
  ascii = run_more is_ascii bytes count within digits.ascii (ap is_ascii semicolon);
  read =
      λ at after. rw (more_bytes bytes count within at) (subst (λ r. IsRead table false (placed at (take count bytes) ++ last_at at bytes count ∷ []) after r)
      (sym is) (number_closed table false base value (placed at (take count bytes)) after (last_at at bytes count) (digits.some some table at) semicolon));
}
