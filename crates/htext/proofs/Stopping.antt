-- What is left of bytes after a front, and doesn't fit or isn't settled.
use Rattle.htext.proofs.Names.{◌≡◌, ℕ, suc, ◌<◌, ◌≤◌, ◌+◌, ◌-◌, Bool, true, false, List, [], ◌++◌, length, take, sym, refl, ap, ◌∙◌, arith, append_assoc, append-nil, Option, None, Some, nat_tests, length-append, take_at, utf8_valid_len, utf8_error_len, Refusal, TooLarge, Bom, BadBytes, Refuse, Replace, Waits, Refused, next_front, IsAhead, inl, inr, valid_len, bad_len, after_part, fitting_within, front_len, refusal_of, DecodingStaysRefused, DecodingIsRefusedFrom, IsUndecided, BeginsNoCharacter, subst, len_utf8_bounds, take-append-le, cases_lt, nil_from_length, length-encode, utf8_valid_len_le, utf8_valid_len-IsUtf8, IsUtf8-encode, IsUtf8-append, IsUtf8, encode_utf8, Keep, Policy, refusal_with}
use Rattle.htext.specs.declared.progress.Front.TheVariants.{Bad}
use Rattle.htext.proofs.Valid.{going_on, error_bounds, error_more, error_open, valid_len-append, starts, none_valid, refusal_past}
use Rattle.htext.proofs.Fronts.{IsFront, Parts-more, front_more, front_past, undecided_bad}
use Rattle.htext.proofs.Refusals.{replaced, replaced_past, accepted, too_long, too_large}
use Rattle.htext.proofs.Beginnings.{completed, none_after, under_limit}

-- When bytes are refused whatever comes after them.
abbrev refusing : ℕ → Policy
refusing limit = record { bom = Keep; bad = Refuse; limit = limit }

-- a character that doesn't fit does not, whatever comes after it
pub too_long_after : (n : ℕ) (rest more : List ℕ) → 0 < utf8_valid_len rest → valid_len n rest ≡ 0 → valid_len n (rest ++ more) ≡ 0
too_long_after n rest more begun none = let (d, t, scalar, is) = starts rest begun in none_valid _ (subst (λ (x : List ℕ). BeginsNoCharacter (take n x))
    (sym (ap (λ (x : List ℕ). x ++ more) is ∙ append_assoc (encode_utf8 d) t more)) (too_long n d (t ++ more) (grind
    (arith, valid_len-append n (encode_utf8 d) t (IsUtf8-encode d scalar), ap (valid_len n) is, length-encode d, len_utf8_bounds d))))

-- what is refused stays so
pub some_next : (bad : BadBytes) (rest : List ℕ) (room at : ℕ) (r : Refusal) → next_front bad rest room at ≡ Refused r → 0 < length rest
some_next bad rest room at r is = grind (arith, nat_tests, utf8_valid_len_le rest, error_bounds rest)

pub valid_next : (bad : BadBytes) (rest : List ℕ) (room at : ℕ) (r : Refusal) → next_front bad rest room at ≡ Refused r → valid_len room rest ≡ 0
    → (more : List ℕ) → valid_len room (rest ++ more) ≡ 0
valid_next bad rest room at r is stuck more =
    grind (arith, nat_tests, take-append-le room rest more, too_long_after room rest more, none_after rest more, under_limit room (rest ++ more))

same_after : (rest more : List ℕ) (room at : ℕ) (r : Refusal) → next_front Refuse rest room at ≡ Refused r
    → refusal_with Refuse (utf8_valid_len (rest ++ more)) at ≡ r
same_after rest more room at r is = grind (arith, nat_tests, going_on rest more, none_after rest more)

module _ (limit : ℕ) (front rest : List ℕ) (u : IsUtf8 front) (within : length front ≤ limit) (stuck : valid_len (limit - length front) rest ≡ 0) where
  pub stays_refused : (r : Refusal) → next_front Refuse rest (limit - length front) (length front) ≡ Refused r
      → DecodingStaysRefused (refusing limit) (front ++ rest) r
  stays_refused r is more = let room = valid_next Refuse rest _ _ r is stuck more in let some = some_next Refuse rest _ _ r is in
      grind (arith, append_assoc, refusal_past limit front (rest ++ more) u within room, length-append rest more, some, same_after rest more _ _ r is)

  -- what is open is accepted with some more bytes, or too large with them, and no UTF-8 without them
  pub undecided : utf8_valid_len rest ≡ 0 → utf8_error_len rest ≡ None → (refusal : Refusal) → DecodingStaysRefused (refusing limit) (front ++ rest) refusal → ⊥
  undecided none open' refusal stays = elim (cases_lt 0 (length rest)) [
    | inl some ↦ let c = completed rest some none open' in let whole : (front ++ rest) ++ c.more ≡ front ++ encode_utf8 c.ch = grind (arith, append_assoc) in
        let end : List ℕ = encode_utf8 c.ch in let cut_off = refusal_past limit front rest u within stuck some in
        let large = too_large limit front c.ch [] u c.scalar within in let text = IsUtf8-append front end u (IsUtf8-encode c.ch c.scalar) in
        grind (arith, nat_tests, stays [], stays c.more, append-nil, large, (accepted limit (front ++ end)).1, length-append front end, length-encode c.ch)
    | inr nothing ↦ grind (arith, stays [], append-nil, nil_from_length rest, (accepted limit front).1 (u, within))
  ]

pub nothing_waits : (bad : BadBytes) (rest : List ℕ) (room at : ℕ) → rest ≡ [] → Waits ≡ next_front bad rest room at
nothing_waits bad rest room at is = grind (arith, nat_tests, ap length is, utf8_valid_len_le rest, error_bounds rest)

pub text_next : (bad : BadBytes) (rest : List ℕ) (room at : ℕ) → IsUtf8 rest → (rest ≡ [] → ⊥) → next_front bad rest room at ≡ Refused (TooLarge at)
text_next bad rest room at u some = grind (arith, nat_tests, utf8_valid_len-IsUtf8 rest u, nil_from_length rest, some)

-- nothing is read of what begins with no character and no bad part that fits
none_fits : (o : Option ℕ) (room : ℕ) (f : ℕ → ℕ) → ((m : ℕ) → o ≡ Some m → room < m) → after_part o room f ≡ 0
none_fits None room f long = refl
none_fits (Some m) room f long = grind (arith, nat_tests, long m)

fit_stuck : (e : Bool) (k room : ℕ) (bytes : List ℕ) → valid_len room bytes ≡ 0 → ((m : ℕ) → bad_len e bytes ≡ Some m → room < m)
    → fitting_within e (suc k) room bytes ≡ 0
unfolding fitting_within
fit_stuck e k room bytes stuck long = grind (arith, none_fits (bad_len e bytes) (room - 0), long, stuck)

-- WHAT IS REFUSED

part_next : (rest : List ℕ) (room at : ℕ) (r : Refusal) → next_front Replace rest room at ≡ Refused r → (e : Bool) (more : List ℕ) (m : ℕ)
    → bad_len e (rest ++ more) ≡ Some m → room < m
part_next rest room at r is e more m h = grind
    (arith, nat_tests, going_on rest more, error_more rest more, error_bounds rest, error_open rest more, length-append rest more)

pub stuck_by : (bad : BadBytes) (rest : List ℕ) (room at : ℕ) → valid_len room rest ≡ 0 → (r : Refusal) → next_front bad rest room at ≡ Refused r
    → (e : Bool) (more : List ℕ) → front_len e bad room (rest ++ more) ≡ 0
stuck_by Refuse rest room at stuck r is e more = valid_next Refuse rest room at r is stuck more
stuck_by Replace rest room at stuck r is e more =
    fit_stuck e (length (rest ++ more)) room (rest ++ more) (valid_next Replace rest room at r is stuck more) (part_next rest room at r is e more)

too_large_next : (rest : List ℕ) (room at : ℕ) (r : Refusal) → next_front Replace rest room at ≡ Refused r → r ≡ TooLarge at
too_large_next rest room at r is = grind (arith, nat_tests)

pub refused_by : (bom : Bom) (bad : BadBytes) (limit : ℕ) (front rest : List ℕ) → IsFront bad front rest → length front ≤ limit
    → valid_len (limit - length front) rest ≡ 0 → (r : Refusal) → next_front bad rest (limit - length front) (length front) ≡ Refused r
    → DecodingStaysRefused (record { bom = bom; bad = bad; limit = limit }) (front ++ rest) r
refused_by bom Refuse limit front rest u within stuck r is more = stays_refused limit front rest u within stuck r is more
refused_by bom Replace limit front rest p within stuck r is more =
    ap (refusal_of (record { bom = bom; bad = Replace; limit = limit })) (append_assoc front rest more)
    ∙ replaced_past bom limit front (rest ++ more) (Parts-more front rest more p) within (stuck_by Replace rest _ _ stuck r is true more)
    (omega (arith, length-append rest more, some_next Replace rest _ _ r is)) ∙ ap Some (sym (too_large_next rest _ _ r is))

-- no more of the bytes is read then
pub only_front : (e : Bool) (bad : BadBytes) (limit : ℕ) (front rest : List ℕ) → IsFront bad front rest → length front ≤ limit
    → front_len e bad (limit - length front) rest ≡ 0 → take (front_len e bad limit (front ++ rest)) (front ++ rest) ≡ front
only_front e bad limit front rest h within stuck = take_at front rest _ (omega (arith, front_past e bad limit front rest h within, stuck))

pub refused_from : (bom : Bom) (bad : BadBytes) (limit : ℕ) (front rest : List ℕ) → IsFront bad front rest → length front ≤ limit
    → valid_len (limit - length front) rest ≡ 0 → (r : Refusal) → next_front bad rest (limit - length front) (length front) ≡ Refused r
    → DecodingIsRefusedFrom (record { bom = bom; bad = bad; limit = limit }) (front ++ rest) r
refused_from bom bad limit front rest h within stuck r is more = let none = stuck_by bad rest (limit - length front) (length front) stuck r is in
    let later = only_front true bad limit front (rest ++ more) (front_more bad front rest more h) within in
    let first = refused_by bom bad limit front rest h within stuck r is more in
    (first, grind (arith, append_assoc front rest more, append-nil rest, none false [], none true more, later, only_front false bad limit front rest h within))

-- WHAT WAITS, AND WHAT IS REPLACED

pub record WhatWaits (bad : BadBytes) (rest : List ℕ) (room : ℕ) : Type 0 where
  pub none : utf8_valid_len rest ≡ 0
  pub is_open : utf8_error_len rest ≡ None
  pub fits : bad ≡ Replace → length rest ≤ room

pub record WhatIsBad (bad : BadBytes) (rest : List ℕ) (room n : ℕ) : Type 0 where
  pub how : bad ≡ Replace
  pub none : utf8_valid_len rest ≡ 0
  pub is_bad : utf8_error_len rest ≡ Some n
  pub fits : n ≤ room

pub what_waits : (bad : BadBytes) (rest : List ℕ) (room at : ℕ) → next_front bad rest room at ≡ Waits → WhatWaits bad rest room
what_waits bad rest room at e = record { none = grind (arith, nat_tests); is_open = grind (arith, nat_tests); fits = grind (arith, nat_tests) }

pub what_is_bad : (bad : BadBytes) (rest : List ℕ) (room at parts n : ℕ) → next_front bad rest room at ≡ Bad parts n → (parts ≡ 1) × WhatIsBad bad rest room n
what_is_bad bad rest room at parts n e =
    let w : (parts ≡ 1) × (bad ≡ Replace) × (utf8_valid_len rest ≡ 0) × (utf8_error_len rest ≡ Some n) × (n ≤ room) = grind (arith, nat_tests) in
    (w.0, record { how = w.1; none = w.2; is_bad = w.3; fits = w.4 })

-- what is ahead is what is next, but where bytes are bad parts by themselves
pub ahead_refused : (bad : BadBytes) (rest : List ℕ) (room at : ℕ) (r : Refusal) → IsAhead bad rest room at (Refused r)
    → next_front bad rest room at ≡ Refused r
ahead_refused bad rest room at r (inl e) = sym e
ahead_refused bad rest room at r (inr (n, e, some, are)) = absurd cc

pub ahead_waits : (bad : BadBytes) (rest : List ℕ) (room at : ℕ) → IsAhead bad rest room at Waits → next_front bad rest room at ≡ Waits
ahead_waits bad rest room at (inl e) = sym e
ahead_waits bad rest room at (inr (n, e, some, are)) = absurd cc

pub ahead_bounds : (bad : BadBytes) (rest : List ℕ) (room at parts len : ℕ) → IsAhead bad rest room at (Bad parts len)
    → (parts ≤ len) × (0 < len) × (len ≤ room) × (len ≤ length rest)
ahead_bounds bad rest room at parts len (inl e) = let (one, w) = what_is_bad bad rest room at parts len (sym e) in
    grind (arith, one, w.fits, error_bounds rest len w.is_bad)
ahead_bounds bad rest room at parts len (inr (n, e, some, are)) = grind (arith, some, are.fits, are.within)

-- nothing is read of what waits
pub waits_unread : (bad : BadBytes) (rest : List ℕ) (room : ℕ) → valid_len room rest ≡ 0 → WhatWaits bad rest room → front_len false bad room rest ≡ 0
waits_unread Refuse rest room stuck w = stuck
waits_unread Replace rest room stuck w = fit_stuck false (length rest) room rest stuck (λ m h. grind (arith, undecided_bad rest m h, w.is_open))

-- and nothing is refused yet whatever follows
pub waits_undecided : (bom : Bom) (bad : BadBytes) (limit : ℕ) (front rest : List ℕ) → IsFront bad front rest → length front ≤ limit
    → valid_len (limit - length front) rest ≡ 0 → WhatWaits bad rest (limit - length front)
    → IsUndecided (record { bom = bom; bad = bad; limit = limit }) (front ++ rest)
waits_undecided bom Refuse limit front rest u within stuck w refusal stays = undecided limit front rest u within stuck w.none w.is_open refusal stays
waits_undecided bom Replace limit front rest p within stuck w refusal stays =
    grind (arith, length-append front rest, append-nil (front ++ rest), w.fits refl, stays [], (replaced bom limit (front ++ rest)).1)
