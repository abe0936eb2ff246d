use Rattle.htext.proofs.laws.bad_parts_begin_characters.Goals as goal
use Rattle.htext.proofs.Names.{◌≡◌, ℕ, ◌<◌, ◌≤◌, ◌+◌, true, false, List, [], ◌∷◌, ◌++◌, length, map, take, drop, sym, refl, ap, ◌∙◌, subst, arith, inl, inr, append-nil, Option, None, Some, ◌⊎◌, ◌↔◌, nat_tests, take_all, take-append-drop, length-take-le, unwrap_or, chars, IsUtf8, utf8_valid_len, utf8_error_len, utf8_invalid_len, some_same, placed, Whole, Bad, reads_at, bad_len, BeginsNoCharacter, BeginsCharacter, IsBadPart}
use Rattle.htext.proofs.Valid.{starts_back, none_valid, error_bounds, error_short, error_more, error_open}
use Rattle.htext.proofs.Beginnings.{front_of, completed, none_after, under_limit}
use Rattle.htext.proofs.Parts.{reads_after_text, reads_after_bad}
use Rattle.htext.proofs.Fronts.{bad_bounds, settled_bad, undecided_bad}
use Rattle.htext.proofs.Refusals.{last_part}

-- The bad part at the front of bytes.
no_character : (bytes : List ℕ) → utf8_valid_len bytes ≡ 0 → BeginsNoCharacter bytes
no_character bytes none = λ ch more scalar is. let begun : 0 < utf8_valid_len bytes = starts_back bytes more ch scalar is in omega (arith, begun, none)

-- it begins a character, or is one byte
begins_by : (o : Option ℕ) (bytes : List ℕ) (n : ℕ) → utf8_error_len (take n bytes) ≡ o → utf8_valid_len bytes ≡ 0 → utf8_error_len bytes ≡ Some n
    → (n ≡ 1) ⊎ BeginsCharacter (take n bytes)
begins_by None bytes n e none bad = let b = error_bounds bytes n bad in
    inr (completed (take n bytes) (omega (arith, b.0, length-take-le n bytes b.1)) (under_limit n bytes none) e)
begins_by (Some k) bytes n e none bad = let whole = error_more (take n bytes) (drop n bytes) k e in let bounds = error_bounds bytes n bad in
    grind (arith, take-append-drop n bytes, whole, error_short (take n bytes) k e, length-take-le n bytes, bounds)

-- and nothing longer begins one
longest : (bytes : List ℕ) (n : ℕ) → utf8_valid_len bytes ≡ 0 → utf8_error_len bytes ≡ Some n → (m : ℕ) → n < m → m ≤ length bytes
    → BeginsCharacter (take m bytes) → ⊥
longest bytes n none bad m longer within h = let len : length (take m bytes) ≡ m = length-take-le m bytes within in
    let open' = front_of h.ch (take m bytes) h.more [] h.scalar (h.is ∙ sym (append-nil _)) (omega (arith, len, longer)) (under_limit m bytes none) in
    grind (arith, error_open (take m bytes) (drop m bytes) n open', take-append-drop m bytes, len)

settled_part : (bytes : List ℕ) (n : ℕ) → utf8_valid_len bytes ≡ 0 → utf8_error_len bytes ≡ Some n → IsBadPart bytes n
settled_part bytes n none bad = let bounds = error_bounds bytes n bad in let begins = begins_by (utf8_error_len (take n bytes)) bytes n refl none bad in
    record { some = bounds.0; within = bounds.1; none = no_character bytes none; begins = begins; longest = longest bytes n none bad }

-- what is open is one part, where nothing follows
open_part : (bytes : List ℕ) → utf8_valid_len bytes ≡ 0 → utf8_error_len bytes ≡ None → 0 < length bytes → IsBadPart bytes (length bytes)
open_part bytes none open' some = let begins = inr (rw (take_all (length bytes) bytes (omega arith)) (completed bytes some none open')) in record
    { some = some; within = omega arith; none = no_character bytes none; begins = begins; longest = λ m longer within _. omega (arith, longer, within) }

part_by : (o : Option ℕ) (bytes : List ℕ) → utf8_error_len bytes ≡ o → utf8_valid_len bytes ≡ 0 → 0 < length bytes
    → IsBadPart bytes (unwrap_or o (length bytes))
part_by None bytes e none some = open_part bytes none e some
part_by (Some n) bytes e none some = settled_part bytes n none e

not_less : (bytes : List ℕ) (m n : ℕ) → IsBadPart bytes m → IsBadPart bytes n → m < n → ⊥
not_less bytes m n a b less = elim b.begins [ inl one ↦ omega (arith, a.some, one, less) | inr begins ↦ a.longest n less b.within begins ]

-- there is one
same_part : (bytes : List ℕ) (m n : ℕ) → IsBadPart bytes m → IsBadPart bytes n → m ≡ n
same_part bytes m n a b = grind (arith, not_less bytes m n a b, not_less bytes n m b a)

invalid_is : (bytes : List ℕ) (n : ℕ) → IsBadPart bytes n → utf8_invalid_len bytes ≡ n
invalid_is bytes n h =
    same_part bytes (utf8_invalid_len bytes) n (part_by (utf8_error_len bytes) bytes refl (none_valid bytes h.none) (omega (arith, h.some, h.within))) h

-- the length that reading looks for
at_end : (bytes : List ℕ) (n : ℕ) → (bad_len true bytes ≡ Some n) ↔ IsBadPart bytes n
at_end bytes n = (
  λ h. let some : 0 < length bytes = omega (arith, bad_bounds true bytes n h) in let none : utf8_valid_len bytes ≡ 0 = grind (arith, nat_tests) in
      rw (some_same _ n (sym (last_part bytes none some) ∙ h)) at (part_by (utf8_error_len bytes) bytes refl none some),
  λ h. last_part bytes (none_valid bytes h.none) (omega (arith, h.some, h.within)) ∙ ap Some (invalid_is bytes n h),
)

settled_by : (o : Option ℕ) (bytes : List ℕ) (n : ℕ) → utf8_error_len bytes ≡ o → ((more : List ℕ) → IsBadPart (bytes ++ more) n) → IsBadPart bytes n
    → bad_len false bytes ≡ Some n
settled_by None bytes n e always here = let c = completed bytes (omega (arith, here.some, here.within)) (none_valid bytes here.none) e in
    absurd ((always c.more).none c.ch [] c.scalar (c.is ∙ sym (append-nil _)))
settled_by (Some k) bytes n e always here = grind (arith, none_valid bytes here.none, settled_bad false bytes k, settled_part bytes k, same_part bytes k n)

before_end : (bytes : List ℕ) (n : ℕ) → (bad_len false bytes ≡ Some n) ↔ ((more : List ℕ) → IsBadPart (bytes ++ more) n)
before_end bytes n = (
  λ h. let (none, bad) = undecided_bad bytes n h in λ more. settled_part (bytes ++ more) n (none_after bytes more n none bad) (error_more bytes more n bad),
  λ always. settled_by (utf8_error_len bytes) bytes n refl always (subst (λ (x : List ℕ). IsBadPart x n) (append-nil bytes) (always [])),
)

-- what is read is one after another
reads_part : (at : ℕ) (front part rest : List ℕ) → IsUtf8 front → IsBadPart (part ++ rest) (length part)
    → reads_at at (front ++ (part ++ rest)) ≡ map Whole (placed at (chars front)) ++ Bad (at + length front) ∷ reads_at (at + length front + length part) rest
reads_part at front part rest u h = let none = none_valid (part ++ rest) h.none in let bad = invalid_is (part ++ rest) (length part) h in
    grind (arith, reads_after_text at front (part ++ rest) u, reads_after_bad (at + length front) part rest none bad h.some)

pub returns-clause-at_end : goal.returns-clause-at_end
returns-clause-at_end c = at_end

pub returns-clause-before_end : goal.returns-clause-before_end
returns-clause-before_end c = before_end

pub returns-clause-reads : goal.returns-clause-reads
returns-clause-reads c = reads_part
