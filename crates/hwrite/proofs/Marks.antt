-- The places of bytes: the one after a byte, and what a mark has.
use Rattle.hwrite.proofs.Vocabulary.{◌≡◌, ℕ, zero, suc, ◌<◌, ◌≤◌, ◌+◌, ◌-◌, ◌*◌, ◌^◌, Bool, if◌then◌else◌, List, Some, add-one, ap, arith, get_or, length, sym, ◌∙◌, slice_get-get_or, common_steps, AreMarks, begins_character, column_at, ends_line, is_end, line_at}

-- no line or column is more than the bytes before it
line_within : (text : List ℕ) (at : ℕ) → line_at text at ≤ at + 1
line_within text zero = grind (arith, common_steps)
line_within text (suc at) = let h = line_within text at in grind (arith, common_steps)

column_within : (text : List ℕ) (at : ℕ) → column_at text at ≤ at + 1
column_within text zero = grind (arith, common_steps)
column_within text (suc at) = let h = column_within text at in grind (arith, common_steps)

-- the place after a byte, by a byte of its kind, from its own
pub place_next : (text : List ℕ) (at byte : ℕ) (before_lf : Bool) (place next : ℕ × ℕ) → at + 2 < 2 ^ 64 → is_end byte before_lf ≡ ends_line text at
    → begins_character byte ≡ begins_character (get_or text at 0) → place.0 ≡ line_at text at → place.1 ≡ column_at text at
    → (place.0 < 2 ^ 64 - 1 → next.0 ≡ (if is_end byte before_lf then 1 else 0) + place.0)
    → (place.1 < 2 ^ 64 - 1 → next.1 ≡ (if is_end byte before_lf then 1 else (if begins_character byte then 1 else 0) + place.1))
    → (next.0 ≡ line_at text (at + 1)) × (next.1 ≡ column_at text (at + 1))
place_next text at byte before_lf place next inside ends begins line_is column_is next_line next_column =
    let line_after = next_line (omega (arith, line_within text at)) in let column_after = next_column (omega (arith, column_within text at)) in
    rw add-one ((cc), (cc))

-- what is found at a mark is the place of its byte
pub at_mark : (text : List ℕ) (marks : List (ℕ × ℕ)) (k : ℕ) (mark : ℕ × ℕ) → AreMarks text marks → k < length marks → mark ≡ get_or marks k mark
    → (mark.0 ≡ line_at text (k * 256)) × (mark.1 ≡ column_at text (k * 256))
at_mark text marks k mark are inside here = let is = are k mark (slice_get-get_or marks k mark inside ∙ ap Some (sym here)) in
    (ap (λ (m : ℕ × ℕ). m.0) is, ap (λ (m : ℕ × ℕ). m.1) is)
