-- What of the text that a walk has taken may be read again.
use Rattle.charref.proofs.Names.{arith, ◌≡◌, inl, inr, ℕ, ◌+◌, ◌-◌, ◌≤◌, Bool, true, false, cond, List, [], length, drop, refl, sym, ap, ◌∙◌, Placed, ReferenceState, is_number, held_characters, cases_Bool, drop_all}

pub kept_none : (state : ReferenceState) (text : List Placed) → is_number state ≡ true → held_characters state text ≡ []
kept_none state text number = ap (λ (b : Bool). cond b [] text) number

pub kept_all : (state : ReferenceState) (text : List Placed) → is_number state ≡ false → held_characters state text ≡ text
kept_all state text other = ap (λ (b : Bool). cond b [] text) other

pub kept_nothing : (state : ReferenceState) → held_characters state [] ≡ []
kept_nothing state = elim (is_number state) as (λ b. cond {A = List Placed} b [] [] ≡ []) [ true ↦ refl | false ↦ refl ]

pub is_other : (state : ReferenceState) → (is_number state ≡ true → ⊥) → is_number state ≡ false
is_other state never = elim (cases_Bool (is_number state)) [ inl is ↦ absurd (never is) | inr is ↦ is ]

-- The same is read again of what is kept as of all of it: where the last character that is read again comes after it, and at the text's end.
pub drop-kept : (state : ReferenceState) (text : List Placed) (left : ℕ) → (is_number state ≡ true → left ≤ 1)
    → drop (length (held_characters state text) + 1 - left) (held_characters state text) ≡ drop (length text + 1 - left) text
drop-kept state text left few = elim (cases_Bool (is_number state)) [
  | inl is ↦ let within : left ≤ 1 = few is in rw (kept_none state text is) (drop_all _ [] (omega arith) ∙ sym (drop_all _ text (omega arith)))
  | inr is ↦ rw (kept_all state text is) refl
]

pub drop-kept-end : (state : ReferenceState) (text : List Placed) (left : ℕ) → (is_number state ≡ true → left ≡ 0)
    → drop (length (held_characters state text) - left) (held_characters state text) ≡ drop (length text - left) text
drop-kept-end state text left none = elim (cases_Bool (is_number state)) [
  | inl is ↦ let same : left ≡ 0 = none is in rw (kept_none state text is) (drop_all _ [] (omega arith) ∙ sym (drop_all _ text (omega arith)))
  | inr is ↦ rw (kept_all state text is) refl
]
