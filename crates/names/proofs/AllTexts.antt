-- Texts for all numbers.
use Rattle.names.proofs.Vocabulary.{◌≡◌, ℕ, ◌+◌, ◌<◌, ◌≤◌, zero, suc, Bool, true, List, [], ◌∷◌, length, sym, refl, ap, ◌∙◌, subst, arith, inl, inr, bytes_eq, nat_le, list_all, length-replicate, get_or_past, cases_lt, leb-true, and_parts, slice_get-get_or, slice_get_within, get_or_from_slice_get, Tag, Other, tag_text, tags, tag_of, tag_named, tag_among, Texts, text_of, AreDistinct, AreNames, text_total, spelling, known, nat_eq, lt-ltb, le-ltb, length-take, eqb_tells, IsSpelled}
use Rattle.names.proofs.KnownTags.{different, tag_of-named}
use Rattle.names.proofs.TableLemmas.{bytes_eq-same}

-- no text of a table is longer than all of them
pub length-text_of : (names : Texts) (id : ℕ) → id < length names → length (text_of names id) ≤ text_total names
length-text_of [] id within = absurd (omega (arith, within))
length-text_of (text ∷ names) zero within = omega arith
length-text_of (text ∷ names) (suc id) within = omega (arith, length-text_of names id (omega (arith, within)))

-- what the spelling is within the table, and how long it is beyond it
pub spelled_within : (names : Texts) (id : ℕ) → id < length names → spelling names id ≡ text_of names id
spelled_within names id within = rw (lt-ltb id (length names) within) refl

pub length-beyond : (names : Texts) (id : ℕ) → length names ≤ id → length (spelling names id) ≡ 1 + (text_total names + id)
length-beyond names id past = rw (le-ltb id (length names) past) (length-replicate (1 + (text_total names + id)) 0)

length-within : (names : Texts) (id : ℕ) → id < length names → length (spelling names id) ≤ text_total names
length-within names id within =
    subst (λ (t : List ℕ). length t ≤ text_total names) (sym (spelled_within names id within)) (length-text_of names id within)

-- so no two numbers have one text
one_to_one : (names : Texts) → AreDistinct names → (a b : ℕ) → spelling names a ≡ spelling names b → a ≡ b
one_to_one names distinct a b e = elim (cases_lt a (length names)) [
  | inl a_in ↦ elim (cases_lt b (length names)) [
    | inl b_in ↦ distinct a b a_in b_in (sym (spelled_within names a a_in) ∙ e ∙ spelled_within names b b_in)
    | inr b_past ↦ absurd (omega (arith, ap length e, length-within names a a_in, length-beyond names b b_past))
  ]
  | inr a_past ↦ elim (cases_lt b (length names)) [
    | inl b_in ↦ absurd (omega (arith, ap length e, length-within names b b_in, length-beyond names a a_past))
    | inr b_past ↦ omega (arith, ap length e, length-beyond names a a_past, length-beyond names b b_past)
  ]
]

same_names : (names : Texts) → AreDistinct names → (a b : ℕ) → bytes_eq (spelling names a) (spelling names b) ≡ nat_eq a b
same_names names distinct a b = elim (eqb_tells a b) [
  | inl both ↦ subst (λ (n : ℕ). bytes_eq (spelling names a) (spelling names n) ≡ true) both.1 (bytes_eq-same (spelling names a)) ∙ sym both.0
  | inr both ↦ different (spelling names a) (spelling names b) (λ e. both.1 (one_to_one names distinct a b e)) ∙ sym both.0
]

-- a text that is longer than all known names is none of them
abbrev longest : ℕ
longest = 16

abbrev are_short : List Tag → Bool
are_short ts = list_all (λ t. nat_le (length (tag_text t)) longest) ts

tag_among-long : (ts : List Tag) (text : List ℕ) → are_short ts ≡ true → longest < length text → tag_among ts text ≡ Other
tag_among-long [] text short long = refl
tag_among-long (t ∷ ts) text short long = let (first, rest) = and_parts (nat_le (length (tag_text t)) longest) (are_short ts) short in
    let no = different (tag_text t) text (λ e. omega (arith, leb-true (length (tag_text t)) 16 first, long, ap length e)) in
    rw no (tag_among-long ts text rest long)

-- the known names are of each table
pub known-within : (names : Texts) → AreNames names → length known ≤ length names
known-within names h = omega (arith, ap length h.known_first, length-take (length known) names)

same_tags : (names : Texts) → AreNames names → (a : ℕ) → tag_named (spelling names a) ≡ tag_of a
same_tags names h a = elim (cases_lt a (length names)) [
  | inl a_in ↦ ap tag_named (spelled_within names a a_in) ∙ sym (tag_of-named names a (text_of names a) h (slice_get-get_or names a [] a_in))
  | inr a_past ↦ let many : length known ≤ length names = known-within names h in
      tag_among-long tags (spelling names a) refl (omega (arith, many, a_past, length-beyond names a a_past))
      ∙ sym (get_or_past tags a Other (omega (arith, many, a_past)))
]

pub spelled : (names : Texts) → AreNames names → IsSpelled names (spelling names)
spelled names h = record {
  spells = record { names = same_names names h.distinct; tags = same_tags names h };
  table = λ id text at. spelled_within names id (slice_get_within names id text at) ∙ get_or_from_slice_get names id text [] at;
}
