-- A known name and its number determine each other.
use Rattle.names.proofs.Vocabulary.{◌≡◌, ℕ, List, length, Some, sym, refl, ap, ◌∙◌, subst, zero-add, inl, inr, get_or_past, get_or-map, get_or-range_with_len, cases_lt, slice_get, Tag, Other, tag_text, tags, known, tag_of, Texts, AreNames, number_of}
use denote.Enum.Declared as enum
use Rattle.names.specs.contracts.tag.Tag as contract
use Rattle.names.proofs.Handing.{slice_get-append}
use Rattle.names.proofs.KnownTags.{whole}

-- the known names are in the order of their numbers
pub number_of-tag_of : (n : ℕ) → (tag_of n ≡ Other → ⊥) → number_of (tag_of n) ≡ n
number_of-tag_of n known_name = elim (cases_lt n (length tags)) [
  | inl less ↦ sym (get_or-map number_of tags n Other 0 less) ∙ get_or-range_with_len 0 (length tags) n 0 less ∙ zero-add n
  | inr past ↦ absurd (known_name (get_or_past tags n Other past))
]

-- a tag is at its place among the variants
pub tag_of-place : (t : Tag) → tag_of (enum.tag_of contract.the_type t) ≡ t
tag_of-place Other = refl
tag_of-place _ = refl

-- which is its number
pub place-is : (t : Tag) → (t ≡ Other → ⊥) → enum.tag_of contract.the_type t ≡ number_of t
place-is t h = sym (number_of-tag_of (enum.tag_of contract.the_type t) (λ e. h (sym (tag_of-place t) ∙ e))) ∙ ap number_of (tag_of-place t)

pub tag_of-number_of : (t : Tag) → (t ≡ Other → ⊥) → tag_of (number_of t) ≡ t
tag_of-number_of t h = ap tag_of (sym (place-is t h)) ∙ tag_of-place t

-- a known text is at its number
known_text : (t : Tag) → (t ≡ Other → ⊥) → slice_get known (number_of t) ≡ Some (tag_text t)
known_text Other h = absurd (h refl)
known_text _ h = refl

-- what is among the known texts is there in every table
pub text_of_first : (names : Texts) (n : ℕ) (text : List ℕ) → AreNames names → slice_get known n ≡ Some text → slice_get names n ≡ Some text
text_of_first names n text h first = subst (λ (x : Texts). slice_get x n ≡ Some text) (whole names h) (slice_get-append known _ n text first)

pub text_of_known : (names : Texts) (t : Tag) → AreNames names → (t ≡ Other → ⊥) → slice_get names (number_of t) ≡ Some (tag_text t)
text_of_known names t h known_name = text_of_first names (number_of t) (tag_text t) h (known_text t known_name)
