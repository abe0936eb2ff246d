-- The known names as they are in every table.
use Rattle.names.proofs.Vocabulary.{◌≡◌, ℕ, ◌+◌, ◌<◌, ◌≤◌, Bool, true, false, ◌&&◌, nat_lt, List, [], ◌∷◌, length, map, sym, refl, ap, ◌∙◌, arith, inl, inr, get_or, Option, Some, None, zero-add, and_parts, cases_lt, leb-true, get_or-map, get_or-range_with_len, get_or_from_slice_get, slice_get-get_or, slice_get-map, bytes_eq-Decides, bytes_eq, nat_le, option_map, slice_get, list_any, position, range_with_len, text_of, AreDistinct, known, tags, tag_text, type_name, Tag, A, agree_below_at, false≢true, ltb-true, get_or_default, list_any_none, letter_of, FIRST}
use Rattle.names.proofs.Handing.{slice_get-append}
use Rattle.names.proofs.KnownTags.{different}

-- each has the place at which it is alone
pub place_of : (i : ℕ) → i < length known → position (bytes_eq (text_of known i)) known ≡ Some i
place_of i within = sym (get_or-map (λ t. position (bytes_eq t) known) known i [] None within)
    ∙ get_or-map Some (range_with_len 0 (length known)) i 0 None within ∙ ap Some (get_or-range_with_len 0 (length known) i 0 within ∙ zero-add i)

pub known-distinct : AreDistinct known
known-distinct i j p q same = let e : Some i ≡ Some j = sym (place_of i p) ∙ ap (λ t. position (bytes_eq t) known) same ∙ place_of j q in cc

-- a known name that is no attribute's
pub known_tag : (i : ℕ) (t : Tag) → i < length tags → slice_get known i ≡ Some (tag_text (get_or tags i t))
known_tag i t within = slice_get-append (map tag_text tags) (type_name ∷ []) i (tag_text (get_or tags i t))
    (slice_get-map tag_text tags i ∙ ap (option_map tag_text) (slice_get-get_or tags i t within))

-- where a text that begins with a letter is, if it is a known name
abbrev stands : Option ℕ → ℕ → Bool
stands None i = false
stands (Some letter) i = nat_le (get_or FIRST letter 0) i && nat_lt i (get_or FIRST (letter + 1) 0)

stands_at : (i : ℕ) → i < length tags → stands (letter_of (text_of known i)) i ≡ true
stands_at i within = agree_below_at (λ n. stands (letter_of (text_of known n)) n) (λ n. true) (length tags) i refl within

-- no known name from the first with this letter up to a number is the text
abbrev pub Passed : (letter end : ℕ) → List ℕ → Type 0
Passed letter end text = (i : ℕ) → get_or FIRST letter 0 ≤ i → i < end → bytes_eq (text_of known i) text ≡ false

pub passed_more : (letter end : ℕ) (text : List ℕ) → end < length tags → Passed letter end text → bytes_eq (tag_text (get_or tags end A)) text ≡ false
    → Passed letter (end + 1) text
passed_more letter end text within h not_it i from to = elim (cases_lt i end) [
  | inl less ↦ h i from less
  | inr past ↦ let e : i ≡ end = omega (arith, to, past) in
      ap (λ (n : ℕ). bytes_eq (text_of known n) text) e
      ∙ ap (λ (x : List ℕ). bytes_eq x text) (get_or_from_slice_get known end (tag_text (get_or tags end A)) [] (known_tag end A within)) ∙ not_it
]

pub tag_within : (letter i : ℕ) → letter < 26 → i < get_or FIRST (letter + 1) 0 → i < length tags
tag_within letter i few less =
    let all = agree_below_at (λ n. nat_le (get_or FIRST n 0) (length tags)) (λ n. true) 27 (letter + 1) refl (omega (arith, few)) in
    omega (arith, less, leb-true (get_or FIRST (letter + 1) 0) (length tags) all)

-- a text is no known name if it is none of those with its first letter, and not the attribute's
abbrev pub IsNoneOf : Option ℕ → List ℕ → Type 0
IsNoneOf None text = Unit {0}
IsNoneOf (Some letter) text = Passed letter (get_or FIRST (letter + 1) 0) text

none_at : (text : List ℕ) (i : ℕ) (letter : Option ℕ) → IsNoneOf letter text → stands letter i ≡ true → bytes_eq (text_of known i) text ≡ false
none_at text i None h s = absurd (false≢true s)
none_at text i (Some letter) h s = let (from, to) = and_parts (nat_le (get_or FIRST letter 0) i) (nat_lt i (get_or FIRST (letter + 1) 0)) s in
    h i (leb-true (get_or FIRST letter 0) i from) (ltb-true i (get_or FIRST (letter + 1) 0) to)

pub none_known : (text : List ℕ) → IsNoneOf (letter_of text) text → bytes_eq text type_name ≡ false → list_any (bytes_eq text) known ≡ false
none_known text h other =
    list_any_none (bytes_eq text) known (λ i d within. ap (bytes_eq text) (get_or_default known i d [] within) ∙ elim (cases_lt i (length tags)) [
      | inl less ↦ different text (text_of known i) (λ e.
          let s : stands (letter_of text) i ≡ true = ap (λ (x : List ℕ). stands (letter_of x) i) e ∙ stands_at i less in
          false≢true (sym (none_at text i (letter_of text) h s) ∙ (bytes_eq-Decides (text_of known i) text).1 (sym e)))
      | inr past ↦ let e : i ≡ length tags = omega (arith, within, past) in ap (λ (n : ℕ). bytes_eq text (text_of known n)) e ∙ other
    ])
