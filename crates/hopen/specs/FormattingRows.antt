-- Worked rows of the definitions, which the prover computes.
use Rattle.std.specs.Prelude.{◌≡◌, refl, ℕ, List, [], ◌∷◌, Some, None, codes, bytes_eq}
use Rattle.hnodes.specs.Forest.{Attribute}
use Rattle.hopen.specs.Formatting.{EntryOf, Listed, marker, entry, cleared, booked, pushed, find_entry, without_entry}
use Rattle.hopen.specs.declared.bookmark.Bookmark.TheVariants.{InPlace, After}

abbrev Text : Type 0
Text = List ℕ

abbrev attribute : Text → Text → Attribute Text
attribute name value = (name, value)

abbrev made_for : ℕ → Text → List (Attribute Text) → EntryOf Text
made_for n name attrs = record { node = n; name = name; attrs = attrs }

abbrev b : ℕ → Listed Text
b n = entry (made_for n (codes "b") (attribute (codes "x") (codes "1") ∷ attribute (codes "y") (codes "2") ∷ []))

abbrev b_turned : ℕ → EntryOf Text
b_turned n = made_for n (codes "b") (attribute (codes "y") (codes "2") ∷ attribute (codes "x") (codes "1") ∷ [])

abbrev i : ℕ → Listed Text
i n = entry (made_for n (codes "i") [])

abbrev push_b : ℕ → List (Listed Text) → List (Listed Text)
push_b n items = pushed bytes_eq (b_turned n) items

-- the fourth of equal entries, in whatever order their attributes are, takes the place of the earliest
fourth_equal : push_b 9 (b 4 ∷ i 3 ∷ b 2 ∷ b 1 ∷ []) ≡ entry (b_turned 9) ∷ b 4 ∷ i 3 ∷ b 2 ∷ []
fourth_equal = refl

third_equal : push_b 9 (b 4 ∷ i 3 ∷ b 2 ∷ []) ≡ entry (b_turned 9) ∷ b 4 ∷ i 3 ∷ b 2 ∷ []
third_equal = refl

-- those before the last marker don't count
marker_between : push_b 9 (b 5 ∷ b 4 ∷ marker ∷ b 2 ∷ b 1 ∷ []) ≡ entry (b_turned 9) ∷ b 5 ∷ b 4 ∷ marker ∷ b 2 ∷ b 1 ∷ []
marker_between = refl

abbrev b_other_value : EntryOf Text
b_other_value = made_for 9 (codes "b") (attribute (codes "x") (codes "1") ∷ attribute (codes "y") (codes "3") ∷ [])

abbrev b_one_less : EntryOf Text
b_one_less = made_for 9 (codes "b") (attribute (codes "x") (codes "1") ∷ [])

-- another value, or one attribute less, is not equal
another_value : pushed bytes_eq b_other_value (b 3 ∷ b 2 ∷ b 1 ∷ []) ≡ entry b_other_value ∷ b 3 ∷ b 2 ∷ b 1 ∷ []
another_value = refl

one_less : pushed bytes_eq b_one_less (b 3 ∷ b 2 ∷ b 1 ∷ []) ≡ entry b_one_less ∷ b 3 ∷ b 2 ∷ b 1 ∷ []
one_less = refl

-- up to and with the last marker
clear_to_marker : cleared (b 5 ∷ i 4 ∷ marker ∷ b 2 ∷ marker ∷ []) ≡ b 2 ∷ marker ∷ []
clear_to_marker = refl

clear_all : cleared (b 5 ∷ i 4 ∷ []) ≡ []
clear_all = refl

-- the last of a name, and none before the last marker
find_b : find_entry bytes_eq (codes "i") (b 5 ∷ i 4 ∷ i 3 ∷ []) ≡ Some (made_for 4 (codes "i") [])
find_b = refl

find_none : find_entry bytes_eq (codes "i") (b 5 ∷ marker ∷ i 3 ∷ []) ≡ None
find_none = refl

-- the entry of node 2 becomes that of node 9: in its place, after a later entry, after an earlier one
in_place : booked 2 9 InPlace (i 3 ∷ b 2 ∷ i 1 ∷ []) ≡ i 3 ∷ b 9 ∷ i 1 ∷ []
in_place = refl

after_a_later_one : booked 2 9 (After 3) (i 4 ∷ i 3 ∷ b 2 ∷ i 1 ∷ []) ≡ i 4 ∷ b 9 ∷ i 3 ∷ i 1 ∷ []
after_a_later_one = refl

after_an_earlier_one : booked 3 9 (After 1) (i 4 ∷ b 3 ∷ i 2 ∷ i 1 ∷ []) ≡ i 4 ∷ i 2 ∷ b 9 ∷ i 1 ∷ []
after_an_earlier_one = refl

removed : without_entry 3 (i 4 ∷ b 3 ∷ marker ∷ i 1 ∷ []) ≡ i 4 ∷ marker ∷ i 1 ∷ []
removed = refl
