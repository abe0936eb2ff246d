-- Names as numbers: a table is the list of its texts, each by its bytes in UTF-8, and a number is an index in it.
use Rattle.std.specs.Prelude.{◌≡◌, ℕ, ◌<◌, nat_lt, if◌then◌else◌, List, ◌∷◌, ◌++◌, take, length, slice_index_or, []}
use Rattle.names.specs.Tags.{known}

abbrev pub Texts : Type 0
Texts = List (List ℕ)

-- what a number stands for
abbrev pub text_of : Texts → ℕ → List ℕ
text_of names id = slice_index_or names id []

-- a number of this table
abbrev pub IsOf : Texts → ℕ → Type 0
IsOf names id = id < length names

-- the new table has all numbers of the old one, with their texts
abbrev pub Grows : Texts → Texts → Type 0
Grows old new = (more : Texts) × (new ≡ old ++ more)

-- the table once this text has this number: as it was if the number was there, else with the text as its last
abbrev pub interned : List ℕ → ℕ → Texts → Texts
interned text id names = if nat_lt id (length names) then names else names ++ text ∷ []

-- equal texts have equal numbers
abbrev pub AreDistinct : Texts → Type 0
AreDistinct names = (i j : ℕ) → i < length names → j < length names → text_of names i ≡ text_of names j → i ≡ j

-- what every table is: the known names come first, and no two texts are equal
pub record AreNames (names : Texts) : Type 0 where
  pub known_first : take (length known) names ≡ known
  pub distinct : AreDistinct names
