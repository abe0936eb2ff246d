-- Where the nearest member that is sought is, counted from the farthest one.
use Rattle.std.specs.Prelude.{◌≡◌, ℕ, ◌==◌, Bool, List, [], ◌∷◌, length, slice_index, if◌then◌else◌}

module _ {X : Type 0} where
  -- the place of the nearest member that is sought: from 1, which is the farthest member's, on; 0 where none is sought
  abbrev pub last_place : (X → Bool) → List X → ℕ
  last_place sought [] = 0
  last_place sought (x ∷ rest) = if sought x then length (x ∷ rest) else last_place sought rest

  -- a table says where the nearest member of each number is
  abbrev pub SaysPlaces : (number : X → ℕ) → List ℕ → List X → Type 0
  SaysPlaces number places xs = (k : ℕ) → slice_index places k ≡ last_place (λ x. number x == k) xs
