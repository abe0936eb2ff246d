-- Items by how many come after them, holes not counted.
use Rattle.std.specs.Prelude.{ℕ, zero, suc, List, [], ◌∷◌, Option, Some, None, option_map, if◌then◌else◌}
use Rattle.hopen.specs.Formatting.{Listed}
use Rattle.hopen.specs.Items.{is_listed_hole}

-- the index of the item that this many come after
abbrev pub nth_live : ℕ → List (Listed ℕ) → Option ℕ
nth_live n [] = None
nth_live zero (x ∷ xs) = if is_listed_hole x then option_map suc (nth_live zero xs) else Some 0
nth_live (suc n) (x ∷ xs) = if is_listed_hole x then option_map suc (nth_live (suc n) xs) else option_map suc (nth_live n xs)
