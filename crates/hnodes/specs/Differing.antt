-- The names of attributes: whether no two are the same, and where their numbers end.
use Rattle.std.specs.Prelude.{ℕ, suc, max, Bool, true, not, ◌&&◌, List, [], ◌∷◌, map}
use Rattle.std.specs.List.{list_any}
use Rattle.hnodes.specs.Forest.{Attribute}

abbrev pub names_differ : {N : Type 0} → (same : N → N → Bool) → List (Attribute N) → Bool
names_differ same [] = true
names_differ same (a ∷ others) = not (list_any (λ b. same b.0 a.0) others) && names_differ same others

abbrev pub names_of : List (Attribute ℕ) → List ℕ
names_of attrs = map (λ a. a.0) attrs

-- one more than the greatest number
abbrev pub names_end : List (Attribute ℕ) → ℕ
names_end [] = 0
names_end (a ∷ others) = max (suc a.0) (names_end others)
