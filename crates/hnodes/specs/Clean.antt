-- Texts and values that are read as they are written.
use Rattle.std.specs.Prelude.{ℕ, Bool, not, ◌||◌, ◌==◌, List}
use Rattle.std.specs.List.{list_all}
use Rattle.hnodes.specs.Forest.{Attribute}

-- neither NUL nor CR
abbrev pub has_no_null_or_return : List ℕ → Bool
has_no_null_or_return t = list_all (λ b. not (b == 0 || b == 13)) t

-- all values of attributes
abbrev pub are_clean : {N : Type 0} → List (Attribute N) → Bool
are_clean attrs = list_all (λ a. has_no_null_or_return a.1) attrs
