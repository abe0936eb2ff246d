-- Lists of numbers, and where a number is last in them.
use Rattle.std.specs.Prelude.{ℕ, zero, suc, Bool, List, slice_index, if◌then◌else◌}

-- the number that stands where nothing is
abbrev pub none : ℕ
none = 1

-- Where a number that is sought is last among the first of a list, as many as are given. Ordinals count from 1; 0 is none.
abbrev pub last_up : (ℕ → Bool) → List ℕ → ℕ → ℕ
last_up sought numbers zero = 0
last_up sought numbers (suc i) = if sought (slice_index numbers i) then suc i else last_up sought numbers i
