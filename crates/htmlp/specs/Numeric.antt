-- The options whose values are numbers.
use Rattle.std.specs.Prelude.{ℕ, ◌^◌, ◌-◌, ◌≤◌, [], ◌∷◌, codes, decimal}
use Rattle.std.specs.List.{concat}
use Rattle.clap.specs.Words.{Text}
use Rattle.htmlp.specs.declared.numeric.Numeric.{Numeric}
use Rattle.htmlp.specs.declared.numeric.Numeric.TheVariants.{Piece, Nodes, Open, Escape}

abbrev pub numeric_name : Numeric → Text
numeric_name Piece = codes "piece"
numeric_name Nodes = codes "nodes"
numeric_name Open = codes "open"
numeric_name Escape = codes "escape"

-- the least and the greatest number
abbrev pub range_of : Numeric → ℕ × ℕ
range_of Piece = (1, 65536)
range_of Nodes = (16, 16777216)
range_of Open = (16, 1048576)
range_of Escape = (1, 2)

-- the range, as the program says it
abbrev pub range_text : Numeric → Text
range_text option = concat (codes "a number from " ∷ decimal (range_of option).0 ∷ codes " to " ∷ decimal (range_of option).1 ∷ [])

-- the numbers that are read: a limit that is out of its range is refused later
abbrev pub accepted : Numeric → ℕ × ℕ
accepted Nodes = (0, 2 ^ 64 - 1)
accepted Open = (0, 2 ^ 64 - 1)
accepted option = range_of option

abbrev pub IsInRange : ℕ × ℕ → ℕ → Type 0
IsInRange range number = (range.0 ≤ number) × (number ≤ range.1)
