-- Names asked for by their texts.
use Rattle.std.specs.Prelude.{ℕ, Bool, false, List, bytes_eq, slice_get}
use Rattle.std.specs.Option.{option_map_or}
use Rattle.names.specs.Names.{Texts}

-- whether a number of the table stands for a text
abbrev pub stands_for : Texts → List ℕ → ℕ → Bool
stands_for names text id = option_map_or (bytes_eq text) (slice_get names id) false
