-- The kinds of bytes that lines and columns tell apart.
use Rattle.std.specs.Prelude.{◌≡◌, ℕ, ◌*◌, ◌/◌, ◌%◌, ◌^◌, ◌==◌, List, slice_index_or, if◌then◌else◌}
use Rattle.hwrite.specs.Columns.{begins_character}

-- the kind of a byte: it continues a character (0), is LF (2) or CR (3), or begins another character (1)
abbrev pub kind_of : ℕ → ℕ
kind_of byte = if byte == 10 then 2 else if byte == 13 then 3 else if begins_character byte then 1 else 0

-- two bytes of one kind: both are LF or none is, and so with CR and with bytes that begin a character
pub record AreAlikeBytes (a b : ℕ) : Type 0 where
  pub feeds : (a == 10) ≡ (b == 10)
  pub returns : (a == 13) ≡ (b == 13)
  pub begins : begins_character a ≡ begins_character b

-- the kind at a place of a list that has four in each of its bytes, the first in the lowest bits
abbrev pub kind_at : List ℕ → ℕ → ℕ
kind_at kinds at = slice_index_or kinds (at / 4) 0 / 2 ^ (at % 4 * 2) % 4
