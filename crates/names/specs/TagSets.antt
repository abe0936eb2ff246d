-- Sets of names as bits of a number.
use Rattle.std.specs.Prelude.{ℕ, Bool, not, nat_eq}
use Rattle.std.specs.Int.Bits.{bit_and}

-- whether a number has the bit of a set
abbrev pub has_set : ℕ → ℕ → Bool
has_set sets bit = not (nat_eq (bit_and sets bit) 0)
