-- A link as a number: 0 is none, and n + 1 is node n.
use Rattle.std.specs.Prelude.{◌≡◌, ℕ, zero, suc, Option, Some, None, refl}

abbrev pub link_of : ℕ → Option ℕ
link_of zero = None
link_of (suc n) = Some n

abbrev pub raw_of : Option ℕ → ℕ
raw_of None = zero
raw_of (Some n) = suc n

pub raw_back : (n : ℕ) → raw_of (link_of n) ≡ n
raw_back zero = refl
raw_back (suc n) = refl
