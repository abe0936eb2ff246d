-- What a call of a reader does to its bytes.
use Rattle.std.specs.Prelude.{◌≡◌, ℕ, ◌<◌, ◌≤◌, List, length, take, Option, None, Some}
use Rattle.std.specs.Io.KnownBytes.{Keeps, Consumes, IsAtEnd}

-- A read gave its first n bytes, none only at the end or with no room; one that failed took nothing.
abbrev pub ReadsCall : Option (List ℕ) → Option (List ℕ) → Option ℕ → List ℕ → Type 0
ReadsCall old new (Some n) buffer = (n ≤ length buffer) × Consumes old new (take n buffer) × (n ≡ 0 → 0 < length buffer → IsAtEnd new)
ReadsCall old new None buffer = Keeps old new
