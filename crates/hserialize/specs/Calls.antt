-- What a call of a target does to its bytes and to its count of failed calls.
use Rattle.std.specs.Prelude.{ℕ, ◌+◌, ◌-◌, ◌^◌, ◌<◌, ◌≤◌, min, List, length, take, Option, None, Some, Bool, true, false, Result, Ok, Err}
use Rattle.std.specs.Io.KnownBytes.{Keeps, Appends}

-- one more failed call, in a count that stays at the greatest u64
abbrev pub counted : ℕ → ℕ
counted failures = min (failures + 1) (2 ^ 64 - 1)

-- the count after a call: None is a call that failed
abbrev pub counted_by : {A : Type 0} → ℕ → Option A → ℕ
counted_by failures (Some _) = failures
counted_by failures None = counted failures

-- the same after one that returns whether it succeeded
abbrev pub counted_unless : ℕ → Bool → ℕ
counted_unless failures true = failures
counted_unless failures false = counted failures

-- the same after calls that end with the first that fails
abbrev pub counted_by_result : {A E : Type 0} → ℕ → Result A E → ℕ
counted_by_result failures (Ok _) = failures
counted_by_result failures (Err _) = counted failures

-- A write took the first n bytes, at least one where there is one; one that failed took nothing.
abbrev pub Writes : Option (List ℕ) → Option (List ℕ) → Option ℕ → List ℕ → Type 0
Writes old new (Some n) bytes = (n ≤ length bytes) × (0 < length bytes → 0 < n) × Appends old new (take n bytes)
Writes old new None bytes = Keeps old new
