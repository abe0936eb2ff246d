-- What calls of a writer do to its bytes and to its count of failed calls.
use Rattle.std.specs.Prelude.{◌≡◌, ℕ, List, Option, Result, Ok, Err}
use Rattle.std.specs.Io.KnownBytes.{Appends}
use Rattle.names.specs.declared.refusal.Refusal.{Refusal}
use Rattle.names.specs.declared.refusal.Refusal.TheVariants.{Write}
use Rattle.hserialize.specs.Calls.{counted}
use Rattle.hserialize.specs.Output.{AppendsBeginning}

-- All of the bytes were taken, or a call failed after a beginning of them, which is the refusal Write.
abbrev pub WritesAll : Option (List ℕ) → ℕ → Option (List ℕ) → ℕ → List ℕ → Result (Unit {0}) Refusal → Type 0
WritesAll old before new after bytes (Ok _) = Appends old new bytes × (after ≡ before)
WritesAll old before new after bytes (Err refusal) = (refusal ≡ Write) × AppendsBeginning old new bytes × (after ≡ counted before)

-- the same of calls whose result is dropped
abbrev pub EndsWith : Option (List ℕ) → ℕ → Option (List ℕ) → ℕ → List ℕ → Type 0
EndsWith old before new after bytes = (answer : Result (Unit {0}) Refusal) × WritesAll old before new after bytes answer
