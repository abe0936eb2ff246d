-- A text in memory.
use Rattle.std.specs.Prelude.{◌≡◌, ℕ, List, Option, Some, Result, Ok, Err, MatchResult}
use Rattle.std.specs.Global.{Vec}
use Rattle.names.specs.declared.refusal.Refusal.{Refusal}
use Rattle.names.specs.declared.refusal.Refusal.TheVariants.{Memory}
use Rattle.hserialize.specs.declared.gathered.Gathered.{Gathered}

-- what was gathered, and how often there was no memory for more
abbrev pub gathered : Gathered → Option (List ℕ)
gathered it = Some it.text.items

abbrev pub gathered_failures : Gathered → ℕ
gathered_failures it = it.failures

-- the text, if this is the answer that it was all written
abbrev pub text_if : Gathered → Result (Unit {0}) Refusal → Result (Vec ℕ) Refusal
text_if it (Ok _) = Ok it.text
text_if it (Err _) = Err Memory

-- it is this text, or memory ran out
abbrev pub HoldsBytes : Result (Vec ℕ) Refusal → List ℕ → Type 0
HoldsBytes result text = MatchResult result (λ it. it.items ≡ text) (λ refusal. refusal ≡ Memory)
