-- What a clause reads of a `Fitted`.
use Rattle.std.specs.Prelude.{◌≡◌, ℕ, List, ◌∷◌, Option, Some, Result, MatchResult}
use Rattle.names.specs.declared.refusal.Refusal.{Refusal}
use Rattle.names.specs.declared.refusal.Refusal.TheVariants.{Memory}
use Rattle.html_c.specs.declared.fitted.Fitted.{Fitted}

-- the text
abbrev pub fitted_text : Fitted → List ℕ
fitted_text it = it.all.bytes

-- what a writer to it keeps: its room, and after that the text
abbrev pub fitted_contents : Fitted → Option (List ℕ)
fitted_contents it = Some (it.room ∷ it.all.bytes)

abbrev pub fitted_failures : Fitted → ℕ
fitted_failures it = it.failures

-- it is this text with this room, or memory ran out
abbrev pub IsFitted : ℕ → List ℕ → Result Fitted Refusal → Type 0
IsFitted room text result = MatchResult result (λ it. (it.room ≡ room) × (fitted_text it ≡ text)) (λ refusal. refusal ≡ Memory)
