-- A builder that keeps how the nodes were made, and what a call does with it.
use Rattle.std.specs.Prelude.{◌≡◌, ◌⊎◌, ℕ, Bool, true, false, List, Option, Some, None, option_map, Result, Ok, Err}
use Rattle.names.specs.declared.error.ParseError.{ParseError}
use Rattle.names.specs.declared.refusal.Refusal.{Refusal}
use Rattle.names.specs.declared.refusal.Refusal.TheVariants.{Memory}
use Rattle.htoken.specs.Token.{Handed, Alone, token_in}
use Rattle.htoken.specs.declared.token.Token.{Token}
use Rattle.hmodes.specs.Building.{TakesError, TakesToken}
use Rattle.hadopt.specs.Naming.{numbers}
use Rattle.hmodes.specs.State.{State, PlacedToken}
use Rattle.hmodes.specs.Tokens.{token_of, token_at}
use Rattle.hparse.specs.declared.builder_with_origins.BuilderWithOrigins.{BuilderWithOrigins}
use Rattle.hparse.specs.declared.origins.Origin.{Origin}
use Rattle.hparse.specs.Origins.{first_makings, after_token}

-- how the nodes were made before any token, if it is asked for
abbrev pub makings_if : {N : Type 0} → Bool → State N → Option (List Origin)
makings_if true s = Some (first_makings s)
makings_if false s = None

-- how they were made, if it is kept
abbrev pub makings_of : BuilderWithOrigins → Option (List Origin)
makings_of it = option_map (λ list. list.items) it.makings

-- a token of the program as the rules take it
abbrev pub placed_number : Token → PlacedToken ℕ
placed_number t = record { token = token_of t; at = token_at t }

-- An error or a token is taken by the builder, and how a token makes nodes is kept; or memory ran out.
abbrev pub TakesErrorWithOrigins : BuilderWithOrigins → ParseError → Result (Unit {0}) Refusal → BuilderWithOrigins → Type 0
TakesErrorWithOrigins old e answer new = TakesError old.builder e answer new.builder × (makings_of new ≡ makings_of old)

abbrev pub TakesWithOrigins : BuilderWithOrigins → Token → Result (Unit {0}) Refusal → BuilderWithOrigins → Type 0
TakesWithOrigins old t (Ok u) new = TakesToken old.builder (Alone t) (Ok u) new.builder
    × (makings_of new ≡ option_map (after_token numbers (placed_number t) old.builder.state new.builder.state) (makings_of old))
TakesWithOrigins old t (Err e) new = (e ≡ Memory) ⊎ TakesToken old.builder (Alone t) (Err e) new.builder

abbrev pub TakesTokenWithOrigins : BuilderWithOrigins → Handed → Result (Unit {0}) Refusal → BuilderWithOrigins → Type 0
TakesTokenWithOrigins old handed answer new = TakesWithOrigins old (token_in handed) answer new
