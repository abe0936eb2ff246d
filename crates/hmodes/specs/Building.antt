-- The builder of a tree as one value, and what a call does with it.
use Rattle.std.specs.Prelude.{◌≡◌, ◌<◌, ◌⊎◌, ℕ, Bool, not, ◌&&◌, ◌==◌, is_none, List, [], ◌∷◌, ◌++◌, length, Option, Some, None, Result, Ok, Err, MatchOption}
use Rattle.names.specs.declared.error.ParseError.{ParseError}
use Rattle.names.specs.declared.refusal.Refusal.{Refusal}
use Rattle.names.specs.declared.refusal.Refusal.TheVariants.{Memory}
use Rattle.htoken.specs.Token.{Handed, token_in}
use Rattle.hadopt.specs.Naming.{numbers}
use Rattle.hadopt.specs.Site.{Goes}
use Rattle.hadopt.specs.Site as site
use Rattle.hmodes.specs.Reached.{Reached}
use Rattle.hmodes.specs.Runs.{puts_each, pends_each}
use Rattle.hmodes.specs.State.{Again, State, Token}
use Rattle.hmodes.specs.Step.{Chain, Rule, Step, step_begun}
use Rattle.hmodes.specs.Tokens.{token_of, token_at}

-- the state of the tree construction, the root of what is built, the parse errors that were handed over, and what was refused
pub record Building : Type 0 where
  pub state : State ℕ
  pub root : ℕ  -- the document, or a fragment's root element
  pub tokenizer_errors : List ParseError
  pub refused : Option Refusal

-- The call that answers this, and leaves this state, does what comes of a token; or memory ran out.
abbrev pub StepGives : ℕ → Token ℕ → State ℕ → Result (Unit {0}) Refusal → State ℕ → Type 0
StepGives at t old (Ok _) new = Step numbers at t old (Goes new)
StepGives at t old (Err e) new = (e ≡ Memory) ⊎ Step numbers at t old (site.Refused e)

-- the same of the rules of a token that has begun
abbrev pub ChainGives : ℕ → Token ℕ → State ℕ → Result (Unit {0}) Refusal → State ℕ → Type 0
ChainGives at t old (Ok _) new = Chain numbers at t old (Goes new)
ChainGives at t old (Err e) new = (e ≡ Memory) ⊎ Chain numbers at t old (site.Refused e)

-- what a builder that has refused nothing is: tokens led to its state, and the root of what is built was made
pub record BuilderStands (root : ℕ) (s : State ℕ) : Type 0 where
  pub reached : Reached numbers s
  pub made : root < s.site.nodes.made

-- a state in which a token has begun
abbrev pub HasBegun : State ℕ → Type 0
HasBegun s = (before : State ℕ) × Reached numbers before × (s ≡ step_begun before)

-- a token and a state to which the first rule of a token leads that is to be reprocessed
abbrev pub IsReprocessed : ℕ → Token ℕ → State ℕ → Type 0
IsReprocessed at t new = (before : Token ℕ) × (old : State ℕ) × HasBegun old × (Rule numbers at before old ≡ Again t new)

-- A call that is refused is refused from then on.
abbrev pub refused_by : Result (Unit {0}) Refusal → Option Refusal
refused_by (Ok _) = None
refused_by (Err e) = Some e

-- Whether a run can be put whole: it has characters, nothing was refused, and each of them is put as it is.
abbrev pub puts_run : List ℕ → Building → Bool
puts_run run b = not (length run == 0) && is_none b.refused && puts_each b.state

-- the same, and each of them is kept as pending
abbrev pub pends_run : List ℕ → Building → Bool
pends_run run b = not (length run == 0) && is_none b.refused && pends_each b.state

-- What is refused stays so, and nothing changes.
pub record BuilderStaysRefused (r : Refusal) (old : Building) (answer : Result (Unit {0}) Refusal) (new : Building) : Type 0 where
  pub same : answer ≡ Err r
  pub kept : new ≡ old

-- A token is taken.
pub record BuilderTakesOn (at : ℕ) (t : Token ℕ) (old : Building) (answer : Result (Unit {0}) Refusal) (new : Building) : Type 0 where
  pub step : StepGives at t old.state answer new.state
  pub tokenizer_errors : new.tokenizer_errors ≡ old.tokenizer_errors
  pub root : new.root ≡ old.root
  pub refused : new.refused ≡ refused_by answer

abbrev pub TakesTokenAt : ℕ → Token ℕ → Building → Result (Unit {0}) Refusal → Building → Type 0
TakesTokenAt at t old answer new = MatchOption old.refused (BuilderTakesOn at t old answer new) (λ r. BuilderStaysRefused r old answer new)

abbrev pub TakesToken : Building → Handed → Result (Unit {0}) Refusal → Building → Type 0
TakesToken old handed answer new = TakesTokenAt (token_at (token_in handed)) (token_of (token_in handed)) old answer new

-- A parse error is taken: one error more is reported; or memory ran out.
abbrev pub TakesParseError : ParseError → Building → Result (Unit {0}) Refusal → Building → Type 0
TakesParseError e old (Ok _) new = new ≡ record old { tokenizer_errors = old.tokenizer_errors ++ e ∷ [] }
TakesParseError e old (Err r) new = (r ≡ Memory) × (new ≡ record old { refused = Some Memory })

abbrev pub TakesError : Building → ParseError → Result (Unit {0}) Refusal → Building → Type 0
TakesError old e answer new = MatchOption old.refused (TakesParseError e old answer new) (λ r. BuilderStaysRefused r old answer new)
