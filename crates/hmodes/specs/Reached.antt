-- The states that tokens lead to.
use Rattle.std.specs.Prelude.{◌≡◌, ℕ, List}
use Rattle.hmarkup.specs.Quirks.{QuirkLine}
use Rattle.hadopt.specs.Naming.{Naming}
use Rattle.hadopt.specs.Site.{Outcome, Goes}
use Rattle.hmodes.specs.Beginning.{Limits, document_begins, fragment_begins}
use Rattle.hmodes.specs.State.{Token, State}
use Rattle.hmodes.specs.Step.{Step}

-- a state that a document or a fragment begins in, or that a token leads to from such a state
pub data Reached {N : Type 0} (n : Naming N) : State N → Type 0 where
  document : (quirks : List QuirkLine) (limits : Limits) → Reached n (document_begins quirks limits)
  fragment : (context : N) (limits : Limits) → Reached n (fragment_begins n context limits)
  after : {at : ℕ} {t : Token N} {s s' : State N} → Reached n s → Step n at t s (Goes s') → Reached n s'

-- a token has exactly one result
abbrev pub HasOneStep : {N : Type 0} → Naming N → Type 0
HasOneStep {N} n =
    (at : ℕ) (t : Token N) (s : State N) → Reached n s
    → (o : Outcome (State N)) × (Step n at t s o × ((other : Outcome (State N)) → Step n at t s other → other ≡ o))
