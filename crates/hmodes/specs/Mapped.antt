-- Tokens and states under other names. What comes of a token under names of one kind comes of it under names of another, where the
-- two kinds agree.
use Rattle.std.specs.Prelude.{ℕ, List, map}
use Rattle.std.specs.Option.{option_map}
use Rattle.hnodes.specs.Mapped.{mapped_attribute}
use Rattle.hadopt.specs.Naming.{Naming}
use Rattle.hadopt.specs.Site.{Outcome}
use Rattle.hadopt.specs.Mapped.{mapped_site, outcome_map}
use Rattle.hmodes.specs.State.{Token, doctype, start, end, comment, character, eof, PlacedToken, State, Flow, Done, Again, Refused}
use Rattle.hmodes.specs.Step.{Step, Steps}

module _ {N M : Type 0} where
  abbrev pub mapped_token : (N → M) → Token N → Token M
  mapped_token g (doctype name public_id system_id forced) = doctype name public_id system_id forced
  mapped_token g (start x attrs closing) = start (g x) (map (mapped_attribute g) attrs) closing
  mapped_token g (end x) = end (g x)
  mapped_token g (comment text) = comment text
  mapped_token g (character c) = character c
  mapped_token g eof = eof

  abbrev pub mapped_placed : (N → M) → PlacedToken N → PlacedToken M
  mapped_placed g t = record { token = mapped_token g t.token; at = t.at }

  abbrev pub mapped_state : (N → M) → State N → State M
  mapped_state g s = record { site = mapped_site g s.site; control = s.control; context = option_map g s.context; quirks_list = s.quirks_list }

  abbrev pub mapped_flow : (N → M) → Flow N → Flow M
  mapped_flow g (Done s) = Done (mapped_state g s)
  mapped_flow g (Again t s) = Again (mapped_token g t) (mapped_state g s)
  mapped_flow g (Refused r) = Refused r

-- what comes of tokens, in two kinds of names
pub record StepsKnowNoNames {N M : Type 0} (m : Naming N) (n : Naming M) (g : N → M) : Type 0 where
  pub step : (at : ℕ) (t : Token N) (s : State N) (o : Outcome (State N)) → Step m at t s o
      → Step n at (mapped_token g t) (mapped_state g s) (outcome_map (mapped_state g) o)
  pub steps : (ts : List (PlacedToken N)) (s : State N) (o : Outcome (State N)) → Steps m ts s o
      → Steps n (map (mapped_placed g) ts) (mapped_state g s) (outcome_map (mapped_state g) o)
