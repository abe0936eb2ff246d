-- What a walk has taken, and what it does with the next character.
use Rattle.std.specs.Prelude.{◌≡◌, ℕ, ◌≤◌, Bool, true, false, List, Option, MatchOption}
use Rattle.names.specs.declared.placed.Placed.{Placed}
use Rattle.charref.specs.declared.reference.Reference.{Reference}
use Rattle.charref.specs.declared.walking.Next.{Next}
use Rattle.charref.specs.declared.walking.Next.TheVariants.{Goes, Ended}
use Rattle.charref.specs.declared.walk.Walk.{Walk}
use Rattle.charref.specs.Reference.{Entities}
use Rattle.charref.specs.Held.{IsHeldReference, is_number, is_within}
use Rattle.charref.specs.Pieces.{IsRead}

-- The walk, with this table, in a value or not, has taken this text after the `&`, and its reference is not known yet.
pub record WalkHasTaken (walk : Walk) (table : Entities) (in_value : Bool) (text : List Placed) : Type 0 where
  pub table_is : walk.table.now ≡ table
  pub in_value_is : walk.in_value ≡ in_value
  pub held : IsHeldReference table in_value walk.state text

-- a step of a walk that has now taken this text
abbrev pub NextIs : Entities → Bool → List Placed → Next → Type 0
NextIs table in_value text (Goes state) = IsHeldReference table in_value state text
NextIs table in_value text (Ended found) = (after : List Placed) → IsRead table in_value text after found

-- A step in a number: it goes on, or it ends, and no more than the last character is read again.
abbrev pub LeavesLast : Reference → Type 0
LeavesLast found = (found.is_ambiguous ≡ false) × (found.left ≤ 1)

abbrev pub StaysNumber : Next → Type 0
StaysNumber (Goes state) = is_number state ≡ true
StaysNumber (Ended found) = LeavesLast found

abbrev pub is_next_within : Next → ℕ → Bool
is_next_within (Goes state) count = is_within state count
is_next_within (Ended found) count = true

-- After this text the walk goes on, or its reference is known, whatever follows.
abbrev pub TakesCharacter : Entities → Bool → List Placed → Option Reference → Walk → Type 0
TakesCharacter table in_value text answer walk =
    MatchOption answer (WalkHasTaken walk table in_value text) (λ found. (after : List Placed) → IsRead table in_value text after found)
