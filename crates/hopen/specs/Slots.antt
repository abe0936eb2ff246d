-- Slots of a stack: each holds an open node, or is a hole.
use Rattle.std.specs.Prelude.{ℕ, Bool, false, List, [], ◌∷◌, Option, Some, None}

module _ {X : Type 0} where
  -- what the slots hold
  abbrev pub somes : List (Option X) → List X
  somes [] = []
  somes (None ∷ slots) = somes slots
  somes (Some x ∷ slots) = x ∷ somes slots

  -- whether a slot holds one that is sought
  abbrev pub holds_one : (X → Bool) → Option X → Bool
  holds_one sought None = false
  holds_one sought (Some x) = sought x

  -- 1 for a hole
  abbrev pub gap : Option X → ℕ
  gap None = 1
  gap (Some x) = 0
