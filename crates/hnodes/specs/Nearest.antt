-- Words on lists whose nearest member is first: the stack of open elements from its current node on, and the list of active
-- formatting elements from its last entry on.
use Rattle.std.specs.Prelude.{ℕ, zero, suc, Bool, List, [], ◌∷◌, if◌then◌else◌}

module _ {X : Type 0} where
  -- what is before the nearest member that is sought, or all where there is none
  abbrev pub before : (X → Bool) → List X → List X
  before sought [] = []
  before sought (x ∷ rest) = if sought x then [] else x ∷ before sought rest

  -- what is after the nearest member that is sought, or nothing where there is none
  abbrev pub after : (X → Bool) → List X → List X
  after sought [] = []
  after sought (x ∷ rest) = if sought x then rest else after sought rest

  -- without the nearest member that is sought
  abbrev pub without : (X → Bool) → List X → List X
  without sought [] = []
  without sought (x ∷ rest) = if sought x then rest else x ∷ without sought rest

  -- the nearest member that is sought becomes f of it
  abbrev pub changed : (X → Bool) → (X → X) → List X → List X
  changed sought f [] = []
  changed sought f (x ∷ rest) = if sought x then f x ∷ rest else x ∷ changed sought f rest

  -- one more, right before the nearest member that is sought
  abbrev pub item_put_before : (X → Bool) → X → List X → List X
  item_put_before sought new [] = []
  item_put_before sought new (x ∷ rest) = if sought x then new ∷ x ∷ rest else x ∷ item_put_before sought new rest

  -- the member that has this many before it becomes f of it
  abbrev pub changed_at : ℕ → (X → X) → List X → List X
  changed_at n f [] = []
  changed_at zero f (x ∷ rest) = f x ∷ rest
  changed_at (suc n) f (x ∷ rest) = x ∷ changed_at n f rest
