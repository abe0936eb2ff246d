-- What every operation asks and keeps: the open nodes are in the document's tree, each one outside of those below it.
use Rattle.std.specs.Prelude.{◌≡◌, ℕ, true, false, List, [], ◌∷◌}
use Rattle.hnodes.specs.Edits.{AreCounted}
use Rattle.hnodes.specs.Forest.{Forest, times, tree_at, children_of, IsOutside}
use Rattle.hnodes.specs.declared.node.Place.{Place}
use Rattle.hnodes.specs.declared.node.Place.TheVariants.{LastIn, Before}
use Rattle.hopen.specs.Stack.{OpenNode}
use Rattle.hopen.specs.Formatting.{entries}
use Rattle.names.specs.declared.tag.Tag.TheVariants.{Table}
use Rattle.hadopt.specs.Naming.{Naming}
use Rattle.hadopt.specs.Site.{SiteOf, stack, trees}

module _ {X : Type 0} where
  -- each member of a list
  abbrev pub Each : (X → Type 0) → List X → Type 0
  Each P [] = Unit {0}
  Each P (x ∷ xs) = P x × Each P xs

  -- each member with each that is after it
  abbrev pub Pairs : (X → X → Type 0) → List X → Type 0
  Pairs R [] = Unit {0}
  Pairs R (x ∷ xs) = Each (R x) xs × Pairs R xs

module _ {N : Type 0} where
  -- a node is below the document, once
  abbrev pub StandsIn : ℕ → Forest N → Type 0
  StandsIn x f = times x (children_of 0 f) ≡ 1

  -- a place is in the document's tree
  abbrev pub PlaceStands : Place → Forest N → Type 0
  PlaceStands (LastIn p) f = times p (tree_at 0 f) ≡ 1
  PlaceStands (Before s) f = StandsIn s f

  -- open nodes, the current one first: each is in the document's tree, and none is inside one that is below it
  pub record OpenStands (f : Forest N) (open_now : List (OpenNode N)) : Type 0 where
    pub stand : Each (λ x. StandsIn x.node f) open_now
    pub order : Pairs (λ x up. IsOutside up.node x.node f) open_now

module _ {N : Type 0} (n : Naming N) where
  -- only a table has the name of a table
  abbrev pub TellsTables : Type 0
  TellsTables = (a : N) → n.same a (n.known Table) ≡ true → n.tag a ≡ Table

  -- what every operation asks and keeps; no entry is for a table
  pub record IsSound (s : SiteOf N) : Type 0 where
    pub counted : AreCounted s.nodes.made (trees s)
    pub open_stands : OpenStands (trees s) (stack s)
    pub plain : Each (λ e. n.same e.name (n.known Table) ≡ false) (entries s.items)
