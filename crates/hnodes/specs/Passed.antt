-- The nodes that a walk passes, in their order.
use Rattle.std.specs.Prelude.{ℕ, Bool, true, false, eqb, List, [], ◌∷◌, ◌++◌, Option, Some, None, if◌then◌else◌, unwrap_or}
use Rattle.hnodes.specs.Forest.{What, text, Forest, none, tree, roots, children_of}
use Rattle.hnodes.specs.Spots.{Spot, spot_of, either_of}

module _ {N : Type 0} where
  -- the siblings after a spot
  abbrev pub following : Option (Spot N) → List ℕ
  following None = []
  following (Some s) = roots s.after

  -- a node and the siblings after it
  abbrev pub siblings_from : Option ℕ → Forest N → List ℕ
  siblings_from None f = []
  siblings_from (Some n) f = n ∷ following (spot_of n f)

  -- the nodes that node n is inside of, the nearest first, below those of up
  abbrev pub path_above : ℕ → (up : List ℕ) → Forest N → Option (List ℕ)
  path_above n up none = None
  path_above n up (tree b w kids rest) =
      if eqb b n then Some up else either_of (path_above n (b ∷ up) kids) (path_above n up rest)

  -- all of them
  abbrev pub ancestors_of : ℕ → Forest N → List ℕ
  ancestors_of n f = unwrap_or (path_above n [] f) []

  -- a node and those that it is inside of
  abbrev pub way_up : Option ℕ → Forest N → List ℕ
  way_up None f = []
  way_up (Some n) f = n ∷ ancestors_of n f

  -- all nodes in tree order: each before those inside it, and these before the ones that follow it
  abbrev pub order : Forest N → List ℕ
  order none = []
  order (tree b w kids rest) = b ∷ (order kids ++ order rest)

  -- the trees after a spot
  abbrev pub trees_after : Option (Spot N) → Forest N
  trees_after None = none
  trees_after (Some s) = s.after

  -- in tree order, what comes after a node, after the one that it is inside of, and so on up to node top
  abbrev pub after_each : (top : ℕ) → List ℕ → Forest N → List ℕ
  after_each top [] f = []
  after_each top (n ∷ up) f = if eqb n top then [] else order (trees_after (spot_of n f)) ++ after_each top up f

  -- the nodes inside node top in tree order, from one of them on
  abbrev pub inside_from : (top : ℕ) → Option ℕ → Forest N → List ℕ
  inside_from top None f = []
  inside_from top (Some n) f =
      (n ∷ order (children_of n f)) ++ (order (trees_after (spot_of n f)) ++ after_each top (ancestors_of n f) f)

  -- the characters of a text
  abbrev pub own_text : What N → List ℕ
  own_text (text t) = t
  own_text w = []

  -- the characters of all texts in tree order, one after another
  abbrev pub forest_texts : Forest N → List ℕ
  forest_texts none = []
  forest_texts (tree b w kids rest) = own_text w ++ (forest_texts kids ++ forest_texts rest)

-- whether a number is in a list
abbrev pub is_among : ℕ → List ℕ → Bool
is_among n [] = false
is_among n (x ∷ xs) = if eqb x n then true else is_among n xs
