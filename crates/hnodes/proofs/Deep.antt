-- How often a node is another one or inside it. Where each node is once, 0 says that it is outside.
use Rattle.hnodes.proofs.Names.{◌≡◌, ℕ, ◌+◌, ◌<◌, ◌≤◌, eqb, if◌then◌else◌, refl, arith, Forest, none, tree, times, join, tree_at, children_of}
use Rattle.hnodes.proofs.Forests.{times-join, times-cut}

module _ {N : Type 0} where
  -- how often x is node y or inside it
  abbrev pub deep : (x y : ℕ) → Forest N → ℕ
  deep x y none = 0
  deep x y (tree b w kids rest) = (if eqb b y then (if eqb b x then 1 else 0) + times x kids else 0) + (deep x y kids + deep x y rest)

  pub deep-join : (x y : ℕ) (f g : Forest N) → deep x y (join f g) ≡ deep x y f + deep x y g
  deep-join x y none g = omega arith
  deep-join x y (tree b w kids rest) g = omega (arith, deep-join x y rest g)

  -- no node is inside another unless both are in the forest
  pub deep-lower : (x y : ℕ) (f : Forest N) → times x f ≡ 0 → deep x y f ≡ 0
  deep-lower x y none h = refl
  deep-lower x y (tree b w kids rest) h = grind (arith, deep-lower x y kids, deep-lower x y rest)

  pub deep-upper : (x y : ℕ) (f : Forest N) → times y f ≡ 0 → deep x y f ≡ 0
  deep-upper x y none h = refl
  deep-upper x y (tree b w kids rest) h = grind (arith, deep-upper x y kids, deep-upper x y rest)

  -- it is the count in the tree of y
  pub deep-is : (x y : ℕ) (f : Forest N) → times y f ≤ 1 → deep x y f ≡ times x (tree_at y f)
  deep-is x y none h = refl
  deep-is x y (tree b w kids rest) h = grind (arith, deep-is x y kids, deep-is x y rest, deep-upper, times-join)

  -- a node is inside itself
  pub deep-self : (y : ℕ) (f : Forest N) → times y f ≤ deep y y f
  deep-self y none = omega arith
  deep-self y (tree b w kids rest) = grind (arith, deep-self y kids, deep-self y rest)

  -- a node's children are inside it
  pub children-deep : (x m : ℕ) (f : Forest N) → times x (children_of m f) ≤ deep x m f
  children-deep x m none = omega arith
  children-deep x m (tree b w kids rest) = grind (arith, children-deep x m kids, children-deep x m rest, times-join)

  -- what is inside m is inside all that m is inside of
  pub deep-trans : (x m y : ℕ) (f : Forest N) → times m f ≤ 1 → 0 < deep m y f → deep x m f ≤ deep x y f
  deep-trans x m y none h in_y = omega arith
  deep-trans x m y (tree b w kids rest) h in_y = grind
      (arith, deep-trans x m y kids, deep-trans x m y rest, deep-lower, deep-upper, deep-is x m kids, times-cut x m kids)
