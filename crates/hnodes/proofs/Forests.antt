-- Laws of forests.
use Rattle.hnodes.proofs.Names.{◌≡◌, ℕ, ◌+◌, eqb, List, ◌∷◌, ◌++◌, Option, Some, refl, ap, arith, Forest, none, tree, roots, size, times, join, tree_at, cut, children_of, change_children, first_or, last_or, None, option_map, spot_below, spot_of, either_of, Look, Linked, row_at, ◌∙◌, nat_tests, not, ◌≤◌, filter}

pub some_inj : {A : Type 0} {a b : A} → Some a ≡ Some b → a ≡ b
some_inj e = cc

-- a list without n
abbrev pub without : ℕ → List ℕ → List ℕ
without n xs = filter (λ x. not (eqb x n)) xs

module _ {N : Type 0} where
  pub times-join : (n : ℕ) (f g : Forest N) → times n (join f g) ≡ times n f + times n g
  times-join n none g = omega arith
  times-join n (tree b w kids rest) g = omega (arith, times-join n rest g)

  pub size-join : (f g : Forest N) → size (join f g) ≡ size f + size g
  size-join none g = omega arith
  size-join (tree b w kids rest) g = omega (arith, size-join rest g)

  pub roots-join : (f g : Forest N) → roots (join f g) ≡ roots f ++ roots g
  roots-join none g = refl
  roots-join (tree b w kids rest) g = ap (λ xs. b ∷ xs) (roots-join rest g)

  pub join-none : (f : Forest N) → join f none ≡ f
  join-none none = refl
  join-none (tree b w kids rest) = let r = join-none rest in λ i. tree b w kids (r i)

  pub join-assoc : (f g h : Forest N) → join (join f g) h ≡ join f (join g h)
  join-assoc none g h = refl
  join-assoc (tree b w kids rest) g h = let r = join-assoc rest g h in λ i. tree b w kids (r i)

  pub first_or-join : (f g : Forest N) (y : Option ℕ) → first_or (join f g) y ≡ first_or f (first_or g y)
  first_or-join none g y = refl
  first_or-join (tree b w kids rest) g y = refl

  pub last_or-join : (x : Option ℕ) (f g : Forest N) → last_or x (join f g) ≡ last_or (last_or x f) g
  last_or-join x none g = refl
  last_or-join x (tree b w kids rest) g = last_or-join (Some b) rest g

  pub cut-absent : (n : ℕ) (f : Forest N) → times n f ≡ 0 → cut n f ≡ f
  cut-absent n none h = refl
  cut-absent n (tree b w kids rest) h = grind (arith, cut-absent n kids, cut-absent n rest)

  pub tree_at-absent : (n : ℕ) (f : Forest N) → times n f ≡ 0 → tree_at n f ≡ none
  tree_at-absent n none h = refl
  tree_at-absent n (tree b w kids rest) h = grind (arith, tree_at-absent n kids, tree_at-absent n rest)

  pub children_of-absent : (n : ℕ) (f : Forest N) → times n f ≡ 0 → children_of n f ≡ none
  children_of-absent n none h = refl
  children_of-absent n (tree b w kids rest) h = grind (arith, children_of-absent n kids, children_of-absent n rest)

  -- where no node is numbered p, nothing is changed under it
  pub change_children-absent : (p : ℕ) (g : Forest N → Forest N) (f : Forest N) → times p f ≡ 0 → change_children p g f ≡ f
  change_children-absent p g none h = refl
  change_children-absent p g (tree b w kids rest) h = grind (arith, change_children-absent p g kids, change_children-absent p g rest)

  pub children_of-changed : (p : ℕ) (g : Forest N → Forest N) (f : Forest N) → times p f ≡ 1 → children_of p (change_children p g f) ≡ g (children_of p f)
  children_of-changed p g none h = absurd (omega arith)
  children_of-changed p g (tree b w kids rest) h = grind
      (arith, children_of-changed p g kids, children_of-changed p g rest, change_children-absent, children_of-absent, join-none)

  -- what is cut and what is left are all there was
  pub times-cut : (m n : ℕ) (f : Forest N) → times m (cut n f) + times m (tree_at n f) ≡ times m f
  times-cut m n none = refl
  times-cut m n (tree b w kids rest) = grind (arith, times-cut m n kids, times-cut m n rest, times-join)

  pub size-cut : (n : ℕ) (f : Forest N) → size (cut n f) + size (tree_at n f) ≡ size f
  size-cut n none = refl
  size-cut n (tree b w kids rest) = grind (arith, size-cut n kids, size-cut n rest, size-join)

  roots-absent : (n : ℕ) (f : Forest N) → times n f ≡ 0 → without n (roots f) ≡ roots f
  roots-absent n none h = refl
  roots-absent n (tree b w kids rest) h = grind (arith, roots-absent n rest)

  pub roots-cut : (n : ℕ) (f : Forest N) → times n f ≤ 1 → roots (cut n f) ≡ without n (roots f)
  roots-cut n none h = refl
  roots-cut n (tree b w kids rest) h = grind (arith, roots-cut n rest, roots-absent n rest)

  -- a change below leaves the trees themselves
  pub roots-change_children : (p : ℕ) (g : Forest N → Forest N) (f : Forest N) → roots (change_children p g f) ≡ roots f
  roots-change_children p g none = refl
  roots-change_children p g (tree b w kids rest) = grind (arith, roots-change_children p g rest)

  -- what is changed under q, and what was there, count against each other
  pub times-changed : (c q : ℕ) (Y f : Forest N) → times q f ≡ 1 → times c (change_children q (λ _. Y) f) + times c (children_of q f) ≡ times c f + times c Y
  times-changed c q Y none h = absurd (omega arith)
  times-changed c q Y (tree b w kids rest) h = grind
      (arith, times-changed c q Y kids, times-changed c q Y rest, children_of-absent, change_children-absent, join-none)

  pub times-emptied : (c q : ℕ) (f : Forest N) → times q f ≡ 1 → times c (change_children q (λ _. none) f) + times c (children_of q f) ≡ times c f
  times-emptied c q f h = omega (arith, times-changed c q none f h)

  pub size-changed : (q : ℕ) (Y f : Forest N) → times q f ≡ 1 → size (change_children q (λ _. Y) f) + size (children_of q f) ≡ size f + size Y
  size-changed q Y none h = absurd (omega arith)
  size-changed q Y (tree b w kids rest) h = grind (arith, size-changed q Y kids, size-changed q Y rest, children_of-absent, change_children-absent, join-none)

  pub children-apart : (q : ℕ) (f : Forest N) → times q f ≡ 1 → times q (children_of q f) ≡ 0
  children-apart q none h = refl
  children-apart q (tree b w kids rest) h = grind (arith, children-apart q kids, children-apart q rest, children_of-absent, join-none)

  -- the children of q are one list
  pub change-const : (q : ℕ) (g : Forest N → Forest N) (f : Forest N) → times q f ≡ 1 → change_children q g f ≡ change_children q (λ _. g (children_of q f)) f
  change-const q g none h = refl
  change-const q g (tree b w kids rest) h = grind (arith, change-const q g kids, change-const q g rest, children_of-absent, change_children-absent, join-none)

-- The row of a node is that of its place.

pub either-none : {A : Type 0} → (o : Option A) → either_of o None ≡ o
either-none None = refl
either-none (Some a) = refl

module _ {N : Type 0} where
  pub spot_below-absent : (n : ℕ) (p x : Option ℕ) (f : Forest N) → times n f ≡ 0 → spot_below n p x f ≡ None
  spot_below-absent n p x none h = refl
  spot_below-absent n p x (tree b w kids rest) h = grind (arith, spot_below-absent n (Some b) None kids, spot_below-absent n p (Some b) rest)

  pub Linked-spot : (look : Look N) (n q : ℕ) (x : Option ℕ) (f : Forest N) → times n f ≡ 1 → Linked look (Some q) x f None
      → look n ≡ option_map row_at (spot_below n (Some q) x f)
  Linked-spot look n q x none h s = absurd (omega arith)
  Linked-spot look n q x (tree b w kids rest) h s = grind
      (arith, Linked-spot look n b None kids, Linked-spot look n q (Some b) rest, spot_below-absent, nat_tests)

  pub spot_of-absent : (n : ℕ) (f : Forest N) → times n f ≡ 0 → spot_of n f ≡ None
  spot_of-absent n none h = refl
  spot_of-absent n (tree b w kids rest) h = rw (spot_below-absent n None None (tree b w kids none) (omega arith), spot_of-absent n rest (omega arith)) refl

  pub Loose-spot : (look : Look N) (x : Option ℕ) (n : ℕ) (f : Forest N) → times n f ≡ 1 → Linked look None x f None → look n ≡ option_map row_at (spot_of n f)
  Loose-spot look x n none h s = absurd (omega arith)
  Loose-spot look x n (tree b w kids rest) h s = grind
      (arith, Loose-spot look (Some b) n rest, Linked-spot look n b None kids, nat_tests, spot_of-absent, spot_below-absent, either-none)

-- in forests one after another
either-assoc : {A : Type 0} (x y z : Option A) → either_of x (either_of y z) ≡ either_of (either_of x y) z
either-assoc None y z = refl
either-assoc (Some a) y z = refl

module _ {N : Type 0} where
  pub tree_at-join : (n : ℕ) (f g : Forest N) → times n f ≡ 0 → tree_at n (join f g) ≡ tree_at n g
  tree_at-join n none g h = refl
  tree_at-join n (tree b w kids rest) g h = grind (arith, tree_at-join n rest g, tree_at-absent)

  pub spot_of-join : (n : ℕ) (f g : Forest N) → spot_of n (join f g) ≡ either_of (spot_of n f) (spot_of n g)
  spot_of-join n none g = refl
  spot_of-join n (tree b w kids rest) g = ap (either_of (spot_below n None None (tree b w kids none))) (spot_of-join n rest g)
      ∙ either-assoc (spot_below n None None (tree b w kids none)) (spot_of n rest) (spot_of n g)
