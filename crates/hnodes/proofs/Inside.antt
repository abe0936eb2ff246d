-- Whether a node is inside another, by a count of it there.
use Rattle.hnodes.proofs.Names.{◌≡◌, ◌≢◌, ℕ, ◌+◌, ◌≤◌, refl, ◌∙◌, ap, arith, eq-eqb, Forest, none, tree, size, times, join, tree_at, children_of}
use Rattle.hnodes.proofs.Forests.{times-join, times-cut, size-cut}
use Rattle.hnodes.proofs.Families.{family}

module _ {N : Type 0} where
  pub tree_at-among : (n top : ℕ) (f : Forest N) → times n (tree_at top f) ≤ times n f
  tree_at-among n top f = omega (arith, times-cut n top f)

  pub tree_at-joined : (n top : ℕ) (f g : Forest N) → times n (tree_at top (join f g)) ≤ times n (tree_at top f) + times n (tree_at top g)
  tree_at-joined n top none g = omega arith
  tree_at-joined n top (tree b w kids rest) g = grind (arith, tree_at-joined n top rest g, times-join)

  pub top-inside : (top : ℕ) (f : Forest N) → times top f ≡ 1 → times top (tree_at top f) ≢ 0
  top-inside top f one z =
      let i : times top (tree_at top f) ≡ 1 + (times top (children_of top f) + 0) = ap (times top) (family top f one).1 ∙ rw (eq-eqb top top refl) refl in
      omega arith

  pub tree_at-size : (n : ℕ) (f : Forest N) → size (tree_at n f) ≤ size f
  tree_at-size n f = omega (arith, size-cut n f)
