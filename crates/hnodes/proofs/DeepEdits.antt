-- What the steps of an edit do to the count of one node inside another.
use Rattle.hnodes.proofs.Names.{◌≡◌, ◌≢◌, ℕ, ◌+◌, ◌<◌, ◌≤◌, refl, arith, Forest, none, tree, times, tree_at, cut, children_of, put_before}
use Rattle.hnodes.proofs.Forests.{times-join, times-cut, change_children-absent}
use Rattle.hnodes.proofs.Levels.{put_before-absent}
use Rattle.hnodes.proofs.Counts.{hung, emptied, times-hung, times-hung-apart, times-put, times-put-apart, times-emptied-less, times-emptied-apart}
use Rattle.hnodes.proofs.Deep.{deep, deep-join, deep-lower}

module _ {N : Type 0} where
  -- A tree is cut.

  pub deep-cut : (x y n : ℕ) (f : Forest N) → deep x y (cut n f) + deep x y (tree_at n f) ≤ deep x y f
  deep-cut x y n none = omega arith
  deep-cut x y n (tree b w kids rest) = grind (arith, deep-cut x y n kids, deep-cut x y n rest, deep-join, times-cut)

  -- outside of the tree that is cut nothing changes
  pub deep-cut-apart : (x y n : ℕ) (f : Forest N) → times x (tree_at n f) ≡ 0 → deep x y (cut n f) ≡ deep x y f
  deep-cut-apart x y n none h = refl
  deep-cut-apart x y n (tree b w kids rest) h = grind (arith, deep-cut-apart x y n kids, deep-cut-apart x y n rest, deep-lower, times-join, times-cut)

  -- Trees come under a node p.

  -- nothing changes for a node that is not in them
  pub deep-hung-apart : (x y p : ℕ) (t f : Forest N) → times x t ≡ 0 → deep x y (hung p t f) ≡ deep x y f
  deep-hung-apart x y p t none h = refl
  deep-hung-apart x y p t (tree b w kids rest) h = grind
      (arith, deep-hung-apart x y p t kids h, deep-hung-apart x y p t rest h, times-join, deep-join, deep-lower, times-hung-apart)

  -- where p is outside of y, their nodes are inside y only where they were
  pub deep-hung : (x y p : ℕ) (t f : Forest N) → times p f ≤ 1 → deep p y f ≡ 0 → deep x y (hung p t f) ≤ deep x y f + deep x y t
  deep-hung x y p t none h out = omega arith
  deep-hung x y p t (tree b w kids rest) h out = grind (arith, deep-hung x y p t kids, deep-hung x y p t rest, deep-join, change_children-absent)

  -- where p is inside y, so are their nodes
  pub deep-hung-below : (x y p : ℕ) (t f : Forest N) → times p f ≤ 1 → 0 < deep p y f → times x t ≤ deep x y (hung p t f)
  deep-hung-below x y p t none h in_y = absurd (omega arith)
  deep-hung-below x y p t (tree b w kids rest) h in_y = grind
      (arith, deep-hung-below x y p t kids, deep-hung-below x y p t rest, times-join, deep-lower, times-hung)

  -- Trees come right before a node s.

  pub deep-put-apart : (x y s : ℕ) (t f : Forest N) → times x t ≡ 0 → deep x y (put_before s t f) ≡ deep x y f
  deep-put-apart x y s t none h = refl
  deep-put-apart x y s t (tree b w kids rest) h = grind
      (arith, deep-put-apart x y s t kids h, deep-put-apart x y s t rest h, deep-join, deep-lower, times-put-apart)

  pub deep-put : (x y s : ℕ) (t f : Forest N) → times s f ≤ 1 → deep s y f ≡ 0 → deep x y (put_before s t f) ≤ deep x y f + deep x y t
  deep-put x y s t none h out = omega arith
  deep-put x y s t (tree b w kids rest) h out = grind (arith, deep-put x y s t kids, deep-put x y s t rest, put_before-absent, deep-join)

  pub deep-put-below : (x y s : ℕ) (t f : Forest N) → s ≢ y → times s f ≤ 1 → 0 < deep s y f → times x t ≤ deep x y (put_before s t f)
  deep-put-below x y s t none n h in_y = absurd (omega arith)
  deep-put-below x y s t (tree b w kids rest) n h in_y = grind (arith, deep-put-below x y s t kids n, deep-put-below x y s t rest n, deep-lower, times-put)

  -- A node loses its children.

  pub deep-emptied : (x y m : ℕ) (f : Forest N) → deep x y (emptied m f) + deep x y (children_of m f) ≤ deep x y f
  deep-emptied x y m none = omega arith
  deep-emptied x y m (tree b w kids rest) = grind (arith, deep-emptied x y m kids, deep-emptied x y m rest, deep-join, times-emptied-less)

  pub deep-emptied-apart : (x y m : ℕ) (f : Forest N) → times x (children_of m f) ≡ 0 → deep x y (emptied m f) ≡ deep x y f
  deep-emptied-apart x y m none h = refl
  deep-emptied-apart x y m (tree b w kids rest) h = grind
      (arith, deep-emptied-apart x y m kids, deep-emptied-apart x y m rest, deep-lower, times-join, times-emptied-apart)
