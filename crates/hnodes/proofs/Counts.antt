-- How often a node is in a forest after each step of an edit.
use Rattle.hnodes.proofs.Names.{◌≡◌, ℕ, ◌+◌, ◌≤◌, refl, arith, Forest, none, tree, times, join, children_of, change_children, put_before}
use Rattle.hnodes.proofs.Forests.{times-join, change_children-absent}
use Rattle.hnodes.proofs.Levels.{put_before-absent}

module _ {N : Type 0} where
  -- the forest with these trees as the last children of p
  abbrev pub hung : ℕ → (t f : Forest N) → Forest N
  hung p t f = change_children p (λ kids. join kids t) f

  -- the forest in which m has no children
  abbrev pub emptied : ℕ → Forest N → Forest N
  emptied m f = change_children m (λ _. none) f

  pub times-hung : (x p : ℕ) (t f : Forest N) → times p f ≡ 1 → times x (hung p t f) ≡ times x f + times x t
  times-hung x p t none h = absurd (omega arith)
  times-hung x p t (tree b w kids rest) h = grind (arith, times-hung x p t kids, times-hung x p t rest, times-join, change_children-absent)

  pub times-hung-apart : (x p : ℕ) (t f : Forest N) → times x t ≡ 0 → times x (hung p t f) ≡ times x f
  times-hung-apart x p t none h = refl
  times-hung-apart x p t (tree b w kids rest) h = grind (arith, times-hung-apart x p t kids h, times-hung-apart x p t rest h, times-join)

  pub times-put : (x s : ℕ) (t f : Forest N) → times s f ≡ 1 → times x (put_before s t f) ≡ times x f + times x t
  times-put x s t none h = absurd (omega arith)
  times-put x s t (tree b w kids rest) h = grind (arith, times-put x s t kids, times-put x s t rest, times-join, put_before-absent)

  pub times-put-apart : (x s : ℕ) (t f : Forest N) → times x t ≡ 0 → times x (put_before s t f) ≡ times x f
  times-put-apart x s t none h = refl
  times-put-apart x s t (tree b w kids rest) h = grind (arith, times-put-apart x s t kids h, times-put-apart x s t rest h, times-join)

  pub times-emptied-less : (x m : ℕ) (f : Forest N) → times x (emptied m f) ≤ times x f
  times-emptied-less x m none = omega arith
  times-emptied-less x m (tree b w kids rest) = grind (arith, times-emptied-less x m kids, times-emptied-less x m rest)

  pub times-emptied-apart : (x m : ℕ) (f : Forest N) → times x (children_of m f) ≡ 0 → times x (emptied m f) ≡ times x f
  times-emptied-apart x m none h = refl
  times-emptied-apart x m (tree b w kids rest) h = grind (arith, times-emptied-apart x m kids, times-emptied-apart x m rest, times-join)
