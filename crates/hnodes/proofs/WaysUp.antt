-- From a node to its parent, and so on.
use Rattle.hnodes.proofs.Names.{◌≡◌, ℕ, ◌<◌, List, [], ◌∷◌, Some, None, refl, sym, ◌∙◌, ap, arith, unwrap_or, ◌⊎◌, inl, inr, eq-eqb, eqb-true, What, Forest, none, tree, times, join, children_of, parent_of, AreCounted, path_above, ancestors_of, way_up, is_among, tree_at, eqb, ltb, ◌≤◌, false, ◌||◌, nat_tests}
use Rattle.hnodes.proofs.Forests.{times-join, tree_at-absent, either-none}
use Rattle.hnodes.proofs.Inside.{tree_at-among}
use Rattle.hnodes.proofs.Levels.{level, Here, Below}
use Rattle.hnodes.proofs.Counted.{at-most, is-there}
use Rattle.hnodes.proofs.Families.{left-apart}
use Rattle.hnodes.proofs.ChildSpots.{child-spot, root-spot}
use Rattle.hnodes.proofs.Families.{of_root, of_kids, of_rest, child}

module _ {N : Type 0} where
  above-absent : (n : ℕ) (up : List ℕ) (f : Forest N) → times n f ≡ 0 → path_above n up f ≡ None
  above-absent n up none h = refl
  above-absent n up (tree b w kids rest) h = grind (arith, above-absent n (b ∷ up) kids, above-absent n up rest)

  above-row : (n : ℕ) (w : What N) (up : List ℕ) (L k R : Forest N) → times n L ≡ 0 → path_above n up (join L (tree n w k R)) ≡ Some up
  above-row n w up none k R h = rw (eq-eqb n n refl) refl
  above-row n w up (tree b v kids rest) k R h = grind (arith, above-row n w up rest k R, above-absent)

  -- a node that a node is inside of is above it
  pub above-inside : (n top : ℕ) (up : List ℕ) (f : Forest N) → times n f ≡ 1 → times top f ≤ 1 → eqb n top ≡ false
      → is_among top (unwrap_or (path_above n up f) []) ≡ (is_among top up || ltb 0 (times n (tree_at top f)))
  above-inside n top up none one few other = absurd (omega arith)
  above-inside n top up (tree b w kids rest) one few other = grind
      (arith, nat_tests, above-inside n top (b ∷ up) kids, above-inside n top up rest, above-absent, times-join, tree_at-among, tree_at-absent, either-none)

  module _ (n q : ℕ) (w : What N) where
    stacked : (up : List ℕ) (L k R f : Forest N) → times q f ≡ 1 → times n f ≡ 1 → children_of q f ≡ join L (tree n w k R)
        → unwrap_or (path_above n up f) [] ≡ q ∷ unwrap_or (path_above q up f) []
    stacked up L k R none one once is = absurd (omega arith)
    stacked up L k R (tree b v kids rest) one once is = elim (child n q w L k R b v kids rest one once is) [
      | of_root i j o y same z ↦ let apart = left-apart n q w L k R (ap (times n) (sym same) ∙ o) in
          rw (i, j, same, above-row n w (b ∷ up) L k R apart) (ap (λ m. m ∷ up) (eqb-true b q i))
      | of_kids i j o y a same z ↦
          rw (i, j, above-absent n up rest y, above-absent q up rest z, either-none (path_above n (b ∷ up) kids), either-none (path_above q (b ∷ up) kids))
          (stacked (b ∷ up) L k R kids a o same)
      | of_rest i t j o y a same ↦ rw (i, j, above-absent q (b ∷ up) kids t, above-absent n (b ∷ up) kids o) (stacked up L k R rest a y same)
    ]

  -- one step
  pub way-step : (made : ℕ) (f : Forest N) → AreCounted made f → (n : ℕ) → n < made → way_up (Some n) f ≡ n ∷ way_up (parent_of n f) f
  way-step made f counted n h = ap (λ xs. n ∷ xs) (go (level n f one (at-most made f counted))) where
    one : times n f ≡ 1
    one = is-there made f counted n h

    go : Here n f ⊎ Below n f → ancestors_of n f ≡ way_up (parent_of n f) f
    go (inl p) = let spot = root-spot n p.what p.left p.kids p.right f (at-most made f counted n) p.is in
        let apart = left-apart n n p.what p.left p.kids p.right (ap (times n) (sym p.is) ∙ one) in
        let above : path_above n [] f ≡ Some [] = rw p.is (above-row n p.what [] p.left p.kids p.right apart) in
        rw (above, spot) refl
    go (inr p) = let spot = child-spot n p.parent p.what p.left p.kids p.right f p.one one p.is in
        stacked n p.parent p.what [] p.left p.kids p.right f p.one one p.is ∙ rw spot refl
