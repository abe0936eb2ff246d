-- Where a child of a node is.
use Rattle.hnodes.proofs.Names.{◌≡◌, ℕ, ◌≤◌, Option, Some, None, refl, sym, ◌∙◌, ap, arith, eq-eqb, eqb-true, What, Forest, none, tree, times, join, children_of, Spot, spot_below, spot_of, last_or}
use Rattle.hnodes.proofs.Forests.{times-join, join-none, either-none, spot_below-absent, spot_of-absent, spot_of-join}
use Rattle.hnodes.proofs.Forests.{children_of-absent, times-join}
use Rattle.hnodes.proofs.Families.{of_root, of_kids, of_rest, child, left-apart, children-among}

module _ {N : Type 0} (n q : ℕ) (w : What N) (L k R : Forest N) where
  -- the child n among its siblings
  abbrev pub spot_among : (parent before : Option ℕ) → Spot N
  spot_among p x = record { parent = p; before = last_or x L; what = w; children = k; after = R }

module _ {N : Type 0} (n q : ℕ) (w : What N) where
  spot-row : (p x : Option ℕ) (L k R : Forest N) → times n L ≡ 0 → spot_below n p x (join L (tree n w k R)) ≡ Some (spot_among n q w L k R p x)
  spot-row p x none k R h = rw (eq-eqb n n refl) refl
  spot-row p x (tree b v kids rest) k R h = grind (arith, spot-row p (Some b) rest k R, spot_below-absent)

  child-below : (p x : Option ℕ) (L k R f : Forest N) → times q f ≡ 1 → times n f ≡ 1 → children_of q f ≡ join L (tree n w k R)
      → spot_below n p x f ≡ Some (spot_among n q w L k R (Some q) None)
  child-below p x L k R none one once is = absurd (omega arith)
  child-below p x L k R (tree b v kids rest) one once is = elim (child n q w L k R b v kids rest one once is) [
    | of_root i j o y same z ↦ let apart = left-apart n q w L k R (ap (times n) (sym same) ∙ o) in
        rw (j, spot_below-absent n p (Some b) rest y, either-none (spot_below n (Some b) None kids), same, eqb-true b q i) (spot-row (Some q) None L k R apart)
    | of_kids i j o y a same z ↦ rw (j, spot_below-absent n p (Some b) rest y, either-none (spot_below n (Some b) None kids))
        (child-below (Some b) None L k R kids a o same)
    | of_rest i t j o y a same ↦ rw (j, spot_below-absent n (Some b) None kids o) (child-below p (Some b) L k R rest a y same)
  ]

  -- a child of q is below q, between its siblings
  pub child-spot : (L k R f : Forest N) → times q f ≡ 1 → times n f ≡ 1 → children_of q f ≡ join L (tree n w k R)
      → spot_of n f ≡ Some (spot_among n q w L k R (Some q) None)
  child-spot L k R none one once is = absurd (omega arith)
  child-spot L k R (tree b v kids rest) one once is = let i = ap (times n) is in let j = times-join n L (tree n w k R) in
      let c = children-among n q kids in let d = children-among n q rest in let e = times-join n (children_of q kids) (children_of q rest) in
      let g = child-below None None L k R (tree b v kids none) in
      grind (arith, child-spot L k R rest, g, spot_of-absent, spot_below-absent, either-none, join-none, children_of-absent)

-- a root has neither parent nor siblings
pub root-spot : {N : Type 0} (n : ℕ) (w : What N) (L k R f : Forest N) → times n f ≤ 1 → f ≡ join L (tree n w k R)
    → spot_of n f ≡ Some (record { parent = None; before = None; what = w; children = k; after = none })
root-spot {N} n w L k R f few is = grind (arith, spot_of-join, times-join, spot_of-absent)
