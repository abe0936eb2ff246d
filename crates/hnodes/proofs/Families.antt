-- A node and its children.
use Rattle.hnodes.proofs.Names.{◌≡◌, ℕ, ◌+◌, ◌<◌, ◌≤◌, Bool, true, false, eqb, cond, Option, Some, None, refl, sym, ◌∙◌, ap, subst, arith, eqb-true, eq-eqb, option_map, What, Forest, none, tree, times, join, tree_at, children_of, spot_below, spot_of, first_or, last_or, first_child_of, last_child_of}
use Rattle.hnodes.proofs.Forests.{some_inj, times-join, join-none, tree_at-absent, children_of-absent, spot_below-absent, spot_of-absent, either-none}

module _ {N : Type 0} where
  -- where a number is that is once in a tree and those after it
  pub data Sited (m b : ℕ) (kids rest : Forest N) : Type 0 where
    at_root : eqb b m ≡ true → times m kids ≡ 0 → times m rest ≡ 0 → Sited m b kids rest
    in_kids : eqb b m ≡ false → times m kids ≡ 1 → times m rest ≡ 0 → Sited m b kids rest
    in_rest : eqb b m ≡ false → times m kids ≡ 0 → times m rest ≡ 1 → Sited m b kids rest

  pub sited : (m b : ℕ) (kids rest : Forest N) → cond (eqb b m) 1 0 + (times m kids + times m rest) ≡ 1 → Sited m b kids rest
  sited m b kids rest h = grind arith

  -- the tree of a node is the node and its children
  pub family : (m : ℕ) (f : Forest N) → times m f ≡ 1 → (w : What N) × (tree_at m f ≡ tree m w (children_of m f) none)
  family m none h = absurd (omega arith)
  family m (tree b w kids rest) h = elim (sited m b kids rest h) [
    | at_root e a z ↦ (w, rw (e, eqb-true b m e) refl)
    | in_kids e a z ↦ let i = family m kids a in
        (i.0, rw (e, tree_at-absent m rest z, children_of-absent m rest z, join-none (children_of m kids), join-none (tree_at m kids)) i.1)
    | in_rest e a z ↦ let i = family m rest z in (i.0, rw (e, tree_at-absent m kids a, children_of-absent m kids a) i.1)
  ]

  pub children-among : (c m : ℕ) (f : Forest N) → times c (children_of m f) ≤ times c f
  children-among c m none = omega arith
  children-among c m (tree b v kids rest) = grind (arith, children-among c m kids, children-among c m rest, times-join)

module _ {N : Type 0} (n q : ℕ) (w : What N) (L k R : Forest N) where
  -- the child n among its siblings
  abbrev row : Forest N
  row = join L (tree n w k R)

  -- the parent is a root, or the child is in one of two forests with it
  pub data Child (b : ℕ) (kids rest : Forest N) : Type 0 where
    of_root : eqb b q ≡ true → eqb b n ≡ false → times n kids ≡ 1 → times n rest ≡ 0 → kids ≡ row → times q rest ≡ 0 → Child b kids rest
    of_kids : eqb b q ≡ false → eqb b n ≡ false → times n kids ≡ 1 → times n rest ≡ 0 → times q kids ≡ 1 → children_of q kids ≡ row → times q rest ≡ 0
        → Child b kids rest
    of_rest : eqb b q ≡ false → times q kids ≡ 0 → eqb b n ≡ false → times n kids ≡ 0 → times n rest ≡ 1 → times q rest ≡ 1 → children_of q rest ≡ row
        → Child b kids rest

  pub left-apart : times n row ≡ 1 → times n L ≡ 0
  left-apart h = grind (arith, times-join)

  here : {X : Forest N} → X ≡ row → 0 < times n X
  here e = rw (e, times-join n L (tree n w k R), eq-eqb n n refl) (omega arith)

  pub child : (b : ℕ) (v : What N) (kids rest : Forest N) → times q (tree b v kids rest) ≡ 1 → times n (tree b v kids rest) ≡ 1
      → children_of q (tree b v kids rest) ≡ row → Child b kids rest
  child b v kids rest one once is = elim (sited q b kids rest one) [
    | at_root i a z ↦ let j = in_left (here (is_cond i)) in of_root i j.0 j.2 j.1 (is_cond i) z
    | in_kids i a z ↦
        let left : children_of q kids ≡ row =
        sym (join-none (children_of q kids)) ∙ ap (join (children_of q kids)) (sym (children_of-absent q rest z)) ∙ is_cond i in
        let j = in_left (let h = here left in let m = children-among n q kids in omega arith) in of_kids i j.0 j.2 j.1 a left z
    | in_rest i a z ↦
        let right : children_of q rest ≡ row = ap (λ g. join g (children_of q rest)) (sym (children_of-absent q kids a)) ∙ is_cond i in
        let j = in_right (let h = here right in let m = children-among n q rest in omega arith) in of_rest i a j.0 j.1 j.2 z right
  ] where
    is_cond : {u : Bool} → eqb b q ≡ u → cond u kids (join (children_of q kids) (children_of q rest)) ≡ row
    is_cond e = subst (λ (u : Bool). cond u kids (join (children_of q kids) (children_of q rest)) ≡ row) e is

    in_left : 0 < times n kids → (eqb b n ≡ false) × (times n rest ≡ 0) × (times n kids ≡ 1)
    in_left h = grind arith

    in_right : 0 < times n rest → (eqb b n ≡ false) × (times n kids ≡ 0) × (times n rest ≡ 1)
    in_right h = grind arith

module _ {N : Type 0} where
  -- the first child that is asked for is the first of the children
  below-children : (m : ℕ) (p x : Option ℕ) (f : Forest N) → times m f ≡ 1 → option_map (λ s. s.children) (spot_below m p x f) ≡ Some (children_of m f)
  below-children m p x none h = absurd (omega arith)
  below-children m p x (tree b w kids rest) h = grind
      (arith, below-children m (Some b) None kids, below-children m p (Some b) rest, spot_below-absent, children_of-absent, join-none)

  pub spot-children : (m : ℕ) (f : Forest N) → times m f ≡ 1 → option_map (λ s. s.children) (spot_of m f) ≡ Some (children_of m f)
  spot-children m none h = absurd (omega arith)
  spot-children m (tree b w kids rest) h = let l = below-children m None None (tree b w kids none) in
      grind (arith, spot-children m rest, l, spot_of-absent, spot_below-absent, children_of-absent, either-none, join-none)

  pub first_child-is : (m : ℕ) (f : Forest N) → times m f ≡ 1 → first_child_of m f ≡ first_or (children_of m f) None
  first_child-is m f h = grind (arith, spot-children m f h)

  -- a first child and those after it
  pub first-is : (g : Forest N) (c : ℕ) → first_or g None ≡ Some c → (w : What N) × (k : Forest N) × (R : Forest N) × (g ≡ tree c w k R)
  first-is none c j = cc
  first-is (tree b w k R) c j = (w, k, R, ap (λ n. tree n w k R) (some_inj j))

  pub last_child-is : (m : ℕ) (f : Forest N) → times m f ≡ 1 → last_child_of m f ≡ last_or None (children_of m f)
  last_child-is m f h = grind (arith, spot-children m f h)
