-- Where a node is: among the roots, or among the children of a node.
use Rattle.hnodes.proofs.Families.{sited, at_root, in_kids, in_rest, child, of_root, of_kids, of_rest, left-apart}
use Rattle.hnodes.proofs.Names.{◌≡◌, ℕ, ◌≤◌, false, eqb, refl, sym, ◌∙◌, ap, arith, ◌⊎◌, inl, inr, eqb-true, eq-eqb, What, Forest, none, tree, times, join, tree_at, cut, change_children, children_of, put_before}
use Rattle.hnodes.proofs.Forests.{join-none, cut-absent, tree_at-absent, children_of-absent, change_children-absent}

module _ {N : Type 0} where
  pub put_before-absent : (n : ℕ) (t f : Forest N) → times n f ≡ 0 → put_before n t f ≡ f
  put_before-absent n t none h = refl
  put_before-absent n t (tree b w kids rest) h = grind (arith, put_before-absent n t kids, put_before-absent n t rest)

  -- n is one of the trees themselves
  pub record Here (n : ℕ) (f : Forest N) : Type 0 where
    pub left : Forest N
    pub what : What N
    pub kids : Forest N
    pub right : Forest N
    pub is : f ≡ join left (tree n what kids right)
    pub cut_is : cut n f ≡ join left right
    pub tree_is : tree_at n f ≡ tree n what kids none

  -- n is one of the children of parent
  pub record Below (n : ℕ) (f : Forest N) : Type 0 where
    pub parent : ℕ
    pub left : Forest N
    pub what : What N
    pub kids : Forest N
    pub right : Forest N
    pub one : times parent f ≡ 1
    pub is : children_of parent f ≡ join left (tree n what kids right)
    pub cut_is : cut n f ≡ change_children parent (λ _. join left right) f
    pub tree_is : tree_at n f ≡ tree n what kids none
    pub put_is : (t : Forest N) → put_before n t f ≡ change_children parent (λ _. join left (join t (tree n what kids right))) f

module _ {N : Type 0} (n : ℕ) (w : What N) (k R : Forest N) where
  -- edits at one of the trees themselves
  pub cut-row : (L : Forest N) → times n L ≡ 0 → cut n (join L (tree n w k R)) ≡ join L R
  cut-row none h = rw (eq-eqb n n refl) refl
  cut-row (tree b v kids rest) h = grind (arith, cut-row rest, cut-absent)

  pub tree-row : (L : Forest N) → times n L ≡ 0 → tree_at n (join L (tree n w k R)) ≡ tree n w k none
  tree-row none h = rw (eq-eqb n n refl) refl
  tree-row (tree b v kids rest) h = grind (arith, tree-row rest, tree_at-absent)

  put-row : (t L : Forest N) → times n L ≡ 0 → put_before n t (join L (tree n w k R)) ≡ join L (join t (tree n w k R))
  put-row t none h = rw (eq-eqb n n refl) refl
  put-row t (tree b v kids rest) h = grind (arith, put-row t rest, put_before-absent)

  here-is : (L f : Forest N) → times n f ≡ 1 → f ≡ join L (tree n w k R) → Here n f
  here-is L f one is = let apart = left-apart n n w L k R (ap (times n) (sym is) ∙ one) in
      record { left = L; what = w; kids = k; right = R; is = is; cut_is = ap (cut n) is ∙ cut-row L apart; tree_is = ap (tree_at n) is ∙ tree-row L apart }

  -- and at one of the children of q
  module _ (q : ℕ) (L : Forest N) where
    pub record EditsBelow (f : Forest N) : Type 0 where
      pub cut_is : cut n f ≡ change_children q (λ _. join L R) f
      pub tree_is : tree_at n f ≡ tree n w k none
      pub put_is : (t : Forest N) → put_before n t f ≡ change_children q (λ _. join L (join t (tree n w k R))) f

    pub edits-below : (f : Forest N) → times q f ≡ 1 → times n f ≡ 1 → children_of q f ≡ join L (tree n w k R) → EditsBelow f
    edits-below none one once is = absurd (omega arith)
    edits-below (tree b v kids rest) one once is = elim (child n q w L k R b v kids rest one once is) [
      | of_root i j o y same z ↦
          let apart = left-apart n q w L k R (ap (times n) (sym same) ∙ o) in
          record {
            cut_is = rw (j, i, cut-absent n rest y, same, cut-row L apart) refl;
            tree_is = rw (j, tree_at-absent n rest y, same, tree-row L apart) refl;
            put_is = λ t. rw (j, i, put_before-absent n t rest y, same, put-row t L apart) refl;
          }
      | of_kids i j o y a same z ↦
          let s = edits-below kids a o same in
          record {
            cut_is = rw (j, i, s.cut_is, cut-absent n rest y, change_children-absent q (λ _. join L R) rest z) refl;
            tree_is = rw (j, s.tree_is, tree_at-absent n rest y) refl;
            put_is = λ t. rw (j, i, s.put_is t, put_before-absent n t rest y, change_children-absent q (λ _. join L (join t (tree n w k R))) rest z) refl;
          }
      | of_rest i t j o y a same ↦
          let s = edits-below rest a y same in
          record {
            cut_is = rw (j, i, s.cut_is, cut-absent n kids o, change_children-absent q (λ _. join L R) kids t) refl;
            tree_is = rw (j, s.tree_is, tree_at-absent n kids o) refl;
            put_is = λ u. rw (j, i, s.put_is u, put_before-absent n u kids o, change_children-absent q (λ _. join L (join u (tree n w k R))) kids t) refl;
          }
    ]

    below-is : (f : Forest N) → times q f ≡ 1 → times n f ≡ 1 → children_of q f ≡ join L (tree n w k R) → Below n f
    below-is f one once is = let e = edits-below f one once is in
        record { parent = q; left = L; what = w; kids = k; right = R; one = one; is = is; cut_is = e.cut_is; tree_is = e.tree_is; put_is = e.put_is }

module _ {N : Type 0} where
  -- a node is here or below
  pub level : (n : ℕ) (f : Forest N) → times n f ≡ 1 → ((b : ℕ) → times b f ≤ 1) → Here n f ⊎ Below n f
  level n none h once = absurd (omega arith)
  level n (tree b w kids rest) h once = elim (sited n b kids rest h) [
    | at_root e a z ↦ inl (here-is n w kids rest none (tree b w kids rest) h (rw (eqb-true b n e) refl))
    | in_kids e a z ↦ elim (level n kids a (λ c. let o = once c in omega arith)) [
      | inl p ↦ inr (below-is n p.what p.kids p.right b p.left (tree b w kids rest) own h (rw (eq-eqb b b refl) p.is))
      | inr p ↦ let q = kids-alone p.parent p.one in
          inr (below-is n p.what p.kids p.right p.parent p.left (tree b w kids rest) (rw q.0 (omega (arith, p.one, q.1))) h
          (rw (q.0, children_of-absent p.parent rest q.1, join-none (children_of p.parent kids)) p.is))
    ]
    | in_rest e a z ↦ elim (level n rest z (λ c. let o = once c in omega arith)) [
      | inl p ↦ inl (here-is n p.what p.kids p.right (tree b w kids p.left) (tree b w kids rest) h (λ i. tree b w kids (p.is i)))
      | inr p ↦ let q = rest-alone p.parent p.one in
          inr (below-is n p.what p.kids p.right p.parent p.left (tree b w kids rest) (rw q.0 (omega (arith, p.one, q.1))) h
          (rw (q.0, children_of-absent p.parent kids q.1) p.is))
    ]
  ] where
    own : times b (tree b w kids rest) ≡ 1
    own = grind (arith, once b)

    kids-alone : (q : ℕ) → times q kids ≡ 1 → (eqb b q ≡ false) × (times q rest ≡ 0)
    kids-alone q k = grind arith

    rest-alone : (q : ℕ) → times q rest ≡ 1 → (eqb b q ≡ false) × (times q kids ≡ 0)
    rest-alone q k = grind arith
