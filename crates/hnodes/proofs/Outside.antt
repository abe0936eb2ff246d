-- What the edits do to what is inside and what is outside.
use Rattle.hnodes.proofs.Names.{◌≡◌, ◌≢◌, ℕ, ◌<◌, ◌≤◌, refl, sym, ◌∙◌, arith, What, Forest, none, tree, times, join, tree_at, cut, children_of, change_what, IsOutside, AreCounted, place_node, graft, move_all, Place, LastIn, Before, inl, inr, Some, None, ap, eq-eqb, ne_eqb, size, change_children, first_or, first_child_of, Nodes, AreNodes, graft_last, cases_lt}
use Rattle.hnodes.proofs.Forests.{times-cut, children-apart, children_of-changed, join-none, join-assoc, times-join, children_of-absent, change_children-absent}
use Rattle.hnodes.proofs.Linked.{times-what}
use Rattle.hnodes.proofs.Counts.{emptied}
use Rattle.hnodes.proofs.Deep.{deep, deep-join, deep-upper, deep-is, children-deep}
use Rattle.hnodes.proofs.DeepEdits.{deep-cut, deep-cut-apart, deep-hung, deep-hung-apart, deep-hung-below, deep-put, deep-put-apart, deep-put-below, deep-emptied-apart}
use Rattle.hnodes.proofs.Counted.{NotBefore, at-most, is-there, counted-move, counted-graft}
use Rattle.hnodes.proofs.Levels.{edits-below}
use Rattle.hnodes.proofs.Families.{family, first-is, first_child-is, children-among}

module _ {N : Type 0} where
  -- A node is made.

  pub deep-new : (x y new : ℕ) (w : What N) (f : Forest N) → y ≢ new → deep x y (join f (tree new w none none)) ≡ deep x y f
  deep-new x y new w f h = grind (arith, deep-join)

  -- nothing that was there is inside the new one
  pub deep-newest : (x new : ℕ) (w : What N) (f : Forest N) → times new f ≡ 0 → x ≢ new → deep x new (join f (tree new w none none)) ≡ 0
  deep-newest x new w f z h = grind (arith, deep-join, deep-upper)

  -- A node is put at a place.

  -- where the place is outside of y, nothing more is inside y
  pub graft-deep : (x y n : ℕ) (place : Place) (f : Forest N) → times (place_node place) f ≤ 1 → deep (place_node place) y f ≡ 0
      → deep x y (graft n place f) ≤ deep x y f
  graft-deep x y n (LastIn p) f h out = omega
      (arith, deep-hung x y p (tree_at n f) (cut n f) (omega (arith, times-cut p n f)) (omega (arith, deep-cut p y n f)), deep-cut x y n f)
  graft-deep x y n (Before s) f h out = omega
      (arith, deep-put x y s (tree_at n f) (cut n f) (omega (arith, times-cut s n f)) (omega (arith, deep-cut s y n f)), deep-cut x y n f)

  -- a node outside of the one that moves is inside of the same ones
  pub graft-apart : (x y n : ℕ) (place : Place) (f : Forest N) → times x (tree_at n f) ≡ 0 → deep x y (graft n place f) ≡ deep x y f
  graft-apart x y n (LastIn p) f h = deep-hung-apart x y p (tree_at n f) (cut n f) h ∙ deep-cut-apart x y n f h
  graft-apart x y n (Before s) f h = deep-put-apart x y s (tree_at n f) (cut n f) h ∙ deep-cut-apart x y n f h

  -- where the place is inside y, all that moves is inside y
  pub graft-below : (x y n : ℕ) (place : Place) (f : Forest N) → NotBefore y place → times (place_node place) f ≤ 1 → times (place_node place) (tree_at n f) ≡ 0
      → 0 < deep (place_node place) y f → times x (tree_at n f) ≤ deep x y (graft n place f)
  graft-below x y n (LastIn p) f b h out in_y =
      deep-hung-below x y p (tree_at n f) (cut n f) (omega (arith, times-cut p n f)) (omega (arith, deep-cut-apart p y n f out))
  graft-below x y n (Before s) f b h out in_y =
      deep-put-below x y s (tree_at n f) (cut n f) b (omega (arith, times-cut s n f)) (omega (arith, deep-cut-apart s y n f out))

  -- A node becomes something else.

  pub deep-what : (x y n : ℕ) (g : What N → What N) (f : Forest N) → deep x y (change_what n g f) ≡ deep x y f
  deep-what x y n g none = refl
  deep-what x y n g (tree b w kids rest) = grind (arith, deep-what x y n g kids, deep-what x y n g rest, times-what)

  -- The children of a node go into another: the node stays outside of that one.

  pub moved-outside : (made : ℕ) (f : Forest N) → AreCounted made f → (m p : ℕ) → m < made → p < made → IsOutside p m f → IsOutside m p f
      → IsOutside m p (move_all m p f)
  moved-outside made f counted m p from to apart out = let one = is-there made f counted m from in let inner = children-apart m f one in
      let outer : times p (children_of m f) ≡ 0 = omega (arith, children-deep p m f, deep-is p m f (at-most made f counted m), apart) in
      let moved = counted-move made m p f counted one (is-there made f counted p to) outer in
      sym (deep-is m p (move_all m p f) (at-most made (move_all m p f) moved p)) ∙ deep-hung-apart m p p (children_of m f) (emptied m f) inner
      ∙ deep-emptied-apart m p m f inner ∙ deep-is m p f (at-most made f counted p) ∙ out

-- To move the first child of a node until none is left is to move them all.

module _ {N : Type 0} where
  children_of-front : (n : ℕ) (f g : Forest N) → times n g ≡ 0 → children_of n (join f g) ≡ children_of n f
  children_of-front n none g h = children_of-absent n g h
  children_of-front n (tree b w kids rest) g h = rw (children_of-front n rest g h) refl

  -- what comes under p does not show in the children of m, where p is not
  children_of-elsewhere : (m p : ℕ) (T f : Forest N) → m ≢ p → times m T ≡ 0 → times p (children_of m f) ≡ 0
      → children_of m (change_children p (λ k. join k T) f) ≡ children_of m f
  children_of-elsewhere m p T none h t out = refl
  children_of-elsewhere m p T (tree b w kids rest) h t out = grind
      (arith, children_of-elsewhere m p T kids h t, children_of-elsewhere m p T rest h t, change_children-absent, children_of-front, times-join)

  change-change : (p : ℕ) (a b : Forest N → Forest N) (f : Forest N) → change_children p a (change_children p b f) ≡ change_children p (λ k. a (b k)) f
  change-change p a b none = refl
  change-change p a b (tree d w kids rest) = grind (arith, change-change p a b kids, change-change p a b rest)

  change-join : (m : ℕ) (g : Forest N → Forest N) (f T : Forest N) → times m T ≡ 0 → change_children m g (join f T) ≡ join (change_children m g f) T
  change-join m g none T h = change_children-absent m g T h
  change-join m g (tree b w kids rest) T h = grind (arith, change-join m g rest T h)

  -- m is emptied before something comes under p, or after
  empty-elsewhere : (m p : ℕ) (T f : Forest N) → m ≢ p → times m T ≡ 0
      → change_children m (λ _. none) (change_children p (λ k. join k T) f) ≡ change_children p (λ k. join k T) (change_children m (λ _. none) f)
  empty-elsewhere m p T none h t = refl
  empty-elsewhere m p T (tree b w kids rest) h t = grind (arith, empty-elsewhere m p T kids h t, empty-elsewhere m p T rest h t, change-join)

  change-same : (m : ℕ) (X f : Forest N) → times m f ≡ 1 → children_of m f ≡ X → change_children m (λ _. X) f ≡ f
  change-same m X none h e = refl
  change-same m X (tree b w kids rest) h e = grind (arith, change-same m X kids, change-same m X rest, join-none, children_of-absent, change_children-absent)

  change-id : (p : ℕ) (f : Forest N) → change_children p (λ k. k) f ≡ f
  change-id p none = refl
  change-id p (tree b w kids rest) = grind (arith, change-id p kids, change-id p rest)

  -- no children are left
  pub none-left : (v : Nodes N) (m p : ℕ) → AreNodes v → m < v.made → first_child_of m v.trees ≡ None → move_all m p v.trees ≡ v.trees
  none-left v m p a h e = let one = is-there v.made v.trees a.counted m h in
      let empty : children_of m v.trees ≡ none = go (children_of m v.trees) (sym (first_child-is m v.trees one) ∙ e) in
      rw (empty, change-same m none v.trees one empty) ((λ i. change_children p (λ k. join-none k i) v.trees) ∙ change-id p v.trees) where
        go : (g : Forest N) → first_or g None ≡ None → g ≡ none
        go none j = refl
        go (tree b w kids rest) j = cc

  -- the document is no child
  not_zero : (v : Nodes N) (m : ℕ) → AreNodes v → times 0 (children_of m v.trees) ≡ 0
  not_zero v m a = grind (arith, children-among, times-join)

  -- what there is to show of the move of a first child
  pub record Moves (v : Nodes N) (m p c : ℕ) : Type 0 where
    pub not_document : 0 < c
    pub apart : IsOutside p c v.trees
    pub outside : IsOutside p m (graft_last c p v.trees)
    pub same : move_all m p (graft_last c p v.trees) ≡ move_all m p v.trees
    pub fewer : size (children_of m (graft_last c p v.trees)) < size (children_of m v.trees)

  pub moves : (v : Nodes N) (m p c : ℕ) → AreNodes v → m < v.made → p < v.made → IsOutside p m v.trees → first_child_of m v.trees ≡ Some c → Moves v m p c
  moves v m p c a h hp out e =
      let one_m = is-there v.made v.trees a.counted m h in
      let first = first-is (children_of m v.trees) c (sym (first_child-is m v.trees one_m) ∙ e) in step one_m first.0 first.1 first.2 first.3 where
        f : Forest N
        f = v.trees

        step : times m f ≡ 1 → (w : What N) (k R : Forest N) → children_of m f ≡ tree c w k R → Moves v m p c
        step one_m w k R is =
            let T : Forest N = tree c w k none in
            let in_children : 0 < times c (children_of m f) = rw (is, eq-eqb c c refl) (omega arith) in
            let one_c : times c f ≡ 1 = omega (arith, children-among c m f, at-most v.made f a.counted c) in
            let positive : 0 < c = elim (cases_lt 0 c) [
              | inl some ↦ some
              | inr none_is ↦ absurd (let zero_is : c ≡ 0 = omega arith in let z = rw zero_is at in_children in omega (arith, not_zero v m a))
            ] in
            let cuts = edits-below c w k R m none f one_m one_c is in
            let fam = family m f one_m in
            let g_is : graft_last c p f ≡ change_children p (λ x. join x T) (change_children m (λ _. R) f) =
            λ i. change_children p (λ x. join x (cuts.tree_is i)) (cuts.cut_is i) in
            let p_tree : times p (tree m fam.0 (tree c w k R) none) ≡ 0 = ap (times p) (sym (fam.1 ∙ ap (λ x. tree m fam.0 x none) is)) ∙ out in
            let m_p : m ≢ p = λ j. let o = rw (eq-eqb m p j) at p_tree in omega arith in
            let p_T : times p (tree_at c f) ≡ 0 = ap (times p) cuts.tree_is ∙ omega (arith, p_tree) in
            let m_T : times m T ≡ 0 = let o = rw is at (children-apart m f one_m) in omega arith in
            -- the children of m are those after c
            let left = children_of-changed m (λ _. R) f one_m in
            let children' : children_of m (graft_last c p f) ≡ R =
            ap (children_of m) g_is ∙ children_of-elsewhere m p T (change_children m (λ _. R) f) m_p m_T (ap (times p) left ∙ omega (arith, p_tree)) ∙ left in
            let one_m' = is-there v.made (graft_last c p f)
            (counted-graft v.made c (LastIn p) f a.counted positive tt (is-there v.made f a.counted p hp) p_T) m h in
            let out' : times p (tree_at m (graft_last c p f)) ≡ 0 =
            ap (times p) (family m (graft_last c p f) one_m').1 ∙ rw (children', ne_eqb m p m_p) (omega (arith, p_tree)) in
            let E : Forest N = change_children m (λ _. none) f in
            let emptied : change_children m (λ _. none) (graft_last c p f) ≡ change_children p (λ x. join x T) E = ap (change_children m (λ _. none)) g_is
            ∙ empty-elsewhere m p T (change_children m (λ _. R) f) m_p m_T ∙ ap (change_children p (λ x. join x T)) (change-change m (λ _. none) (λ _. R) f) in
            let moved : move_all m p (graft_last c p f) ≡ move_all m p f =
            (λ i. change_children p (λ x. join x (children' i)) (emptied i)) ∙ change-change p (λ x. join x R) (λ x. join x T) E
            ∙ (λ i. change_children p (λ x. join-assoc x T R i) E) ∙ (λ i. change_children p (λ x. join x (sym is i)) E) in
            record { not_document = positive; apart = p_T; outside = out'; same = moved; fewer = rw (children', is) (omega arith) }
