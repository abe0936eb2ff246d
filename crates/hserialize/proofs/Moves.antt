-- The moves of a walk.
use Rattle.hserialize.proofs.Names.{◌≡◌, ℕ, ◌<◌, true, cond, [], ◌∷◌, ◌++◌, Option, Some, None, refl, sym, ◌∙◌, ap, arith, drop, option_and_then, ◌⊎◌, inl, inr, eq-eqb, append_assoc, append-nil, IsTrue, What, Forest, none, tree, join, children_of, Spot, spot_of, first_or, first_child_of, next_of, parent_of, what_of, AreCounted, ancestors_of, way_up, is_among, join-assoc, spot-children, at-most, is-there, was-made, child-spot, apart, own-inside, goes_in, visits, after_ends, visits_from, Reach, Enter, Leave, ◌≢◌, ne_eqb, trees_after, level, Here, Below, first_child-is, root-spot, entered, visits_inside, way-step, first-is, child-inside, passes, still-inside}

no-first : (g : Forest ℕ) → first_or g None ≡ None → g ≡ none
no-first g e = grind arith

module _ (made : ℕ) (f : Forest ℕ) (counted : AreCounted made f) (root : ℕ) where
  -- the nodes that a node is inside of are its parent and those that this is inside of
  parents : (n : ℕ) → n < made → ancestors_of n f ≡ way_up (parent_of n f) f
  parents n h = ap (drop 1) (way-step made f counted n h)

  -- A walk that has reached a child is to visit it, the siblings after it, and what comes after the end of its parent.
  comes : (reach : Reach) (q m : ℕ) (w : What ℕ) (L k R : Forest ℕ) → q < made → children_of q f ≡ join L (tree m w k R)
      → IsTrue (is_among root (ancestors_of m f))
      → visits_from reach root (Some (Enter m)) f ≡ visits reach (tree m w k R) ++ after_ends reach root (way_up (Some q) f) f
  comes reach q m w L k R h is inside = let a = entered made f counted root q m w L k R h is in
      let spot = child-spot m q w L k R f (is-there made f counted q h) (is-there made f counted m a.made_is) is in
      (λ i. Enter m ∷ visits_inside reach (spot i)
      ++ cond (apart m root f inside i) [] (Leave m ∷ visits reach (trees_after (spot i)) ++ after_ends reach root (a.up i) f))
      ∙ sym (append_assoc (Enter m ∷ cond (goes_in reach w) (visits reach k) []) (Leave m ∷ visits reach R) (after_ends reach root (way_up (Some q) f) f))

  -- to the first child
  first : (reach : Reach) (n c : ℕ) → n < made → first_child_of n f ≡ Some c → IsTrue (is_among root (way_up (Some n) f))
      → visits_from reach root (Some (Enter c)) f ≡ visits reach (children_of n f) ++ after_ends reach root (way_up (Some n) f) f
  first reach n c h is inside = let g = first-is (children_of n f) c (sym (first_child-is n f (is-there made f counted n h)) ∙ is) in
      comes reach n c g.0 none g.1 g.2 h g.3 (child-inside counted root n c h is inside).1
      ∙ ap (λ k. visits reach k ++ after_ends reach root (way_up (Some n) f) f) (sym g.3)

  root-among : IsTrue (is_among root (way_up (Some root) f))
  root-among = rw (eq-eqb root root refl) refl

  -- the beginning
  pub begins : (reach : Reach) (c : ℕ) → root < made → first_child_of root f ≡ Some c
      → visits_from reach root (Some (Enter c)) f ≡ visits reach (children_of root f)
  begins reach c h is = first reach root c h is root-among ∙ rw (eq-eqb root root refl) (append-nil (visits reach (children_of root f)))

  pub begins-none : (reach : Reach) → root < made → first_child_of root f ≡ None → [] ≡ visits reach (children_of root f)
  begins-none reach h is =
      ap (visits reach) (sym (no-first (children_of root f) (sym (first_child-is root f (is-there made f counted root h)) ∙ is)))

  -- what a walk visits inside a node that it goes into
  inner : (reach : Reach) (n : ℕ) → n < made → ((w : What ℕ) → what_of n f ≡ Some w → goes_in reach w ≡ true)
      → visits_inside reach (spot_of n f) ≡ visits reach (children_of n f)
  inner reach n h is = grind (arith, spot-children n f, is-there made f counted n h)

  -- into a node
  pub descends : (reach : Reach) (n c : ℕ) → n < made → IsTrue (is_among root (ancestors_of n f)) → first_child_of n f ≡ Some c
      → ((w : What ℕ) → what_of n f ≡ Some w → goes_in reach w ≡ true)
      → visits_from reach root (Some (Enter n)) f ≡ Enter n ∷ visits_from reach root (Some (Enter c)) f
  descends reach n c h inside is goes = ap (λ vs. Enter n ∷ vs ++ after_ends reach root (way_up (Some n) f) f) (inner reach n h goes)
      ∙ ap (λ vs. Enter n ∷ vs) (sym (first reach n c h is (own-inside made f counted root n inside)))

  -- to the next sibling
  pub next : (reach : Reach) (n m : ℕ) → n < made → IsTrue (is_among root (ancestors_of n f)) → next_of n f ≡ Some m
      → visits_from reach root (Some (Leave n)) f ≡ Leave n ∷ visits_from reach root (Some (Enter m)) f
  next reach n m h inside is = go (level n f (is-there made f counted n h) (at-most made f counted)) where
    go : Here n f ⊎ Below n f → visits_from reach root (Some (Leave n)) f ≡ Leave n ∷ visits_from reach root (Some (Enter m)) f
    go (inl p) = absurd
        (let no : None ≡ Some m = ap (option_and_then (λ (s : Spot ℕ). first_or s.after None))
        (sym (root-spot n p.what p.left p.kids p.right f (at-most made f counted n) p.is)) ∙ is in
        cc)
    go (inr p) = let low = was-made made f counted p.parent (omega (arith, p.one)) in
        let spot = child-spot n p.parent p.what p.left p.kids p.right f p.one (is-there made f counted n h) p.is in
        let g = first-is p.right m (ap (option_and_then (λ (s : Spot ℕ). first_or s.after None)) (sym spot) ∙ is) in
        let up = (entered made f counted root p.parent n p.what p.left p.kids p.right low p.is).up in
        let there = comes reach p.parent m g.0 (join p.left (tree n p.what p.kids none)) g.1 g.2 low (p.is
        ∙ ap (λ R. join p.left (tree n p.what p.kids R)) g.3 ∙ sym (join-assoc p.left (tree n p.what p.kids none) (tree m g.0 g.1 g.2)))
        (passes counted root n m h is (apart n root f inside) (own-inside made f counted root n inside)).1.1 in
        (λ i. cond (apart n root f inside i) [] (Leave n ∷ visits reach (trees_after (spot i)) ++ after_ends reach root (up i) f))
        ∙ ap (λ vs. Leave n ∷ vs) (ap (λ R. visits reach R ++ after_ends reach root (way_up (Some p.parent) f) f) g.3 ∙ sym there)

  -- to the end of the parent
  pub climbs : (reach : Reach) (n : ℕ) → n < made → IsTrue (is_among root (ancestors_of n f)) → next_of n f ≡ None
      → visits_from reach root (Some (Leave n)) f ≡ Leave n ∷ after_ends reach root (way_up (parent_of n f) f) f
  climbs reach n h inside is =
      (λ i. cond (apart n root f inside i) [] (Leave n ∷ visits reach (last (spot_of n f) is i) ++ after_ends reach root (parents n h i) f)) where
        last : (o : Option (Spot ℕ)) → option_and_then (λ (s : Spot ℕ). first_or s.after None) o ≡ None → trees_after o ≡ none
        last None e = refl
        last (Some s) e = no-first s.after e

  pub climbs-inside : (n p : ℕ) → n < made → IsTrue (is_among root (ancestors_of n f)) → parent_of n f ≡ Some p → p ≢ root
      → IsTrue (is_among root (ancestors_of p f))
  climbs-inside n p h inside is other =
      rw (is, ne_eqb p root other) at (still-inside counted root n h (apart n root f inside) (own-inside made f counted root n inside))

  pub ends : (reach : Reach) (n p : ℕ) → parent_of n f ≡ Some p → p ≡ root → after_ends reach root (way_up (parent_of n f) f) f ≡ []
  ends reach n p is same = rw (is, same, eq-eqb root root refl) refl
