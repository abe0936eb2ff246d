-- A walk in tree order.
use Rattle.hnodes.proofs.Families.{first-is, first_child-is, spot-children, children-among}
use Rattle.hnodes.proofs.Names.{◌≡◌, ℕ, ◌<◌, Bool, true, false, eqb, cond, not, List, [], ◌∷◌, ◌++◌, length, Some, None, refl, sym, ◌∙◌, ap, subst, arith, drop, ◌⊎◌, inl, inr, eq-eqb, append_assoc, append-nil, IfSome, IsTrue, option_map, What, Forest, none, tree, times, join, children_of, Spot, spot_of, first_or, first_child_of, next_of, parent_of, what_of, AreCounted, path_above, ancestors_of, way_up, order, after_each, is_among, IsOutside, ◌↔◌, trees_after, inside_from}
use Rattle.hnodes.proofs.Forests.{some_inj, times-join, join-assoc}
use Rattle.hnodes.proofs.Inside.{top-inside}
use Rattle.hnodes.proofs.Levels.{level, Here, Below}
use Rattle.hnodes.proofs.Counted.{at-most, is-there, one-there, was-made}
use Rattle.hnodes.proofs.ChildSpots.{spot_among, child-spot, root-spot}
use Rattle.hnodes.proofs.WaysUp.{way-step, above-inside}
use Rattle.hnodes.proofs.Names.{nat_tests}

pub differ : (a b : ℕ) → true ≡ not (eqb a b) → eqb a b ≡ false
differ a b e = grind arith

module _ {N : Type 0} where
  above-other : (n : ℕ) (up ups : List ℕ) (g : Forest N) → is_among n up ≡ false → path_above n up g ≡ Some ups → is_among n ups ≡ false
  above-other n up ups none h e = cc
  above-other n up ups (tree b w kids rest) h e = grind (arith, above-other n (b ∷ up) ups kids, above-other n up ups rest)

  -- no node is inside itself
  not-own : (n : ℕ) (f : Forest N) → is_among n (ancestors_of n f) ≡ false
  not-own n f = grind (arith, above-other n [])

  pub apart : (n top : ℕ) (f : Forest N) → is_among top (ancestors_of n f) ≡ true → eqb n top ≡ false
  apart n top f h = grind (arith, not-own)

  -- a node is inside top
  abbrev pub IsInside : (made top : ℕ) → Forest N → ℕ → Type 0
  IsInside made top f n = (n < made) × IsTrue (is_among top (ancestors_of n f))

  -- a child of node q
  pub record Entered (made top q m : ℕ) (w : What N) (k R f : Forest N) : Type 0 where
    pub made_is : m < made
    pub what : what_of m f ≡ Some w
    pub kids : children_of m f ≡ k
    pub up : ancestors_of m f ≡ q ∷ ancestors_of q f
    pub is : inside_from top (Some m) f ≡ order (tree m w k R) ++ after_each top (q ∷ ancestors_of q f) f

  parents : {made : ℕ} {f : Forest N} → AreCounted made f → (n : ℕ) → n < made → ancestors_of n f ≡ way_up (parent_of n f) f
  parents {made} {f} counted n h = ap (λ (xs : List ℕ). drop 1 xs) (way-step made f counted n h)

  module _ (made : ℕ) (f : Forest N) (counted : AreCounted made f) (top : ℕ) where
    pub own-inside : (n : ℕ) → IsTrue (is_among top (ancestors_of n f)) → IsTrue (is_among top (way_up (Some n) f))
    own-inside n h = grind arith

    pub entered : (q m : ℕ) (w : What N) (L k R : Forest N) → q < made → children_of q f ≡ join L (tree m w k R) → Entered made top q m w k R f
    entered q m w L k R h is = let there : 0 < times m f = grind (arith, is, times-join m L (tree m w k R), children-among m q f) in
        let once = one-there made f counted m there in
        let low = was-made made f counted m there in
        let spot = child-spot m q w L k R f (is-there made f counted q h) once is in
        let kids : children_of m f ≡ k = grind (arith, spot, spot-children m f once) in
        let up : ancestors_of m f ≡ q ∷ ancestors_of q f = grind (arith, parents counted m low, spot) in
        let whole : inside_from top (Some m) f ≡ order (tree m w k R) ++ after_each top (q ∷ ancestors_of q f) f =
        (λ i. (m ∷ order (kids i)) ++ (order (trees_after (spot i)) ++ after_each top (up i) f))
        ∙ sym (append_assoc (m ∷ order k) (order R) (after_each top (q ∷ ancestors_of q f) f)) in
        record { made_is = low; what = ap (option_map (λ (s : Spot N). s.what)) spot; kids = kids; up = up; is = whole }

  module _ {made : ℕ} {f : Forest N} (counted : AreCounted made f) (top : ℕ) where
    -- the first child
    pub begins : top < made → inside_from top (first_child_of top f) f ≡ order (children_of top f)
    begins h = ap (λ o. inside_from top o f) (first_child-is top f (is-there made f counted top h)) ∙ go (children_of top f) refl where
      go : (g : Forest N) → children_of top f ≡ g → inside_from top (first_or g None) f ≡ order g
      go none e = refl
      go (tree b w k R) e = (entered made f counted top top b w none k R h e).is ∙ rw (eq-eqb top top refl) (append-nil (order (tree b w k R)))

    -- a child of a node is inside it
    pub child-inside : (n c : ℕ) → n < made → first_child_of n f ≡ Some c → IsTrue (is_among top (way_up (Some n) f)) → IsInside made top f c
    child-inside n c h is inside = let g = first-is (children_of n f) c (sym (first_child-is n f (is-there made f counted n h)) ∙ is) in
        let a = entered made f counted top n c g.0 none g.1 g.2 h g.3 in
        (a.made_is, rw a.up inside)

    pub first-inside : top < made → IfSome (first_child_of top f) (λ c. IsInside made top f c)
    first-inside h = grind (arith, child-inside)

    pub descends : (n c : ℕ) → n < made → first_child_of n f ≡ Some c → IsTrue (is_among top (ancestors_of n f))
        → inside_from top (Some n) f ≡ n ∷ inside_from top (Some c) f
    descends n c h is inside = let g = first-is (children_of n f) c (sym (first_child-is n f (is-there made f counted n h)) ∙ is) in
        let after : List ℕ = order (trees_after (spot_of n f)) ++ after_each top (ancestors_of n f) f in
        let below : inside_from top (Some c) f ≡ order (tree c g.0 g.1 g.2) ++ after =
        (entered made f counted top n c g.0 none g.1 g.2 h g.3).is ∙ ap (λ u. order (tree c g.0 g.1 g.2) ++ cond u [] after) (apart n top f inside) in
        ap (λ g. n ∷ (order g ++ after)) g.3 ∙ ap (λ xs. n ∷ xs) (sym below)

    pub leaf : (n : ℕ) → n < made → first_child_of n f ≡ None → IsTrue (is_among top (ancestors_of n f))
        → inside_from top (Some n) f ≡ n ∷ after_each top (way_up (Some n) f) f
    leaf n h is inside = grind (arith, first_child-is, apart)

    -- the next sibling
    pub passes : (n m : ℕ) → n < made → next_of n f ≡ Some m → eqb n top ≡ false → IsTrue (is_among top (way_up (Some n) f))
        → (after_each top (way_up (Some n) f) f ≡ inside_from top (Some m) f) × IsInside made top f m
    passes n m h is other inside = go (level n f (is-there made f counted n h) (at-most made f counted)) where
      Goal : Type 0
      Goal = (after_each top (way_up (Some n) f) f ≡ inside_from top (Some m) f) × IsInside made top f m

      go : Here n f ⊎ Below n f → Goal
      go (inl p) = let s = root-spot n p.what p.left p.kids p.right f (at-most made f counted n) p.is in absurd (grind (arith, s))
      go (inr p) = rest p.right p.is (grind (arith, spot)) (ap trees_after spot) where
        spot : spot_of n f ≡ Some (spot_among n p.parent p.what p.left p.kids p.right (Some p.parent) None)
        spot = child-spot n p.parent p.what p.left p.kids p.right f p.one (is-there made f counted n h) p.is

        low : p.parent < made
        low = was-made made f counted p.parent (omega (arith, p.one))

        up : ancestors_of n f ≡ p.parent ∷ ancestors_of p.parent f
        up = (entered made f counted top p.parent n p.what p.left p.kids p.right low p.is).up

        rest : (R : Forest N) → children_of p.parent f ≡ join p.left (tree n p.what p.kids R) → first_or R None ≡ Some m → trees_after (spot_of n f) ≡ R
            → Goal
        rest none e j t = absurd (let no : None ≡ Some m = j in cc)
        rest (tree b w k R) e j t =
            let a = entered made f counted top p.parent b w (join p.left (tree n p.what p.kids none)) k R low
            (e ∙ sym (join-assoc p.left (tree n p.what p.kids none) (tree b w k R))) in
            let inner = rw other at inside in
            let still = subst (λ (xs : List ℕ). IsTrue (is_among top xs)) (up ∙ sym a.up) inner in
            subst (λ (x : ℕ). (after_each top (way_up (Some n) f) f ≡ inside_from top (Some x) f) × IsInside made top f x) (some_inj j)
            (rw other (λ i. order (t i) ++ after_each top (up i) f) ∙ sym a.is, (a.made_is, still))

    -- no sibling
    pub climbs : (n : ℕ) → n < made → next_of n f ≡ None → eqb n top ≡ false
        → after_each top (way_up (Some n) f) f ≡ after_each top (way_up (parent_of n f) f) f
    climbs n h is other = grind (arith, parents counted)

    pub shorter : (n q : ℕ) → n < made → parent_of n f ≡ Some q → length (ancestors_of q f) < length (ancestors_of n f)
    shorter n q h is = rw (parents counted n h, is) (omega arith)

    -- a node and its parent are inside the same ones, but for the node itself
    pub on-way : (n : ℕ) → n < made → eqb n top ≡ false → is_among top (way_up (Some n) f) ≡ is_among top (way_up (parent_of n f) f)
    on-way n h other = rw other (ap (is_among top) (parents counted n h))

    pub still-inside : (n : ℕ) → n < made → eqb n top ≡ false → IsTrue (is_among top (way_up (Some n) f)) → IsTrue (is_among top (way_up (parent_of n f) f))
    still-inside n h other inside = sym (on-way n h other) ∙ inside

    -- a node is outside of another that is not on its way up
    pub way-outside : (n : ℕ) → n < made → top < made → (u : Bool) → is_among top (way_up (Some n) f) ≡ u → (u ≡ false) ↔ IsOutside n top f
    way-outside n h there u is = let up = above-inside n top [] f (is-there made f counted n h) (at-most made f counted top) in
        let own = top-inside top f (is-there made f counted top there) in
        ((λ off. grind (arith, nat_tests, up, own)), (λ out. grind (arith, nat_tests, up, own)))
