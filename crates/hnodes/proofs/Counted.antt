-- What the edits keep: each node is in the forest once, and the document's tree comes first.
use Rattle.hnodes.proofs.Names.{inl, inr, ◌≡◌, ◌≢◌, ℕ, ◌+◌, ◌<◌, ◌≤◌, eqb, refl, ◌∙◌, arith, ne_eqb, What, document, Forest, none, tree, times, join, tree_at, cut, children_of, change_children, change_what, put_before, AreCounted, place_node, graft, move_all, Place, LastIn, Before, cases_Bool}
use Rattle.hnodes.proofs.Forests.{times-join, times-cut, times-emptied, children-apart}
use Rattle.hnodes.proofs.Linked.{times-what}
use Rattle.hnodes.proofs.Counts.{emptied, times-hung, times-put, times-emptied-apart}
use Rattle.hnodes.proofs.Deep.{deep, deep-lower, deep-upper, children-deep}

-- a place that is not right before this node
abbrev pub NotBefore : ℕ → Place → Type 0
NotBefore y (LastIn p) = Unit {0}
NotBefore y (Before s) = s ≢ y

module _ {N : Type 0} where
  abbrev pub Begins : Forest N → Type 0
  Begins f = (kids : Forest N) × (rest : Forest N) × (f ≡ tree 0 document kids rest)

  begins-change : (p : ℕ) (g : Forest N → Forest N) (f : Forest N) → Begins f → Begins (change_children p g f)
  begins-change p g f (kids, rest, is) = rw is (elim (cases_Bool (eqb 0 p))
      [ inl e ↦ rw e (g kids, rest, refl) | inr e ↦ rw e (change_children p g kids, change_children p g rest, refl) ])

  begins-cut : (n : ℕ) (f : Forest N) → 0 < n → Begins f → Begins (cut n f)
  begins-cut n f h (kids, rest, is) = rw (is, ne_eqb 0 n (λ e. omega arith)) (cut n kids, cut n rest, refl)

  begins-put : (s : ℕ) (t f : Forest N) → 0 < s → Begins f → Begins (put_before s t f)
  begins-put s t f h (kids, rest, is) = rw (is, ne_eqb 0 s (λ e. omega arith)) (put_before s t kids, put_before s t rest, refl)

  begins-join : (t f : Forest N) → Begins f → Begins (join f t)
  begins-join t f (kids, rest, is) = rw is (kids, join rest t, refl)

  begins-what : (n : ℕ) (g : What N → What N) (f : Forest N) → g document ≡ document → Begins f → Begins (change_what n g f)
  begins-what n g f same (kids, rest, is) = rw is (change_what n g kids, change_what n g rest, grind arith)

  module _ (made : ℕ) (f : Forest N) (counted : AreCounted made f) where
    pub at-most : (x : ℕ) → times x f ≤ 1
    at-most x = grind arith

    pub is-there : (x : ℕ) → x < made → times x f ≡ 1
    is-there x h = grind (arith, counted.once x)

    pub not-there : (x : ℕ) → made ≤ x → times x f ≡ 0
    not-there x h = grind (arith, counted.once x)

    pub was-made : (x : ℕ) → 0 < times x f → x < made
    was-made x h = grind arith

    pub one-there : (x : ℕ) → 0 < times x f → times x f ≡ 1
    one-there x h = omega (arith, at-most x)

    pub deep-there : (x y : ℕ) → 0 < deep x y f → (x < made) × (y < made)
    deep-there x y h = grind (arith, deep-lower, deep-upper)

    -- the document is in nothing else
    pub document-out : (y : ℕ) → 0 < y → deep 0 y f ≡ 0
    document-out y h = grind (arith, deep-lower)

    -- what is below the document
    pub below-document : (x : ℕ) → times x (children_of 0 f) ≡ 1 → (0 < deep x 0 f) × (0 < x)
    below-document x h = grind (arith, children-deep, children-apart)

    pub in-document : (x : ℕ) → 0 < deep x 0 f → 0 < x → times x (children_of 0 f) ≡ 1
    in-document x h pos = go counted.begins where
      go : Begins f → times x (children_of 0 f) ≡ 1
      go (kids, rest, is) = let a = rw is at (at-most 0) in let b = rw is at (at-most x) in let d = rw is at h in
          rw is (grind (arith, deep-upper x 0 kids, deep-upper x 0 rest))

  -- a new node is there once
  pub times-new : (new : ℕ) (w : What N) (f : Forest N) → times new f ≡ 0 → times new (join f (tree new w none none)) ≡ 1
  times-new new w f z = grind (arith, times-join)

  -- a node is made
  pub counted-new : (made : ℕ) (w : What N) (f : Forest N) → AreCounted made f → AreCounted (made + 1) (join f (tree made w none none))
  counted-new made w f s = record { once = λ x. grind (arith, times-join); begins = begins-join (tree made w none none) f s.begins }

  -- a node is put at a place
  pub counted-graft : (made n : ℕ) (place : Place) (f : Forest N) → AreCounted made f → 0 < n → NotBefore 0 place → times (place_node place) f ≡ 1
      → times (place_node place) (tree_at n f) ≡ 0 → AreCounted made (graft n place f)
  counted-graft made n (LastIn p) f s h b one out = record {
    once = λ x. times-hung x p (tree_at n f) (cut n f) (omega (arith, times-cut p n f)) ∙ times-cut x n f ∙ s.once x;
    begins = begins-change p (λ kids. join kids (tree_at n f)) (cut n f) (begins-cut n f h s.begins);
  }
  counted-graft made n (Before q) f s h b one out = record {
    once = λ x. times-put x q (tree_at n f) (cut n f) (omega (arith, times-cut q n f)) ∙ times-cut x n f ∙ s.once x;
    begins = begins-put q (tree_at n f) (cut n f) (let ne : q ≢ 0 = b in omega arith) (begins-cut n f h s.begins);
  }

  -- the children of a node go into another
  pub counted-move : (made m p : ℕ) (f : Forest N) → AreCounted made f → times m f ≡ 1 → times p f ≡ 1 → times p (children_of m f) ≡ 0
      → AreCounted made (move_all m p f)
  counted-move made m p f s one to out = record {
    once = λ x. times-hung x p (children_of m f) (emptied m f) (times-emptied-apart p m f out ∙ to) ∙ times-emptied x m f one ∙ s.once x;
    begins = begins-change p (λ kids. join kids (children_of m f)) (emptied m f) (begins-change m (λ _. none) f s.begins);
  }

  -- a node becomes something else
  pub counted-what : (made n : ℕ) (g : What N → What N) (f : Forest N) → g document ≡ document → AreCounted made f → AreCounted made (change_what n g f)
  counted-what made n g f same s = record { once = λ x. times-what n g x f ∙ s.once x; begins = begins-what n g f same s.begins }
