-- Walks: over siblings, over all nodes in tree order with their texts, and over the elements among siblings.
use Rattle.hnodes.proofs.Names.{◌≡◌, ℕ, ◌<◌, ◌∷◌, Some, None, refl, sym, ◌∙◌, ap, arith, ◌⊎◌, inl, inr, What, Forest, none, tree, roots, join, children_of, spot_of, first_or, first_child_of, next_of, AreCounted, siblings_from, List, [], ◌++◌, unwrap_or, All-nil, All-cons, flat_map, All, option_map, what_of, order, own_text, forest_texts, Bool, cond, length, Option, subst, All-head, elements_among, is_element, IfSome, IsTrue, slice_get, following, flat_map-append, All-append, All-drop, All-filter, All-tail, drop-append_seam}
use Rattle.hnodes.proofs.Forests.{times-join, join-assoc}
use Rattle.hnodes.proofs.Levels.{level, Here, Below}
use Rattle.hnodes.proofs.Families.{first_child-is, children-among}
use Rattle.hnodes.proofs.Counted.{at-most, is-there, one-there, was-made}
use Rattle.hnodes.proofs.ChildSpots.{child-spot, root-spot}
use Rattle.hnodes.proofs.TreeOrder.{entered}

module _ {N : Type 0} {made : ℕ} {f : Forest N} (counted : AreCounted made f) where
  -- a child, and those after it
  among : (q b : ℕ) (w : What N) (L k R : Forest N) → q < made → children_of q f ≡ join L (tree b w k R) → siblings_from (Some b) f ≡ b ∷ roots R
  among q b w L k R h is = let once = one-there made f counted b (grind (arith, is, times-join, children-among b q f)) in
      ap (λ o. b ∷ following o) (child-spot b q w L k R f (is-there made f counted q h) once is)

  -- the first child and those after it are the children
  pub children-from : (q : ℕ) → q < made → siblings_from (first_child_of q f) f ≡ roots (children_of q f)
  children-from q h = ap (λ o. siblings_from o f) (first_child-is q f (is-there made f counted q h)) ∙ go (children_of q f) refl where
    go : (g : Forest N) → children_of q f ≡ g → siblings_from (first_or g None) f ≡ roots g
    go none e = refl
    go (tree b w k R) e = among q b w none k R h e

  -- one step
  pub siblings-step : (n : ℕ) → n < made → siblings_from (Some n) f ≡ n ∷ siblings_from (next_of n f) f
  siblings-step n h = go (level n f (is-there made f counted n h) (at-most made f counted)) where
    go : Here n f ⊎ Below n f → siblings_from (Some n) f ≡ n ∷ siblings_from (next_of n f) f
    go (inl p) = grind (arith, root-spot n p.what p.left p.kids p.right f (at-most made f counted n) p.is)
    go (inr p) = grind (arith, child-spot n p.parent p.what p.left p.kids p.right f p.one (is-there made f counted n h) p.is, rest p.right p.is) where
      rest : (R : Forest N) → children_of p.parent f ≡ join p.left (tree n p.what p.kids R) → roots R ≡ siblings_from (first_or R None) f
      rest none e = refl
      rest (tree b w k R) e = sym (among p.parent b w (join p.left (tree n p.what p.kids none)) k R (was-made made f counted p.parent (omega (arith, p.one)))
          (e ∙ sym (join-assoc p.left (tree n p.what p.kids none) (tree b w k R))))

  -- the same where they were asked for
  pub siblings-on : {o next : Option ℕ} {n : ℕ} → o ≡ Some n → IfSome o (λ k. k < made) → next ≡ next_of n f → siblings_from o f ≡ n ∷ siblings_from next f
  siblings-on {o} {next} {n} is within after = rw (is, after) (siblings-step n (subst (λ (u : Option ℕ). IfSome u (λ k. k < made)) is within))

-- The nodes and the texts in tree order.

module _ {N : Type 0} where
  -- the characters of node n
  abbrev pub text_at : Forest N → ℕ → List ℕ
  text_at f n = unwrap_or (option_map own_text (what_of n f)) []

  module _ {made : ℕ} {f : Forest N} (counted : AreCounted made f) where
    texts-walked : (q : ℕ) (L g : Forest N) → q < made → children_of q f ≡ join L g → forest_texts g ≡ flat_map (text_at f) (order g)
    texts-walked q L none h is = refl
    texts-walked q L (tree b w k R) h is = let a = entered made f counted q q b w L k R h is in let kids = texts-walked b none k a.made_is a.kids in
        let r = texts-walked q (join L (tree b w k none)) R h (is ∙ sym (join-assoc L (tree b w k none) R)) in
        (λ i. unwrap_or (option_map own_text (sym a.what i)) [] ++ (kids i ++ r i))
        ∙ ap (λ t. text_at f b ++ t) (sym (flat_map-append (text_at f) (order k) (order R)))

    within-walked : (q : ℕ) (L g : Forest N) → q < made → children_of q f ≡ join L g → All (λ n. n < made) (order g)
    within-walked q L none h is = All-nil (λ n. n < made)
    within-walked q L (tree b w k R) h is = let a = entered made f counted q q b w L k R h is in let kids = within-walked b none k a.made_is a.kids in
        let r = within-walked q (join L (tree b w k none)) R h (is ∙ sym (join-assoc L (tree b w k none) R)) in
        All-cons (λ n. n < made) b (order k ++ order R) a.made_is (All-append (λ n. n < made) (order k) (order R) kids r)

    -- the nodes inside a node were made, and its texts are theirs
    pub texts-order : (n : ℕ) → n < made → forest_texts (children_of n f) ≡ flat_map (text_at f) (order (children_of n f))
    texts-order n h = texts-walked n none (children_of n f) h refl

    pub within-order : (n : ℕ) → n < made → All (λ m. m < made) (order (children_of n f))
    within-order n h = within-walked n none (children_of n f) h refl

-- The elements among siblings.

module _ {N : Type 0} (f : Forest N) where
  -- an element is first among elements, and other nodes are passed over
  pub element-or : (n : ℕ) (ns : List ℕ) {v : Bool} → is_element f n ≡ v → elements_among (n ∷ ns) f ≡ cond v (n ∷ elements_among ns f) (elements_among ns f)
  element-or n ns e = ap (λ b. cond b (n ∷ elements_among ns f) (elements_among ns f)) e

  -- a node that is an element is the first element among itself and its siblings, and without a node there is none
  pub element-at_first : (made : ℕ) (o : Option ℕ) → IfSome o (λ n. (n < made) × IsTrue (is_element f n))
      → o ≡ slice_get (elements_among (siblings_from o f) f) 0
  element-at_first made None h = refl
  element-at_first made (Some n) h = ap (λ ns. slice_get ns 0) (sym (element-or n (following (spot_of n f)) h.1))

  roots-within : (P : ℕ → Type 0) (g : Forest N) → All P (order g) → All P (roots g)
  roots-within P none h = All-nil P
  roots-within P (tree b w k R) h = let rest : All P (order k ++ order R) = All-tail P b (order k ++ order R) h in
      All-cons P b (roots R) (All-head P b (order k ++ order R) h)
      (roots-within P R (subst (λ (ns : List ℕ). All P ns) (drop-append_seam (order k) (order R)) (All-drop P (length (order k)) (order k ++ order R) rest)))

module _ {N : Type 0} {made : ℕ} {f : Forest N} (counted : AreCounted made f) (q : ℕ) (h : q < made) where
  -- the children of a node were made
  pub children-made : All (λ n. n < made) (roots (children_of q f))
  children-made = roots-within f (λ n. n < made) (children_of q f) (within-order counted q h)

  -- and the elements among them
  pub elements-made : All (λ n. n < made) (elements_among (roots (children_of q f)) f)
  elements-made = All-filter (is_element f) (λ n. n < made) (roots (children_of q f)) children-made
