-- A node with the siblings after it, and what is asked of it.
use Rattle.hserialize.proofs.Names.{◌≡◌, ℕ, ◌<◌, Some, None, refl, sym, ◌∙◌, ap, subst, arith, eq-eqb, length, option_and_then, option_map, ◌⊎◌, inl, inr, Option, What, Forest, none, tree, join, times, children_of, Spot, spot_of, first_or, first_child_of, next_of, what_of, AreCounted, child-spot, is-there, was-made, at-most, spot-children, some_inj, join-assoc, IfSome, roots, root-spot, children-among, first_child-is, times-join, level, Here, Below, tree_in, trees_from, first-inside}

-- node n, with what is inside it and after it
pub record IsFirst (n : ℕ) (f : Forest ℕ) : Type 0 where
  pub what : What ℕ
  pub kids : Forest ℕ
  pub rest : Forest ℕ
  pub trees : trees_from (Some n) f ≡ tree n what kids rest
  pub is : what_of n f ≡ Some what
  pub kids_are : children_of n f ≡ kids
  pub first : first_child_of n f ≡ first_or kids None
  pub next : next_of n f ≡ first_or rest None
  pub after : trees_from (next_of n f) f ≡ rest

module _ (made : ℕ) (f : Forest ℕ) (counted : AreCounted made f) where
  -- a child, and the siblings after it
  pub child-made : (q b : ℕ) (w : What ℕ) (L k R : Forest ℕ) → children_of q f ≡ join L (tree b w k R) → b < made
  child-made q b w L k R is = let some : 0 < times b (children_of q f) = rw (is, times-join b L (tree b w k R), eq-eqb b b refl) (omega arith) in
      was-made made f counted b (omega (arith, some, children-among b q f))

  pub child : (q b : ℕ) (w : What ℕ) (L k R : Forest ℕ) → q < made → children_of q f ≡ join L (tree b w k R) → trees_from (Some b) f ≡ tree b w k R
  child q b w L k R h is = ap (tree_in b) (child-spot b q w L k R f (is-there made f counted q h) (is-there made f counted b (child-made q b w L k R is)) is)

  siblings : (q : ℕ) (L g : Forest ℕ) → q < made → children_of q f ≡ join L g → trees_from (first_or g None) f ≡ g
  siblings q L none h is = refl
  siblings q L (tree b w k R) h is = child q b w L k R h is

  -- the first child, and the siblings after it, are the children
  pub children-from : (q : ℕ) → q < made → trees_from (first_child_of q f) f ≡ children_of q f
  children-from q h = ap (λ o. trees_from o f) (first_child-is q f (is-there made f counted q h)) ∙ siblings q none (children_of q f) h refl

  pub first-made : (q : ℕ) → q < made → IfSome (first_child_of q f) (λ c. c < made)
  first-made q h = grind (arith, first-inside counted q h)

  pub first-at : (n : ℕ) → n < made → IsFirst n f
  first-at n h = go (level n f (is-there made f counted n h) (at-most made f counted)) where
    at : (s : Spot ℕ) → spot_of n f ≡ Some s → trees_from (first_or s.after None) f ≡ s.after → IsFirst n f
    at s is same = record {
      what = s.what;
      kids = s.children;
      rest = s.after;
      trees = ap (tree_in n) is;
      is = ap (option_map (λ (u : Spot ℕ). u.what)) is;
      kids_are = sym (some_inj (ap (option_map (λ (u : Spot ℕ). u.children)) (sym is) ∙ spot-children n f (is-there made f counted n h)));
      first = ap (option_and_then (λ (u : Spot ℕ). first_or u.children None)) is;
      next = ap (option_and_then (λ (u : Spot ℕ). first_or u.after None)) is;
      after = ap (λ o. trees_from (option_and_then (λ (u : Spot ℕ). first_or u.after None) o) f) is ∙ same;
    }

    go : Here n f ⊎ Below n f → IsFirst n f
    go (inl p) = at _ (root-spot n p.what p.left p.kids p.right f (at-most made f counted n) p.is) refl
    go (inr p) = at _ (child-spot n p.parent p.what p.left p.kids p.right f p.one (is-there made f counted n h) p.is)
        (siblings p.parent (join p.left (tree n p.what p.kids none)) p.right (was-made made f counted p.parent (omega (arith, p.one)))
        (p.is ∙ sym (join-assoc p.left (tree n p.what p.kids none) p.right)))

  pub first-of : (o : Option ℕ) (n : ℕ) → o ≡ Some n → IfSome o (λ n. n < made) → IsFirst n f
  first-of o n is within = first-at n (subst (λ (p : Option ℕ). IfSome p (λ n. n < made)) is within)

  -- the siblings after a node are fewer
  pub shorter : (o : Option ℕ) (n : ℕ) (p : Option ℕ) → o ≡ Some n → IfSome o (λ n. n < made) → p ≡ next_of n f
      → length (roots (trees_from p f)) < length (roots (trees_from o f))
  shorter o n p is within next = let a = first-of o n is within in rw (is, a.trees, next, a.after) (omega arith)
