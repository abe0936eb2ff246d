-- What is asked of the nodes inside one is what is in their trees.
use Rattle.hserialize.proofs.Names.{◌≡◌, ℕ, ◌<◌, false, cond_both, eqb, cond, [], Some, None, refl, sym, ◌∙◌, ap, option_and_then, eq-eqb, IsTrue, What, Forest, none, tree, join, children_of, Spot, spot_of, first_or, first_child_of, next_of, parent_of, what_of, AreCounted, ancestors_of, way_up, is_among, join-assoc, is-there, spot_among, child-spot, apart, own-inside, goes_in, visits, Reach, Visit, Enter, Leave, All, All-append, All-cons, All-nil, visited_node, Entered, entered}

-- what is asked of node b, where it is with these children below p, before these siblings
pub record IsSeen (made : ℕ) (f : Forest ℕ) (root p b : ℕ) (w : What ℕ) (kids rest : Forest ℕ) : Type 0 where
  pub made_is : b < made
  pub other : eqb b root ≡ false
  pub what : what_of b f ≡ Some w
  pub up : ancestors_of b f ≡ way_up (Some p) f
  pub parent : parent_of b f ≡ Some p
  pub first : first_child_of b f ≡ first_or kids None
  pub next : next_of b f ≡ first_or rest None
  pub kids_are : children_of b f ≡ kids

-- of each node of a list of trees below p
abbrev pub Seen : (made : ℕ) (f : Forest ℕ) (root p : ℕ) → Forest ℕ → Type 0
Seen made f root p none = Unit {0}
Seen made f root p (tree b w kids rest) = IsSeen made f root p b w kids rest × Seen made f root b kids × Seen made f root p rest

module _ (made : ℕ) (f : Forest ℕ) (counted : AreCounted made f) (root : ℕ) where
  seen-among : (q : ℕ) (L g : Forest ℕ) → q < made → children_of q f ≡ join L g → IsTrue (is_among root (way_up (Some q) f)) → Seen made f root q g
  seen-among q L none h is inside = tt
  seen-among q L (tree b w k R) h is inside = (
    record {
      made_is = a.made_is;
      other = apart b root f within;
      what = a.what;
      up = a.up;
      parent = ap (option_and_then (λ (s : Spot ℕ). s.parent)) spot;
      first = ap (option_and_then (λ (s : Spot ℕ). first_or s.children None)) spot;
      next = ap (option_and_then (λ (s : Spot ℕ). first_or s.after None)) spot;
      kids_are = a.kids;
    },
    seen-among b none k a.made_is a.kids (own-inside made f counted root b within),
    seen-among q (join L (tree b w k none)) R h (is ∙ sym (join-assoc L (tree b w k none) R)) inside,
  ) where
    a : Entered made root q b w k R f
    a = entered made f counted root q b w L k R h is

    within : IsTrue (is_among root (ancestors_of b f))
    within = rw a.up inside

    spot : spot_of b f ≡ Some (spot_among b q w L k R (Some q) None)
    spot = child-spot b q w L k R f (is-there made f counted q h) (is-there made f counted b a.made_is) is

  pub seen : root < made → Seen made f root root (children_of root f)
  seen h = seen-among root none (children_of root f) h refl (rw (eq-eqb root root refl) refl)

-- the nodes that a walk visits were made
module _ (made : ℕ) (f : Forest ℕ) (root : ℕ) (reach : Reach) where
  abbrev is_made : Visit → Type 0
  is_made v = visited_node v < made

  made-among : (p : ℕ) (g : Forest ℕ) → Seen made f root p g → All is_made (visits reach g)
  made-among p none s = All-nil is_made
  made-among p (tree b w kids rest) s =
      let inside = cond_both (goes_in reach w) (visits reach kids) [] (All is_made) (λ _. made-among b kids s.1) (λ _. All-nil is_made) in
      All-cons is_made (Enter b) _ s.0.made_is
      (All-append is_made (cond (goes_in reach w) (visits reach kids) []) _ inside (All-cons is_made (Leave b) _ s.0.made_is (made-among p rest s.2)))

  pub made-visits : AreCounted made f → root < made → All is_made (visits reach (children_of root f))
  made-visits counted h = made-among root (children_of root f) (seen made f counted root h)
