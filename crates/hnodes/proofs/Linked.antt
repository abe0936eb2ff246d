-- Laws of linked nodes.
use Rattle.hnodes.proofs.Families.{sited, at_root, in_kids, in_rest}
use Rattle.hnodes.proofs.Names.{◌≡◌, ◌≢◌, ℕ, zero, suc, ◌<◌, ◌≤◌, Option, Some, None, refl, ◌∙◌, subst, arith, eqb-true, eq-eqb, option_map, Forest, none, tree, roots, size, times, join, change_children, first_or, last_or, Look, Linked, Loose, with_next, with_previous, with_ends, children_of, Row, seen, seen_each, Bool, false, eqb, cond, [], ◌∷◌, ap, ne_eqb, standing, loose, is_loose, at_row, at_link, spliced, hooked, not, filter-append, leave, sym, What, document, change_what, RowsStandIn, with_what}
use Rattle.hnodes.proofs.Forests.{first_or-join, change_children-absent, join-none, children_of-absent, without}

module _ {N : Type 0} where
  -- with enough depth, the siblings that are there are those that are seen
  pub seen_linked : (look : Look N) (q : ℕ) (x : Option ℕ) (f : Forest N) (k : ℕ) → Linked look (Some q) x f None → size f ≤ k
      → seen k look (first_or f None) ≡ f
  seen_linked look q x none zero s h = refl
  seen_linked look q x none (suc k) s h = refl
  seen_linked look q x (tree b w kids rest) zero s h = absurd (omega arith)
  seen_linked look q x (tree b w kids rest) (suc k) s h =
      let left : seen k look (first_or kids None) ≡ kids = seen_linked look b None kids k s.1 (omega arith) in
      let right : seen k look (first_or rest None) ≡ rest = seen_linked look q (Some b) rest k s.2 (omega arith) in
      rw s.0 (λ i. tree b w (left i) (right i))

  pub seen_loose : (look : Look N) (x : Option ℕ) (f : Forest N) (k : ℕ) → Linked look None x f None → size f ≤ k → seen_each k look (roots f) ≡ f
  seen_loose look x none k s h = refl
  seen_loose look x (tree b w kids rest) k s h = let left : seen k look (first_or kids None) ≡ kids = seen_linked look b None kids k s.1 (omega arith) in
      let right : seen_each k look (roots rest) ≡ rest = seen_loose look (Some b) rest k s.2 (omega arith) in
      rw s.0 (λ i. tree b w (left i) (right i))

  -- what is in one look is in another that agrees at its nodes
  pub Linked-agree : (look new : Look N) (p x : Option ℕ) (f : Forest N) (y : Option ℕ) → ((b : ℕ) → 0 < times b f → new b ≡ look b) → Linked look p x f y
      → Linked new p x f y
  Linked-agree look new p x none y same s = tt
  Linked-agree look new p x (tree b w kids rest) y same s = (
    same b (grind arith) ∙ s.0,
    Linked-agree look new (Some b) None kids None (λ c h. same c (omega arith)) s.1,
    Linked-agree look new p (Some b) rest y (λ c h. same c (omega arith)) s.2,
  )

  -- roots have no siblings
  Linked-root : (look : Look N) (x x' y y' : Option ℕ) (f : Forest N) → Linked look None x f y → Linked look None x' f y'
  Linked-root look x x' y y' none s = tt
  Linked-root look x x' y y' (tree b w kids rest) s = (s.0, s.1, Linked-root look (Some b) (Some b) y y' rest s.2)

  -- two runs of siblings, and both in one
  pub Linked-join : (look : Look N) (p x : Option ℕ) (f g : Forest N) (y : Option ℕ) → Linked look p x f (first_or g y) → Linked look p (last_or x f) g y
      → Linked look p x (join f g) y
  Linked-join look p x none g y s t = t
  Linked-join look p x (tree b w kids rest) g y s t = (rw (first_or-join rest g y) s.0, s.1, Linked-join look p (Some b) rest g y s.2 t)

  pub Linked-split : (look : Look N) (p x : Option ℕ) (f g : Forest N) (y : Option ℕ) → Linked look p x (join f g) y
      → Linked look p x f (first_or g y) × Linked look p (last_or x f) g y
  Linked-split look p x none g y s = (tt, s)
  Linked-split look p x (tree b w kids rest) g y s = let both = Linked-split look p (Some b) rest g y s.2 in
      ((rw (first_or-join rest g y) at s.0, s.1, both.0), both.1)

  -- where the number is not among the trees
  pub not-among : (q c : ℕ) (f : Forest N) → times q f ≡ 0 → 0 < times c f → c ≢ q
  not-among q c f h k j = let z : 0 < times q f = subst (λ m. 0 < times m f) j k in omega arith

  first_or-change : (q : ℕ) (g : Forest N → Forest N) (f : Forest N) (y : Option ℕ) → first_or (change_children q g f) y ≡ first_or f y
  first_or-change q g none y = refl
  first_or-change q g (tree b w kids rest) y = grind arith

  last_or-change : (q : ℕ) (g : Forest N → Forest N) (x : Option ℕ) (f : Forest N) → last_or x (change_children q g f) ≡ last_or x f
  last_or-change q g x none = refl
  last_or-change q g x (tree b w kids rest) = grind (arith, last_or-change q g (Some b) rest)

  -- the children of q are others
  pub Linked-children : (look new : Look N) (q : ℕ) (Y : Forest N) → Linked new (Some q) None Y None
      → new q ≡ option_map (with_ends (first_or Y None) (last_or None Y)) (look q) → (p x : Option ℕ) (f : Forest N) (y : Option ℕ) → times q f ≡ 1
      → ((b : ℕ) → b ≢ q → 0 < times b (change_children q (λ _. none) f) → new b ≡ look b) → Linked look p x f y
      → Linked new p x (change_children q (λ _. Y) f) y
  Linked-children look new q Y t r p x none y h same s = absurd (omega arith)
  Linked-children look new q Y t r p x (tree b w kids rest) y h same s = elim (sited q b kids rest h) [
    | at_root e a z ↦ let b_q : b ≡ q = eqb-true b q e in
        rw e
        (rw (b_q, r, ← b_q, s.0) refl, rw b_q t, Linked-agree look new p (Some b) rest y (λ c k. same c (not-among q c rest z k) (rw e (omega arith))) s.2)
    | in_kids e a z ↦ rw e (
      rw (first_or-change q (λ _. Y) kids None, last_or-change q (λ _. Y) None kids, first_or-change q (λ _. Y) rest y) (same b (λ i. grind arith) (grind arith)
          ∙ s.0),
      Linked-children look new q Y t r (Some b) None kids None a (λ c k z'. same c k (rw e (omega arith))) s.1,
      rw (change_children-absent q (λ _. Y) rest z) (Linked-agree look new p (Some b) rest y
          (λ c k. same c (not-among q c rest z k) (rw (e, change_children-absent q (λ _. none) rest z) (omega arith))) s.2),
    )
    | in_rest e a z ↦ rw e (
      rw (first_or-change q (λ _. Y) kids None, last_or-change q (λ _. Y) None kids, first_or-change q (λ _. Y) rest y) (same b (λ i. grind arith) (grind arith)
          ∙ s.0),
      rw (change_children-absent q (λ _. Y) kids a) (Linked-agree look new (Some b) None kids None
          (λ c k. same c (not-among q c kids a k) (rw (e, change_children-absent q (λ _. none) kids a) (omega arith))) s.1),
      Linked-children look new q Y t r p (Some b) rest y z (λ c k z'. same c k (rw e (omega arith))) s.2,
    )
  ]

  -- the last of a run has another sibling after it
  pub last-among : (f : Forest N) (c : ℕ) → last_or None f ≡ Some c → 0 < times c f
  last-among none c e = cc
  last-among (tree b w kids none) c e = grind arith
  last-among (tree b w kids (tree d v kk rr)) c e = omega (arith, last-among (tree d v kk rr) c e)

  pub first-among : (f : Forest N) (c : ℕ) → first_or f None ≡ Some c → 0 < times c f
  first-among none c e = cc
  first-among (tree b w kids rest) c e = grind arith

  pub Linked-end : (look new : Look N) (y y' : Option ℕ) (q : ℕ) (x : Option ℕ) (f : Forest N) → ((b : ℕ) → times b f ≤ 1)
      → ((b : ℕ) → 0 < times b f → (last_or None f ≡ Some b → ⊥) → new b ≡ look b)
      → ((b : ℕ) → last_or None f ≡ Some b → new b ≡ option_map (with_next y') (look b)) → Linked look (Some q) x f y → Linked new (Some q) x f y'
  Linked-end look new y y' q x none once same end s = tt
  Linked-end look new y y' q x (tree b w kids none) once same end s =
      (rw (end b refl, s.0) refl, Linked-agree look new (Some b) None kids None (λ c k. same c (omega arith) (λ j. grind (arith, once c))) s.1, tt)
  Linked-end look new y y' q x (tree b w kids (tree d v1 kk rr)) once same end s = (
    same b (grind arith) (λ j. let o = rw (eq-eqb b b refl) at (once b) in omega (arith, last-among (tree d v1 kk rr) b j)) ∙ s.0,
    Linked-agree look new (Some b) None kids None (λ c k. same c (omega arith) (λ j. omega (arith, last-among (tree d v1 kk rr) c j, once c))) s.1,
    Linked-end look new y y' q (Some b) (tree d v1 kk rr) (λ c. omega (arith, once c)) (λ c k i. same c (omega arith) i) end s.2,
  )

  -- the first of a run has another sibling before it
  pub Linked-begin : (look new : Look N) (q : ℕ) (x x' y : Option ℕ) (f : Forest N) → ((b : ℕ) → times b f ≤ 1)
      → ((b : ℕ) → 0 < times b f → (first_or f None ≡ Some b → ⊥) → new b ≡ look b)
      → ((b : ℕ) → first_or f None ≡ Some b → new b ≡ option_map (with_previous x') (look b)) → Linked look (Some q) x f y → Linked new (Some q) x' f y
  Linked-begin look new q x x' y none once same begin s = tt
  Linked-begin look new q x x' y (tree b w kids rest) once same begin s = (
    rw (begin b refl, s.0) refl,
    Linked-agree look new (Some b) None kids None (λ c k. same c (omega arith) (λ j. grind (arith, once c))) s.1,
    Linked-agree look new (Some q) (Some b) rest y (λ c k. same c (omega arith) (λ j. grind (arith, once c))) s.2,
  )

-- Laws of linked trees, each of which stands for itself.

module _ {N : Type 0} where
  pub Loose-join : (look : Look N) (x y : Option ℕ) (f g : Forest N) → Linked look None None f y → Linked look None x g None → Loose look (join f g)
  Loose-join look x y f g s t =
      Linked-join look None None f g None (Linked-root look None None y (first_or g None) f s) (Linked-root look x (last_or None f) None None g t)

  -- what q's row and q's children say
  pub record Holds (look : Look N) (q : ℕ) (K : Forest N) : Type 0 where
    pub row : Row N
    pub is : look q ≡ Some row
    pub first : row.first ≡ first_or K None
    pub last : row.last ≡ last_or None K
    pub kids : Linked look (Some q) None K None

  pub Linked-holds : (look : Look N) (q : ℕ) (p x : Option ℕ) (f : Forest N) (y : Option ℕ) → times q f ≡ 1 → Linked look p x f y
      → Holds look q (children_of q f)
  Linked-holds look q p x none y h s = absurd (omega arith)
  Linked-holds look q p x (tree b w kids rest) y h s = elim (sited q b kids rest h) [
    | at_root e a z ↦ let i = eqb-true b q e in rw e (record { row = _; is = rw i at s.0; first = refl; last = refl; kids = rw i at s.1 })
    | in_kids e a z ↦ rw (e, children_of-absent q rest z, join-none (children_of q kids)) (Linked-holds look q (Some b) None kids None a s.1)
    | in_rest e a z ↦ rw (e, children_of-absent q kids a) (Linked-holds look q p (Some b) rest y z s.2)
  ]

-- Which nodes are loose.

without-itself : (n : ℕ) (v : Bool) → without n (cond v (n ∷ []) []) ≡ []
without-itself n v = grind arith

without-other : (n c : ℕ) (v : Bool) → c ≢ n → without n (cond v (c ∷ []) []) ≡ cond v (c ∷ []) []
without-other n c v h = grind arith

module _ {N : Type 0} where
  standing-loose : (o u : Option (Row N)) → standing o ≡ standing u → is_loose o ≡ is_loose u
  standing-loose o u e = grind arith

  pub keeps : (f : Row N → Row N) → ((r : Row N) → standing (Some (f r)) ≡ standing (Some r)) → (k : ℕ) (look : Look N) (b : ℕ)
      → standing (at_row k f look b) ≡ standing (look b)
  keeps f h k look b = grind arith

  keeps-link : (f g : Row N → Row N) → ((r : Row N) → standing (Some (f r)) ≡ standing (Some r)) → ((r : Row N) → standing (Some (g r)) ≡ standing (Some r))
      → (q : ℕ) (x : Option ℕ) (look : Look N) (b : ℕ) → standing (at_link q x f g look b) ≡ standing (look b)
  keeps-link f g h k q x look b = grind arith

  keeps-spliced : (q : ℕ) (a c x y : Option ℕ) (look : Look N) (b : ℕ) → standing (spliced q a c x y look b) ≡ standing (look b)
  keeps-spliced q a c x y look b = grind arith

  -- that a node leaves and comes changes what no other node is, nor its parent
  pub keeps-leave : (n : ℕ) (p x y : Option ℕ) (look : Look N) (b : ℕ) → b ≢ n → standing (leave n p x y look b) ≡ standing (look b)
  keeps-leave n None x y look b h = refl
  keeps-leave n (Some q) x y look b h = rw (ne_eqb b n h) (keeps-spliced q x y x y look b)

  keeps-hooked : (n q : ℕ) (x y : Option ℕ) (look : Look N) (b : ℕ) → b ≢ n → standing (hooked n q x y look b) ≡ standing (look b)
  keeps-hooked n q x y look b h = rw (ne_eqb b n h) (keeps-spliced q x y (Some n) (Some n) look b)

  hooked-bound : (n q : ℕ) (x y : Option ℕ) (look : Look N) → is_loose (hooked n q x y look n) ≡ false
  hooked-bound n q x y look = grind arith

  pub loose-same : (look new : Look N) (c : ℕ) → ((b : ℕ) → b < c → is_loose (new b) ≡ is_loose (look b)) → loose c new ≡ loose c look
  loose-same look new zero same = refl
  loose-same look new (suc c) same = rw (same c (omega arith), loose-same look new c (λ b h. same b (omega arith))) refl

  -- node n is bound, and the others are as before
  loose-bound : (n : ℕ) (look new : Look N) (c : ℕ) → is_loose (new n) ≡ false → ((b : ℕ) → b ≢ n → is_loose (new b) ≡ is_loose (look b))
      → loose c new ≡ without n (loose c look)
  loose-bound n look new zero bound same = refl
  loose-bound n look new (suc c) bound same = let e = filter-append (λ x. not (eqb x n)) (loose c look) (cond (is_loose (look c)) (c ∷ []) []) in
      grind (arith, loose-bound n look new c bound same, same c, without-other n c, without-itself n, e)

  pub standing-moved : (n q : ℕ) (p x y a c : Option ℕ) (look mid new : Look N) → ((b : ℕ) → mid b ≡ leave n p x y look b)
      → ((b : ℕ) → new b ≡ hooked n q a c mid b) → (b : ℕ) → b ≢ n → standing (new b) ≡ standing (look b)
  standing-moved n q p x y a c look mid new is is' b i = grind (arith, is' b, is b, keeps-hooked n q a c mid b i, keeps-leave n p x y look b i)

  -- a node leaves its place and comes below another
  pub loose-moved : (n q count : ℕ) (p x y a c : Option ℕ) (look mid new : Look N) → ((b : ℕ) → mid b ≡ leave n p x y look b)
      → ((b : ℕ) → new b ≡ hooked n q a c mid b) → loose count new ≡ without n (loose count look)
  loose-moved n q count p x y a c look mid new is is' = loose-bound n look new count (ap is_loose (is' n) ∙ hooked-bound n q a c mid)
      (λ b i. standing-loose (new b) (look b) (standing-moved n q p x y a c look mid new is is' b i))

-- A node becomes something else, and is where it was.

pub StandsIn-same : {N : Type 0} (count : ℕ) (look new : Look N) (f : Forest N) → RowsStandIn count look f → ((b : ℕ) → new b ≡ look b)
    → RowsStandIn count new f
StandsIn-same count look new f s same = record {
  rows = Linked-agree look new None None f None (λ b h. same b) s.rows;
  loose_ones = s.loose_ones ∙ sym (loose-same look new count (λ b h. ap is_loose (same b)));
  all = s.all;
  once = s.once;
}

module _ {N : Type 0} (n : ℕ) (g : What N → What N) where
  pub first_or-what : (f : Forest N) (y : Option ℕ) → first_or (change_what n g f) y ≡ first_or f y
  first_or-what none y = refl
  first_or-what (tree b w kids rest) y = refl

  pub last_or-what : (x : Option ℕ) (f : Forest N) → last_or x (change_what n g f) ≡ last_or x f
  last_or-what x none = refl
  last_or-what x (tree b w kids rest) = last_or-what (Some b) rest

  roots-what : (f : Forest N) → roots (change_what n g f) ≡ roots f
  roots-what none = refl
  roots-what (tree b w kids rest) = ap (λ xs. b ∷ xs) (roots-what rest)

  size-what : (f : Forest N) → size (change_what n g f) ≡ size f
  size-what none = refl
  size-what (tree b w kids rest) = omega (arith, size-what kids, size-what rest)

  pub times-what : (m : ℕ) (f : Forest N) → times m (change_what n g f) ≡ times m f
  times-what m none = refl
  times-what m (tree b w kids rest) = omega (arith, times-what m kids, times-what m rest)

  Linked-what : (look new : Look N) → ((b : ℕ) → new b ≡ at_row n (with_what g) look b) → (p x : Option ℕ) (f : Forest N) (y : Option ℕ) → Linked look p x f y
      → Linked new p x (change_what n g f) y
  Linked-what look new is p x none y s = tt
  Linked-what look new is p x (tree b w kids rest) y s = (
    grind (arith, is b, s.0, first_or-what kids None, last_or-what None kids, first_or-what rest y),
    Linked-what look new is (Some b) None kids None s.1,
    Linked-what look new is p (Some b) rest y s.2,
  )

  loose-what : (look new : Look N) → ((b : ℕ) → new b ≡ at_row n (with_what g) look b) → (b : ℕ) → is_loose (new b) ≡ is_loose (look b)
  loose-what look new is b = grind arith

  pub StandsIn-what : (count : ℕ) (look new : Look N) (f : Forest N) → RowsStandIn count look f → ((b : ℕ) → new b ≡ at_row n (with_what g) look b)
      → RowsStandIn count new (change_what n g f)
  StandsIn-what count look new f s is = record {
    rows = Linked-what look new is None None f None s.rows;
    loose_ones = roots-what f ∙ s.loose_ones ∙ sym (loose-same look new count (λ b h. loose-what look new is b));
    all = size-what f ∙ s.all;
    once = λ m. times-what m f ∙ s.once m;
  }

  -- a document stays one
  pub document-what : (look new : Look N) → g document ≡ document → ((b : ℕ) → new b ≡ at_row n (with_what g) look b) → (b : ℕ)
      → standing (look b) ≡ Some (document, None) → standing (new b) ≡ Some (document, None)
  document-what look new same is b d = grind arith
