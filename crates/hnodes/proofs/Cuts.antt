-- What comes of new links between two neighbours: a node leaves its place, or comes to another, and links are to nodes that are there.
use Rattle.hnodes.proofs.Names.{◌≡◌, ◌≢◌, ℕ, ◌+◌, ◌<◌, ◌≤◌, Option, Some, None, refl, sym, ◌∙◌, ap, arith, eq-eqb, ne_eqb, option_map, Forest, none, tree, times, first_or, last_or, Row, Look, Linked, at_row, spliced, with_next, with_previous, with_ends, eqb, cond, ◌⊎◌, inl, inr, join, tree_at, cut, change_children, children_of, Loose, detached, with_place, What, hooked, RowsStandIn, parent_in, previous_in, next_in, first_in, last_in, size, IsOutside, graft_last, graft_before, standing}
use Rattle.hnodes.proofs.Linked.{Linked-end, Linked-begin, last-among, first-among, Linked-agree, Linked-children, Linked-join, Linked-split, Linked-holds, Holds, Loose-join, keeps-leave, loose-moved, standing-moved}
use Rattle.hnodes.proofs.Forests.{times-join, first_or-join, last_or-join, times-emptied, children-apart, some_inj, without, join-none, size-join, times-cut, size-cut, roots-cut, roots-change_children, times-changed, size-changed, change-const}
use Rattle.hnodes.proofs.Levels.{Here, Below, level}
use Rattle.hnodes.proofs.Families.{family}
use Rattle.hnodes.proofs.Inside.{top-inside}

module _ {N : Type 0} where
  pub at_row-there : (k : ℕ) (f : Row N → Row N) (look : Look N) → at_row k f look k ≡ option_map f (look k)
  at_row-there k f look = rw (eq-eqb k k refl) refl

  pub at_row-other : (k : ℕ) (f : Row N → Row N) (look : Look N) (b : ℕ) → b ≢ k → at_row k f look b ≡ look b
  at_row-other k f look b h = rw (ne_eqb b k h) refl

  pub spliced-other : (q : ℕ) (a c x y : Option ℕ) (look : Look N) (b : ℕ) → b ≢ q → (a ≡ Some b → ⊥) → (c ≡ Some b → ⊥) → spliced q a c x y look b ≡ look b
  spliced-other q a c x y look b h i j = grind arith

  spliced-end : (q : ℕ) (a c x y : Option ℕ) (look : Look N) (b : ℕ) → b ≢ q → a ≡ Some b → (c ≡ Some b → ⊥)
      → spliced q a c x y look b ≡ option_map (with_next y) (look b)
  spliced-end q a c x y look b h i j = grind (arith, i)

  spliced-begin : (q : ℕ) (a c x y : Option ℕ) (look : Look N) (b : ℕ) → b ≢ q → (a ≡ Some b → ⊥) → c ≡ Some b
      → spliced q a c x y look b ≡ option_map (with_previous x) (look b)
  spliced-begin q a c x y look b h i j = grind (arith, j)

  -- both runs have another neighbour at their open ends
  pub spliced-runs : (look new : Look N) (q : ℕ) (L R : Forest N) (x y z u : Option ℕ) → ((b : ℕ) → times b L + times b R ≤ 1) → times q L + times q R ≡ 0
      → ((b : ℕ) → 0 < times b L + times b R → new b ≡ spliced q (last_or None L) (first_or R None) x y look b) → Linked look (Some q) None L z
      → Linked look (Some q) u R None → Linked new (Some q) None L y × Linked new (Some q) x R None
  spliced-runs look new q L R x y z u once apart is l r = (
    Linked-end look new z y q None L (λ b. omega (arith, once b)) (λ b h i. is b (omega arith) ∙ spliced-other q (last_or None L) (first_or R None) x y look b
        (not_q b (omega arith)) i (λ j. omega (arith, first-among R b j, once b))) (λ b i. let h = last-among L b i in is b (omega arith)
        ∙ spliced-end q (last_or None L) (first_or R None) x y look b (not_q b (omega arith)) i (λ j. omega (arith, first-among R b j, once b))) l,
    Linked-begin look new q u x None R (λ b. omega (arith, once b)) (λ b h i. is b (omega arith) ∙ spliced-other q (last_or None L) (first_or R None) x y look b
        (not_q b (omega arith)) (λ j. omega (arith, last-among L b j, once b)) i) (λ b i. let h = first-among R b i in is b (omega arith)
        ∙ spliced-begin q (last_or None L) (first_or R None) x y look b (not_q b (omega arith)) (λ j. omega (arith, last-among L b j, once b)) i) r,
  ) where
    not_q : (b : ℕ) → 0 < times b L + times b R → b ≢ q
    not_q b h j = grind arith

  last-is : (d : ℕ) (f : Forest N) → (a : ℕ) × (last_or (Some d) f ≡ Some a)
  last-is d none = (d, refl)
  last-is d (tree b w kids rest) = last-is b rest

  -- the row of the node above: its first child is y if none is before, its last one x if none is after
  pub spliced-row : (look : Look N) (q : ℕ) (r : Row N) (L R : Forest N) (x y a z : Option ℕ) → times q L ≡ 0 → times q R ≡ 0 → look q ≡ Some r
      → r.first ≡ first_or L a → r.last ≡ last_or z R
      → spliced q (last_or None L) (first_or R None) x y look q ≡ Some (with_ends (first_or L y) (last_or x R) r)
  spliced-row look q r none none x y a z hL hR s first last = grind arith
  spliced-row look q r none (tree d v kids rest) x y a z hL hR s first last = grind (arith, first-among (tree d v kids rest) d refl)
  spliced-row look q r (tree d v kids rest) none x y a z hL hR s first last = let l = last-is d rest in
      let m : 0 < times l.0 (tree d v kids rest) = last-among (tree d v kids rest) l.0 l.1 in grind (arith, l.1)
  spliced-row look q r (tree d v kids rest) (tree e w k R) x y a z hL hR s first last = let l = last-is d rest in
      let m : 0 < times l.0 (tree d v kids rest) = last-among (tree d v kids rest) l.0 l.1 in grind (arith, l.1, first-among (tree e w k R) e refl)

-- A node that leaves its parent and its siblings.

module _ {N : Type 0} where
  -- the row of a root
  pub here-row : (look : Look N) (n : ℕ) (f : Forest N) → (p : Here n f) → Loose look f
      → look n ≡ Some (record { what = p.what; parent = None; first = first_or p.kids None; last = last_or None p.kids; previous = None; next = None })
  here-row look n f p s = (Linked-split look None None p.left (tree n p.what p.kids p.right) None (rw p.is at s)).1.0

  pub below-holds : (look : Look N) (n : ℕ) (f : Forest N) → (p : Below n f) → Loose look f → Holds look p.parent (join p.left (tree n p.what p.kids p.right))
  below-holds look n f p s = rw p.is at (Linked-holds look p.parent None None f None p.one s)

  -- the row of a child
  pub below-row : (look : Look N) (n : ℕ) (f : Forest N) → (p : Below n f) → Loose look f → look n ≡ Some (record {
    what = p.what;
    parent = Some p.parent;
    first = first_or p.kids None;
    last = last_or None p.kids;
    previous = last_or None p.left;
    next = first_or p.right None;
  })
  below-row look n f p s = (Linked-split look (Some p.parent) None p.left (tree n p.what p.kids p.right) None (below-holds look n f p s).kids).1.0

  pub below-among : (n : ℕ) (f : Forest N) (p : Below n f) (b : ℕ)
      → times b (children_of p.parent f) ≡ times b p.left + (cond (eqb n b) 1 0 + (times b p.kids + times b p.right))
  below-among n f p b = rw p.is (times-join b p.left (tree n p.what p.kids p.right))

  -- a node that leaves its place stands for itself, and the others are as before without it
  pub Loose-cut : (look new : Look N) (n : ℕ) (f : Forest N) → times n f ≡ 1 → ((b : ℕ) → times b f ≤ 1) → ((b : ℕ) → new b ≡ detached n look b) → Loose look f
      → Loose new (cut n f) × Linked new None None (tree_at n f) None
  Loose-cut look new n f h once is s = go (level n f h once) where
    go : Here n f ⊎ Below n f → Loose new (cut n f) × Linked new None None (tree_at n f) None
    go (inl p) = let both = Linked-split look None None p.left (tree n p.what p.kids p.right) None (rw p.is at s) in
        let same : (b : ℕ) → new b ≡ look b = (λ b. is b ∙ rw (here-row look n f p s) refl) in (
          rw p.cut_is
              (Linked-agree look new None None (join p.left p.right) None (λ b z. same b) (Loose-join look (Some n) (Some n) p.left p.right both.0 both.1.2)),
          rw p.tree_is (Linked-agree look new None None (tree n p.what p.kids none) None (λ b z. same b) (both.1.0, both.1.1, tt)),
        )
    go (inr p) =
        let l : Option ℕ = last_or None p.left in
        let r : Option ℕ = first_or p.right None in
        let holds = below-holds look n f p s in
        let two = Linked-split look (Some p.parent) None p.left (tree n p.what p.kids p.right) None holds.kids in
        let new_is : (b : ℕ) → new b ≡ at_row n (with_place None None None) (spliced p.parent l r l r look) b = λ b. is b ∙ rw (below-row look n f p s) refl in
        let other : (b : ℕ) → b ≢ n → new b ≡ spliced p.parent l r l r look b =
        λ b i. new_is b ∙ at_row-other n (with_place None None None) (spliced p.parent l r l r look) b i in
        let once' : (b : ℕ) → times b p.left + (cond (eqb n b) 1 0 + (times b p.kids + times b p.right)) ≤ 1 = λ b. omega
        (arith, below-among n f p b, times-emptied b p.parent f p.one, once b) in
        let none_q : times p.parent p.left + (cond (eqb n p.parent) 1 0 + (times p.parent p.kids + times p.parent p.right)) ≡ 0 = omega
        (arith, below-among n f p p.parent, children-apart p.parent f p.one) in
        let not_n : (b : ℕ) → 0 < times b p.left + (times b p.kids + times b p.right) → b ≢ n =
        λ b k j. let o = rw (eq-eqb n b (sym j)) at (once' b) in omega arith in
        let not_q : (b : ℕ) → 0 < times b p.left + (times b p.kids + times b p.right) → b ≢ p.parent = λ b k j. let o = rw j at k in omega (arith, none_q) in
        let n_q : n ≢ p.parent = λ j. let o = rw (eq-eqb n p.parent j) at none_q in omega arith in
        -- a node that is in neither run
        let apart : (b : ℕ) → times b p.left + times b p.right ≡ 0 → b ≢ n → b ≢ p.parent → new b ≡ look b = λ b z i j. other b i
        ∙ spliced-other p.parent l r l r look b j (λ k. omega (arith, last-among p.left b k)) (λ k. omega (arith, first-among p.right b k)) in
        let self : new n ≡ option_map (with_place None None None) (look n) =
        new_is n ∙ at_row-there n (with_place None None None) (spliced p.parent l r l r look)
        ∙ ap (option_map (with_place None None None)) (spliced-other p.parent l r l r look n n_q
        (λ j. not_n n (omega (arith, last-among p.left n j)) refl) (λ j. not_n n (omega (arith, first-among p.right n j)) refl)) in
        let runs = spliced-runs look new p.parent p.left p.right l r (Some n) (Some n) (λ b. omega (arith, once' b)) (omega (arith, none_q))
        (λ b k. other b (not_n b (omega arith))) two.0 two.1.2 in
        let parent_row : new p.parent ≡ option_map (with_ends (first_or (join p.left p.right) None) (last_or None (join p.left p.right))) (look p.parent) =
        other p.parent (λ j. n_q (sym j))
        ∙ spliced-row look p.parent holds.row p.left p.right l r (Some n) (Some n) (omega (arith, none_q)) (omega (arith, none_q)) holds.is
        (holds.first ∙ first_or-join p.left (tree n p.what p.kids p.right) None) (holds.last ∙ last_or-join None p.left (tree n p.what p.kids p.right))
        ∙ rw (holds.is, first_or-join p.left p.right None, last_or-join None p.left p.right) refl in
        let elsewhere : (b : ℕ) → b ≢ p.parent → 0 < times b (change_children p.parent (λ _. none) f) → new b ≡ look b = λ b k z.
        let no : times b p.left + (cond (eqb n b) 1 0 + (times b p.kids + times b p.right)) ≡ 0 =
        omega (arith, below-among n f p b, times-emptied b p.parent f p.one, once b) in
        apart b (omega arith) (λ j. let o = rw (eq-eqb n b (sym j)) at no in omega arith) k in (
          rw p.cut_is (Linked-children look new p.parent (join p.left p.right) (Linked-join new (Some p.parent) None p.left p.right None runs.0 runs.1)
              parent_row None None f None p.one elsewhere s),
          rw p.tree_is (
            self ∙ ap (option_map (with_place None None None)) two.1.0,
            Linked-agree look new (Some n) None p.kids None
                (λ b z. apart b (omega (arith, once' b)) (not_n b (omega arith)) (not_q b (omega arith))) two.1.1,
            tt,
          ),
        )

-- A node that stands for itself comes below another, between two siblings.

module _ {N : Type 0} where
  pub Loose-hook : (look new : Look N) (n q : ℕ) (w : What N) (k L R f : Forest N) → times q f ≡ 1 → children_of q f ≡ join L R
      → ((b : ℕ) → times b f + (cond (eqb n b) 1 0 + (times b k + 0)) ≤ 1) → ((b : ℕ) → new b ≡ hooked n q (last_or None L) (first_or R None) look b)
      → Loose look f → Linked look None None (tree n w k none) None → Loose new (change_children q (λ _. join L (tree n w k R)) f)
  Loose-hook look new n q w k L R f h kids_are once is s t =
      let l : Option ℕ = last_or None L in
      let r : Option ℕ = first_or R None in
      let holds = rw kids_are at (Linked-holds look q None None f None h s) in
      let among : (b : ℕ) → times b (children_of q f) ≡ times b L + times b R = λ b. rw kids_are (times-join b L R) in
      let in_f : (b : ℕ) → times b L + times b R ≤ times b f = λ b. omega (arith, times-emptied b q f h, among b) in
      let none_q : times q L + times q R ≡ 0 = omega (arith, among q, children-apart q f h) in
      let not_n : (b : ℕ) → 0 < times b f + times b k → b ≢ n = λ b z j. let o = rw (eq-eqb n b (sym j)) at (once b) in omega arith in
      let other : (b : ℕ) → b ≢ n → new b ≡ spliced q l r (Some n) (Some n) look b =
      λ b i. is b ∙ at_row-other n (with_place (Some q) l r) (spliced q l r (Some n) (Some n) look) b i in
      -- a node that is in neither run
      let apart : (b : ℕ) → times b L + times b R ≡ 0 → b ≢ q → spliced q l r (Some n) (Some n) look b ≡ look b = λ b z j.
      spliced-other q l r (Some n) (Some n) look b j (λ i. omega (arith, last-among L b i)) (λ i. omega (arith, first-among R b i)) in
      let not_q : (b : ℕ) → 0 < times b k → b ≢ q = λ b z j. let o = rw j at z in omega (arith, once q, h) in
      let n_q : n ≢ q = λ j. not_n q (omega (arith, h)) (sym j) in
      let n_out : times n L + times n R ≡ 0 = let o = rw (eq-eqb n n refl) at (once n) in omega (arith, in_f n) in
      let self : new n ≡ option_map (with_place (Some q) l r) (look n) =
      is n ∙ at_row-there n (with_place (Some q) l r) (spliced q l r (Some n) (Some n) look) ∙ ap (option_map (with_place (Some q) l r)) (apart n n_out n_q) in
      let two = Linked-split look (Some q) None L R None holds.kids in
      let runs = spliced-runs look new q L R (Some n) (Some n) r l (λ b. omega (arith, in_f b, once b)) none_q
      (λ b z. other b (not_n b (omega (arith, in_f b)))) two.0 two.1 in
      let below = Linked-join new (Some q) None L (tree n w k R) None runs.0 (
        self ∙ ap (option_map (with_place (Some q) l r)) t.0,
        Linked-agree look new (Some n)
            None k None (λ b z. other b (not_n b (omega arith)) ∙ apart b (omega (arith, in_f b, once b)) (not_q b z)) t.1,
        runs.1,
      ) in
      let parent_row : new q ≡ option_map (with_ends (first_or (join L (tree n w k R)) None) (last_or None (join L (tree n w k R)))) (look q) =
      other q (λ j. n_q (sym j)) ∙ spliced-row look q holds.row L R (Some n) (Some n) r l (omega (arith, none_q)) (omega (arith, none_q)) holds.is
      (holds.first ∙ first_or-join L R None) (holds.last ∙ last_or-join None L R)
      ∙ rw (holds.is, first_or-join L (tree n w k R) None, last_or-join None L (tree n w k R)) refl in
      let elsewhere : (b : ℕ) → b ≢ q → 0 < times b (change_children q (λ _. none) f) → new b ≡ look b =
      λ b i z. other b (not_n b (omega (arith, times-emptied b q f h))) ∙ apart b (omega (arith, times-emptied b q f h, among b, once b)) i in
      Linked-children look new q (join L (tree n w k R)) below parent_row None None f None h elsewhere s

-- Links are to nodes that are there.

module _ {N : Type 0} where
  pub one-of : {count : ℕ} {look : Look N} {f : Forest N} → RowsStandIn count look f → (n : ℕ) → n < count → times n f ≡ 1
  one-of s n h = grind (arith, s.once n)

  pub once-of : {count : ℕ} {look : Look N} {f : Forest N} → RowsStandIn count look f → (b : ℕ) → times b f ≤ 1
  once-of s b = grind arith

  pub there : {count : ℕ} {look : Look N} {f : Forest N} → RowsStandIn count look f → (k : ℕ) → 0 < times k f → k < count
  there s k h = grind (arith, s.once k)

  -- the parent and the siblings of a node
  pub links-among : (look : Look N) (f : Forest N) (n : ℕ) → times n f ≡ 1 → ((b : ℕ) → times b f ≤ 1) → Loose look f → ((k : ℕ) → parent_in (look n) ≡ Some k
      → 0 < times k f) × ((k : ℕ) → previous_in (look n) ≡ Some k → 0 < times k f) × ((k : ℕ) → next_in (look n) ≡ Some k → 0 < times k f)
  links-among look f n h once s = go (level n f h once) where
    go : Here n f ⊎ Below n f → ((k : ℕ) → parent_in (look n) ≡ Some k → 0 < times k f) × ((k : ℕ) → previous_in (look n) ≡ Some k → 0 < times k f)
        × ((k : ℕ) → next_in (look n) ≡ Some k → 0 < times k f)
    go (inl p) = let row = here-row look n f p s in ((λ k e. grind (arith, row)), (λ k e. grind (arith, row)), (λ k e. grind (arith, row)))
    go (inr p) = let row = below-row look n f p s in (
      (λ k e. grind (arith, row, p.one)),
      (λ k e. grind (arith, row, last-among p.left k, below-among n f p k, times-emptied k p.parent f p.one)),
      (λ k e. grind (arith, row, first-among p.right k, below-among n f p k, times-emptied k p.parent f p.one)),
    )

  -- the first and the last child of a node
  pub ends-among : (look : Look N) (f : Forest N) (q : ℕ) → times q f ≡ 1 → Loose look f
      → ((k : ℕ) → first_in (look q) ≡ Some k → 0 < times k f) × ((k : ℕ) → last_in (look q) ≡ Some k → 0 < times k f)
  ends-among look f q h s = let holds : Holds look q (children_of q f) = Linked-holds look q None None f None h s in (
    (λ k e. grind (arith, holds.is, holds.first, first-among (children_of q f) k, times-emptied k q f h)),
    (λ k e. grind (arith, holds.is, holds.last, last-among (children_of q f) k, times-emptied k q f h)),
  )

-- A node leaves its place and is put at another.

module _ {N : Type 0} where
  -- node n was detached from a forest in which it is, and q is outside of it
  pub record Cut (count : ℕ) (look mid : Look N) (f : Forest N) (n q : ℕ) : Type 0 where
    pub stands : RowsStandIn count look f
    pub one : times n f ≡ 1
    pub other : times q (cut n f) ≡ 1
    pub is : (b : ℕ) → mid b ≡ detached n look b

  pub cut_of : {count : ℕ} {look : Look N} {f : Forest N} (mid : Look N) (n q : ℕ) → RowsStandIn count look f → n < count → q < count → IsOutside q n f
      → ((b : ℕ) → mid b ≡ detached n look b) → Cut count look mid f n q
  cut_of {count} {look} {f} mid n q s h hq apart is =
      record { stands = s; one = one-of s n h; other = omega (arith, times-cut q n f, one-of s q hq); is = is }

module _ {N : Type 0} {count : ℕ} {look mid : Look N} {f : Forest N} {n q : ℕ} (c : Cut count look mid f n q) where
  cut-stands : Loose mid (cut n f) × Linked mid None None (tree_at n f) None
  cut-stands = Loose-cut look mid n f c.one (once-of c.stands) c.is c.stands.rows

  cut-once : (b : ℕ) → times b (cut n f) ≤ 1
  cut-once b = omega (arith, times-cut b n f, once-of c.stands b)

  cut-there : (k : ℕ) → 0 < times k (cut n f) → k < count
  cut-there k h = there c.stands k (omega (arith, times-cut k n f))

  -- it comes between two runs of q's children
  pub StandsIn-graft : (new : Look N) (L R : Forest N) → children_of q (cut n f) ≡ join L R
      → ((b : ℕ) → new b ≡ hooked n q (last_or None L) (first_or R None) mid b)
      → RowsStandIn count new (change_children q (λ _. join L (join (tree_at n f) R)) (cut n f))
  StandsIn-graft new L R kids is = record {
    rows = let r = family n f c.one in rw r.1 (Loose-hook mid new n q r.0 (children_of n f) L R (cut n f) c.other kids
        (λ b. let t : times b (tree_at n f) ≡ times b (tree n r.0 (children_of n f) none) = ap (times b) r.1 in
        omega (arith, times-cut b n f, once-of c.stands b)) is cut-stands.0 (rw r.1 at cut-stands.1));
    loose_ones = roots-change_children q (λ _. join L (join (tree_at n f) R)) (cut n f) ∙ roots-cut n f (omega (arith, c.one)) ∙ ap (without n)
        c.stands.loose_ones
        ∙ sym (loose-moved n q count (parent_in (look n)) (previous_in (look n)) (next_in (look n)) (last_or None L) (first_or R None) look mid new c.is is);
    all = let e = size-changed q (join L (join (tree_at n f) R)) (cut n f) c.other in let k : size (children_of q (cut n f)) ≡ size (join L R) = ap size kids in
        omega (arith, size-join L R, size-join L (join (tree_at n f) R), size-join (tree_at n f) R, size-cut n f, c.stands.all);
    once = λ b. (let e = times-changed b q (join L (join (tree_at n f) R)) (cut n f) c.other in
        let k : times b (children_of q (cut n f)) ≡ times b (join L R) = ap (times b) kids in
        rw (← c.stands.once b) (omega (arith, times-join b L R, times-join b L (join (tree_at n f) R), times-join b (tree_at n f) R, times-cut b n f)));
  }

  -- the other nodes are what they were, and so are their parents
  pub graft-standing : (new : Look N) (p : ℕ) (x y : Option ℕ) → ((b : ℕ) → new b ≡ hooked n p x y mid b) → (b : ℕ) → b ≢ n
      → standing (new b) ≡ standing (look b)
  graft-standing new p x y is b i =
      standing-moved n p (parent_in (look n)) (previous_in (look n)) (next_in (look n)) x y look mid new c.is is b i

module _ {N : Type 0} {count : ℕ} {look mid : Look N} {f : Forest N} {n q : ℕ} (c : Cut count look mid f n q) where
  -- Last below a node.

  pub append-within : (k : ℕ) → last_in (mid q) ≡ Some k → k < count
  append-within k e = cut-there c k ((ends-among mid (cut n f) q c.other (cut-stands c).0).1 k e)

  pub StandsIn-append : (new : Look N) → ((b : ℕ) → new b ≡ hooked n q (last_in (mid q)) None mid b) → RowsStandIn count new (graft_last n q f)
  StandsIn-append new is = let holds = Linked-holds mid q None None (cut n f) None c.other (cut-stands c).0 in
      let last : last_in (mid q) ≡ last_or None (children_of q (cut n f)) = ap last_in holds.is ∙ holds.last in
      let g = StandsIn-graft c new (children_of q (cut n f)) none (sym (join-none (children_of q (cut n f))))
      (λ b. is b ∙ ap (λ x. hooked n q x None mid b) last) in
      rw (change-const q (λ kids. join kids (tree_at n f)) (cut n f) c.other) (rw (join-none (tree_at n f)) at g)

  -- Right before a node.

  pub before-within : ((k : ℕ) → parent_in (mid q) ≡ Some k → k < count) × ((k : ℕ) → previous_in (mid q) ≡ Some k → k < count)
  before-within = let m = links-among mid (cut n f) q c.other (cut-once c) (cut-stands c).0 in
      ((λ k e. cut-there c k (m.0 k e)), (λ k e. cut-there c k (m.1 k e)))

  -- the sibling's parent is as it was
  pub before-parent : parent_in (mid q) ≡ parent_in (look q)
  before-parent =
      go (mid q) (look q) (ap standing (c.is q) ∙ keeps-leave n (parent_in (look n)) (previous_in (look n)) (next_in (look n)) look q apart) where
        apart : q ≢ n
        apart j = let out : times q (tree_at n f) ≡ 0 = omega (arith, times-cut q n f, once-of c.stands q, c.other) in
            top-inside n f c.one (ap (λ m. times m (tree_at n f)) (sym j) ∙ out)

        go : (o u : Option (Row N)) → standing o ≡ standing u → parent_in o ≡ parent_in u
        go o u e = grind arith

  pub StandsIn-before : (new : Look N) (p : ℕ) → parent_in (mid q) ≡ Some p → ((b : ℕ) → new b ≡ hooked n p (previous_in (mid q)) (Some q) mid b)
      → RowsStandIn count new (graft_before n q f)
  StandsIn-before new p up_is is = go (level q (cut n f) c.other (cut-once c)) where
    go : Here q (cut n f) ⊎ Below q (cut n f) → RowsStandIn count new (graft_before n q f)
    go (inl h) = absurd (let no : None ≡ Some p = sym (ap parent_in (here-row mid q (cut n f) h (cut-stands c).0)) ∙ up_is in cc)
    go (inr h) = let row = below-row mid q (cut n f) h (cut-stands c).0 in let p_is : h.parent ≡ p = some_inj (sym (ap parent_in row) ∙ up_is) in
        let at : Cut count look mid f n h.parent = record { stands = c.stands; one = c.one; other = h.one; is = c.is } in
        rw (h.put_is (tree_at n f)) (StandsIn-graft at new h.left (tree q h.what h.kids h.right) h.is
        (λ b. is b ∙ (λ i. hooked n (sym p_is i) (ap previous_in row i) (Some q) mid b)))
