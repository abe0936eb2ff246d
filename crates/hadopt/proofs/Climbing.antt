-- The inner loop of the adoption agency: the open nodes are in the document's tree or in that of the last node.
use Rattle.hadopt.proofs.Names.{◌≡◌, ◌≢◌, ℕ, suc, ◌+◌, ◌<◌, ◌≤◌, Bool, true, false, not, leb, List, [], ◌∷◌, ◌++◌, Some, refl, sym, ◌∙◌, subst, arith, ◌⊎◌, inl, inr, find, eq-eqb, ne_eqb, ◌==◌, What, element, Forest, none, tree, times, join, tree_at, AreCounted, graft_last, make, LastIn, OpenNode, is_node, EntryOf, Listed, marker, entry, entries, is_of_node, entry_of, without_entry, for_node, with_node, Table, TooManyNodes, cond_both, some_same, SiteOf, Attribute, Place, graft, with_trees, with_stack, length, added, with_open, inserted, at-most, is-there, not-there, deep-there, times-new, counted-new, counted-graft, deep, deep-lower, deep-is, deep-self, deep-new, deep-newest, graft-deep, graft-apart, graft-below, Naming, Outcome, Goes, Refused, and_then, stack, trees, with_items, made, InnerLoop, entries_for, left, node_replaced, inner_turn, inner_loop, Each, Pairs}
use Rattle.hadopt.proofs.Choices.{or-both, by_zero}
use Rattle.hadopt.proofs.Lists.{each-map, pairs-map, Among, empty, skip, keep, each-among, pairs-among, among-without, Front, front-next, front-pairs, front-map, front-each, front-without, front-changed, each-change, pairs-changed}

-- what holds where it goes on
abbrev pub OnGoes : {S : Type 0} → (S → Type 0) → Outcome S → Type 0
OnGoes P (Goes s) = P s
OnGoes P (Refused r) = Unit {0}

pub goes-then : {S T : Type 0} (P : S → Type 0) (Q : T → Type 0) (o : Outcome S) (f : S → Outcome T) → OnGoes P o → ((s : S) → P s → OnGoes Q (f s))
    → OnGoes Q (and_then o f)
goes-then P Q (Goes s) f p h = h s p
goes-then P Q (Refused r) f p h = tt

pub find-each : {X : Type 0} (P : X → Type 0) (p : X → Bool) (xs : List X) (x : X) → Each P xs → find p xs ≡ Some x → P x
find-each P p [] x e is = cc
find-each P p (y ∷ ys) x e is =
    cond_both (p y) (Some y) (find p ys) (λ o. o ≡ Some x → P x) (λ _ s. subst P (some_same y x s) e.0) (λ _. find-each P p ys x e.1) is

pub goes-map : {S : Type 0} (P Q : S → Type 0) → ((s : S) → P s → Q s) → (o : Outcome S) → OnGoes P o → OnGoes Q o
goes-map P Q f (Goes s) h = f s h
goes-map P Q f (Refused r) h = tt

-- where a new node is made
pub made-goes : {N T : Type 0} (P : T → Type 0) (at : ℕ) (w : What N) (s : SiteOf N) (f : SiteOf N → Outcome T)
    → OnGoes P (f (record s { nodes = make w s.nodes })) → OnGoes P (and_then (made at w s) f)
made-goes P at w s f h = cond_both (leb s.nodes.limit s.nodes.made) (Refused (TooManyNodes at)) (Goes (record s { nodes = make w s.nodes }))
    (λ o. OnGoes P (and_then o f)) (λ _. tt) (λ _. h)

pub inserted-goes : {N : Type 0} (P : SiteOf N → Type 0) (at : ℕ) (name : N) (attrs : List (Attribute N)) (p : Place) (s : SiteOf N)
    → P (with_stack (record { node = s.nodes.made; name = name } ∷ stack s)
    (with_trees (graft s.nodes.made p (make (element name attrs) s.nodes).trees) (record s { nodes = make (element name attrs) s.nodes })))
    → OnGoes P (inserted at name attrs p s)
inserted-goes P at name attrs p s h = let opens = with_open at (record { node = s.nodes.made; name = name }) in
    goes-then (λ t. OnGoes P (opens t)) P (added at (element name attrs) p s) opens (made-goes (λ t. OnGoes P (opens t)) at (element name attrs) s
    (λ t. Goes (with_trees (graft s.nodes.made p (trees t)) t)) (cond_both (leb s.open_nodes.limit (length (stack s))) _ _ (OnGoes P) (λ _. tt) (λ _. h)))
    (λ t k. k)

module _ {N : Type 0} (n : Naming N) (P : InnerLoop N → Type 0) (at block passed : ℕ) (x : OpenNode N) (c : InnerLoop N) where
  abbrev at_turn : SiteOf N
  at_turn = with_items (entries_for passed x.node c.site.items) c.site

  -- a turn of the inner loop, without an entry and with one
  pub turn-goes : P (left x (record c { site = at_turn })) → ((e : EntryOf N) → entry_of x.node at_turn.items ≡ Some e
      → P (node_replaced block c.site.nodes.made x e (record c { site = record at_turn { nodes = make (element e.name e.attrs) c.site.nodes } })))
      → OnGoes P (inner_turn n at block passed x c)
  turn-goes a b = or-both (OnGoes P) _ (entry_of x.node at_turn.items) _ (λ _. a) (λ e is. made-goes P at (element e.name e.attrs) at_turn _ (b e is))

module _ {N : Type 0} where
  -- What becomes of the forest: a new node, and the last one under it.
  module _ (count : ℕ) (f : Forest N) (counted : AreCounted count f) (last_node : ℕ) (low : last_node < count) (pos : 0 < last_node) (w : What N) where
    abbrev pub grown : Forest N
    grown = graft_last last_node count (join f (tree count w none none))

    absent : times count f ≡ 0
    absent = not-there count f counted count (omega arith)

    new-out : (y : ℕ) → y ≢ count → deep count y (join f (tree count w none none)) ≡ 0
    new-out y h = deep-new count y count w f h ∙ deep-lower count y f absent

    new-one : times count (join f (tree count w none none)) ≡ 1
    new-one = times-new count w f absent

    last-not : last_node ≢ count
    last-not e = omega arith

    in-last_node : (x : ℕ) → times x (tree_at last_node (join f (tree count w none none))) ≡ deep x last_node f
    in-last_node x = sym (deep-is x last_node (join f (tree count w none none))
        (at-most (count + 1) (join f (tree count w none none)) (counted-new count w f counted) last_node)) ∙ deep-new x last_node count w f last-not

    pub grown-few : (x y : ℕ) → y ≢ count → deep x y grown ≤ deep x y f
    grown-few x y h = omega
        (arith, graft-deep x y last_node (LastIn count) (join f (tree count w none none)) (omega (arith, new-one)) (new-out y h), deep-new x y count w f h)

    pub grown-apart : (x y : ℕ) → y ≢ count → deep x last_node f ≡ 0 → deep x y grown ≡ deep x y f
    grown-apart x y h out = graft-apart x y last_node (LastIn count) (join f (tree count w none none)) (in-last_node x ∙ out) ∙ deep-new x y count w f h

    pub grown-out : (x : ℕ) → x ≢ count → deep x last_node f ≡ 0 → deep x count grown ≡ 0
    grown-out x h out = graft-apart x count last_node (LastIn count) (join f (tree count w none none)) (in-last_node x ∙ out) ∙ deep-newest x count w f absent h

    pub grown-in : (x : ℕ) → 0 < deep x last_node f → 0 < deep x count grown
    grown-in x h = let f' = join f (tree count w none none) in let self : 0 < deep count count f' = omega (arith, deep-self count f', new-one) in
        let out = in-last_node count ∙ deep-lower count last_node f absent in
        omega (arith, graft-below x count last_node (LastIn count) f' tt (omega (arith, new-one)) out self, in-last_node x)

    pub grown-new : (y : ℕ) → y ≢ count → deep count y grown ≡ 0
    grown-new y h = omega (arith, grown-few count y h, deep-lower count y f absent)

    pub grown-sound : AreCounted (count + 1) grown
    grown-sound = counted-graft (count + 1) last_node (LastIn count) (join f (tree count w none none)) (counted-new count w f counted) pos tt new-one
        (in-last_node count ∙ deep-lower count last_node f absent)

module _ {N : Type 0} where
  -- entries that are left
  pub among-entries : (k : ℕ) (items : List (Listed N)) → Among (entries (without_entry k items)) (entries items)
  among-entries k [] = empty
  among-entries k (marker ∷ items) = among-entries k items
  among-entries k (entry e ∷ items) =
      cond_both (not (e.node == k)) _ _ (λ l. Among (entries l) (e ∷ entries items)) (λ _. keep (among-entries k items)) (λ _. skip (among-entries k items))

module _ {N : Type 0} (n : Naming N) where
  abbrev pub Plain : N → Type 0
  Plain x = n.same x (n.known Table) ≡ false

  abbrev pub PlainEntries : List (Listed N) → Type 0
  PlainEntries items = Each (λ e. Plain e.name) (entries items)

  pub plain-without : (k : ℕ) (items : List (Listed N)) → PlainEntries items → PlainEntries (without_entry k items)
  plain-without k items = each-among (λ e. Plain e.name) (entries (without_entry k items)) (entries items) (among-entries k items)

  pub plain-with_node : (old new : ℕ) (items : List (Listed N)) → PlainEntries items → PlainEntries (with_node old new items)
  plain-with_node old new [] h = tt
  plain-with_node old new (marker ∷ items) h = plain-with_node old new items h
  plain-with_node old new (entry e ∷ items) h = cond_both (e.node == old) (for_node new (entry e) ∷ items) _ PlainEntries (λ _. h) (λ _.
      (h.0, plain-with_node old new items h.1))

  -- on the way, these open nodes being still to come
  pub record Climbing (block : ℕ) (rest : List (OpenNode N)) (c : InnerLoop N) : Type 0 where
    pub counted : AreCounted c.site.nodes.made (trees c.site)
    pub low : c.last_node < c.site.nodes.made
    pub pos : 0 < c.last_node
    pub each : Each (λ x. ((0 < deep x.node 0 (trees c.site)) ⊎ (0 < deep x.node c.last_node (trees c.site))) × (0 < x.node)) (stack c.site)
    pub behind : Each (λ x. (0 < deep x.node 0 (trees c.site)) × (deep x.node c.last_node (trees c.site) ≡ 0)) rest
    pub order : Pairs (λ x y. deep y.node x.node (trees c.site) ≡ 0) (stack c.site)
    pub front : Front (λ x. Plain x.name) rest (stack c.site)
    pub block_in : ((0 < deep block 0 (trees c.site)) ⊎ (0 < deep block c.last_node (trees c.site))) × (0 < block)
    pub plain : PlainEntries c.site.items

  -- none in front is the first one behind
  pub front-apart : (f : Forest N) (x : OpenNode N) (rest open_now : List (OpenNode N)) → 0 < times x.node f → Front (λ y. Plain y.name) (x ∷ rest) open_now
      → Pairs (λ a b. deep b.node a.node f ≡ 0) open_now → Front (λ y. Plain y.name × (is_node x.node y ≡ false)) (x ∷ rest) open_now
  front-apart f x rest open_now one front order = front-map _ _ (λ y h.
      (h.0, ne_eqb y.node x.node (λ e. let z : deep x.node x.node f ≡ 0 = subst (λ (k : ℕ). deep x.node k f ≡ 0) e h.1.0 in omega (arith, deep-self x.node f))))
      (x ∷ rest) open_now (front-pairs (λ y. Plain y.name) (λ a b. deep b.node a.node f ≡ 0) (x ∷ rest) open_now front order)

  module _ (block : ℕ) (x : OpenNode N) (rest : List (OpenNode N)) (c : InnerLoop N) (h : Climbing block (x ∷ rest) c) where
    there-x : 0 < times x.node (trees c.site)
    there-x = omega
        (arith, is-there c.site.nodes.made (trees c.site) h.counted x.node (deep-there c.site.nodes.made (trees c.site) h.counted x.node 0 h.behind.0.0).0)

    apart : Front (λ y. Plain y.name × (is_node x.node y ≡ false)) (x ∷ rest) (stack c.site)
    apart = front-apart (trees c.site) x rest (stack c.site) there-x h.front h.order

    is-x : is_node x.node x ≡ true
    is-x = eq-eqb x.node x.node refl

    left-climbs : (k : ℕ) (items : List (Listed N)) → PlainEntries items → Climbing block rest (left x (record c { site = with_items items c.site }))
    left-climbs k items plain = let less = among-without (is_node x.node) (stack c.site) in
        record {
          counted = h.counted;
          low = h.low;
          pos = h.pos;
          each = each-among _ _ _ less h.each;
          behind = h.behind.1;
          order = pairs-among _ _ _ less h.order;
          front = front-map _ _ (λ y p. p.0) _ _ (front-without _ (is_node x.node) x rest (stack c.site) (λ y p. p.1) is-x apart);
          block_in = h.block_in;
          plain = plain;
        }

    abbrev count : ℕ
    count = c.site.nodes.made

    old : (y z : ℕ) → 0 < deep y z (trees c.site) → y ≢ count
    old y z in_z is = omega (arith, (deep-there count (trees c.site) h.counted y z in_z).0)

    module _ (w : What N) where
      abbrev f' : Forest N
      f' = grown count (trees c.site) h.counted c.last_node h.low h.pos w

      abbrev Now : OpenNode N → Type 0
      Now y = ((0 < deep y.node 0 f') ⊎ (0 < deep y.node count f')) × (0 < y.node)

      now-in : (y : OpenNode N) → 0 < deep y.node c.last_node (trees c.site) → 0 < y.node → Now y × (y.node ≢ count)
      now-in y a b = ((inr (grown-in count (trees c.site) h.counted c.last_node h.low h.pos w y.node a), b), old y.node c.last_node a)

      now : (y : OpenNode N) → (0 < deep y.node 0 (trees c.site)) ⊎ (0 < deep y.node c.last_node (trees c.site)) → 0 < y.node → Now y × (y.node ≢ count)
      now y (inr a) b = now-in y a b
      now y (inl a) b = by_zero (deep y.node c.last_node (trees c.site)) (λ z.
          let same = grown-apart count (trees c.site) h.counted c.last_node h.low h.pos w y.node 0 (λ e. omega (arith, h.low)) z in
          ((inl (omega (arith, same)), b), old y.node 0 a)) (λ some. now-in y some b)

      now-each : Each (λ y. Now y × (y.node ≢ count)) (stack c.site)
      now-each = each-map _ _ (λ y p. now y p.0 p.1) (stack c.site) h.each

      now-behind : (y : OpenNode N) → (0 < deep y.node 0 (trees c.site)) × (deep y.node c.last_node (trees c.site) ≡ 0)
          → (0 < deep y.node 0 f') × (deep y.node count f' ≡ 0)
      now-behind y p = let same = grown-apart count (trees c.site) h.counted c.last_node h.low h.pos w y.node 0 (λ e. omega (arith, h.low)) p.1 in
          (omega (arith, p.0, same), grown-out count (trees c.site) h.counted c.last_node h.low h.pos w y.node (old y.node 0 p.0) p.1)

    replaced-climbs : (e : EntryOf N) (items : List (Listed N)) → PlainEntries items → Plain e.name → Climbing block rest
        (node_replaced block count x e (record c { site = record (with_items items c.site) { nodes = make (element e.name e.attrs) c.site.nodes } }))
    replaced-climbs e items plain name = let w = element e.name e.attrs in let new : OpenNode N = record { node = count; name = e.name } in
        let one = is-there (count + 1) (f' w) (grown-sound count (trees c.site) h.counted c.last_node h.low h.pos w) count (omega arith) in
        let new_in : 0 < deep count count (f' w) = omega (arith, deep-self count (f' w), one) in
        record {
          counted = grown-sound count (trees c.site) h.counted c.last_node h.low h.pos w;
          low = omega arith;
          pos = omega (arith, h.low);
          each = each-change (Now w) (is_node x.node) new (stack c.site) (inr new_in, omega (arith, h.low))
              (each-map _ _ (λ y p. p.0) (stack c.site) (now-each w));
          behind = each-map _ _ (now-behind w) rest h.behind.1;
          order = pairs-changed _ _ (is_node x.node) x new rest (stack c.site) (λ y p. p.0.1) is-x (front-each _ _
              (λ y. (Plain y.name × (is_node x.node y ≡ false)) × (y.node ≢ count)) (λ y p q. (p, q.1)) (x ∷ rest) (stack c.site) apart (now-each w))
              (λ y p. grown-new count (trees c.site) h.counted c.last_node h.low h.pos w y.node p.1)
              (each-map _ _ (λ y p. (now-behind w y p).1) rest h.behind.1) (pairs-map (λ y. y.node ≢ count) _ _
              (λ a b p q r. omega (arith, grown-few count (trees c.site) h.counted c.last_node h.low h.pos w b.node a.node p)) (stack c.site)
              (each-map _ _ (λ y p. p.1) (stack c.site) (now-each w)) h.order);
          front = front-next _ new rest _ name
              (front-map _ _ (λ y p. p.0) _ _ (front-changed _ (is_node x.node) x new rest (stack c.site) (λ y p. p.1) is-x apart));
          block_in = (now w (record { node = block; name = x.name }) h.block_in.0 h.block_in.1).0;
          plain = plain-with_node x.node count items plain;
        }

    for-plain : (passed : ℕ) → PlainEntries (entries_for passed x.node c.site.items)
    for-plain passed = cond_both (leb 3 passed) _ _ PlainEntries (λ _. plain-without x.node c.site.items h.plain) (λ _. h.plain)

    abbrev items : ℕ → List (Listed N)
    items passed = entries_for passed x.node c.site.items

    pub one-climbs : (at passed : ℕ) → OnGoes (Climbing block rest) (inner_turn n at block passed x c)
    one-climbs at passed =
        turn-goes n (Climbing block rest) at block passed x c (left-climbs 0 (items passed) (for-plain passed)) (λ e is. replaced-climbs e (items passed)
        (for-plain passed) (find-each (λ d. Plain d.name) (is_of_node x.node) (entries (items passed)) e (for-plain passed) is))

  pub inner-loop-climbs : (at block : ℕ) (way tail : List (OpenNode N)) (passed : ℕ) (c : InnerLoop N) → Climbing block (way ++ tail) c
      → OnGoes (Climbing block tail) (inner_loop n at block passed way c)
  inner-loop-climbs at block [] tail passed c h = h
  inner-loop-climbs at block (x ∷ way) tail passed c h = goes-then (Climbing block (way ++ tail)) (Climbing block tail) (inner_turn n at block passed x c) _
      (one-climbs block x (way ++ tail) c h at passed) (λ d k. inner-loop-climbs at block way tail (suc passed) d k)
