-- The steps of the adoption agency after its inner loop: the last node goes to its place, and the new element to its own.
use Rattle.hadopt.proofs.Names.{◌≡◌, ◌≢◌, ℕ, ◌+◌, ◌<◌, ◌≤◌, false, List, [], ◌∷◌, cond_both, sym, ◌∙◌, subst, arith, ◌⊎◌, inl, inr, find, is_some, ne_eqb, ◌&&◌, option_map_or, What, Forest, none, tree, times, join, tree_at, AreCounted, graft, graft_last, move_all, place_node, parent_of, Place, LastIn, Before, after, OpenNode, is_node, current, is_named, Table, NotBefore, at-most, is-there, not-there, deep-there, counted-new, counted-graft, deep, deep-lower, deep-is, deep-self, deep-new, deep-newest, graft-deep, graft-apart, graft-below, Naming, SiteOf, stack, trees, with_trees, open_node, is_fostering, beside, foster_place, place_in, InnerLoop, Each, Pairs, children_of, children-apart, document-out, counted-move, emptied, times-emptied-apart, children-deep, deep-trans, deep-hung, deep-hung-apart, deep-hung-below, deep-emptied, deep-emptied-apart}
use Rattle.hadopt.proofs.Choices.{or-both, by_zero}
use Rattle.hadopt.proofs.Lists.{each-map, pairs-map, Among, skip, among-all, among-after, Front, here, there, front-among, front-pairs, front-map, front-each}
use Rattle.hadopt.proofs.Climbing.{Plain, PlainEntries, Climbing}
use Rattle.hadopt.proofs.Searching.{Member, first, each-member, member-among, last-behind, found-behind, after-behind, found-member}

pub pairs-front : {X : Type 0} (P Q : X → Type 0) (R S : X → X → Type 0) → ((a b : X) → P a → R a b → S a b) → ((a b : X) → Q b → R a b → S a b)
    → (rest xs : List X) → Front P rest xs → Each Q rest → Pairs R xs → Pairs S xs
pairs-front P Q R S h k rest xs here e r = pairs-map Q R S (λ a b p q t. k a b q t) rest e r
pairs-front P Q R S h k rest (x ∷ xs) (there p f) e r = (each-map (R x) (S x) (λ b t. h x b p t) xs r.0, pairs-front P Q R S h k rest xs f e r.1)

module _ {N : Type 0} (n : Naming N) where
  -- a place in the document's tree, which is in none of the nodes in front of those behind
  pub record Fits (rest : List (OpenNode N)) (c : InnerLoop N) (place : Place) : Type 0 where
    pub to_document : 0 < deep (place_node place) 0 (trees c.site)
    pub outside : deep (place_node place) c.last_node (trees c.site) ≡ 0
    pub under : NotBefore 0 place
    pub front : Front (λ a. deep (place_node place) a.node (trees c.site) ≡ 0) rest (stack c.site)

  module _ (block : ℕ) (rest : List (OpenNode N)) (c : InnerLoop N) (h : Climbing n block rest c) where
    pub document-fits : Fits rest c (LastIn 0)
    document-fits = record {
      to_document = omega (arith, deep-self 0 (trees c.site), is-there c.site.nodes.made (trees c.site) h.counted 0 (omega (arith, h.low)));
      outside = document-out c.site.nodes.made (trees c.site) h.counted c.last_node h.pos;
      under = tt;
      front = front-each _ _ _ (λ a p q. document-out c.site.nodes.made (trees c.site) h.counted a.node q.1) rest (stack c.site) h.front h.each;
    }

    not-document : (z : OpenNode N) → 0 < deep z.node 0 (trees c.site) → deep z.node c.last_node (trees c.site) ≡ 0 → Member z (stack c.site) → z.node ≢ 0
    not-document z a b m is = let p = each-member _ z (stack c.site) m h.each in omega (arith, p.1)

    member-front : (z : OpenNode N) → Member z rest → Front (λ a. deep z.node a.node (trees c.site) ≡ 0) rest (stack c.site)
    member-front z m = front-map _ _ (λ a p. each-member _ z rest m p.1) rest (stack c.site)
        (front-pairs (λ y. Plain n y.name) (λ a b. deep b.node a.node (trees c.site) ≡ 0) rest (stack c.site) h.front h.order)

    pub under-fits : (z : OpenNode N) → Member z rest → Fits rest c (LastIn z.node)
    under-fits z m = let b = each-member _ z rest m h.behind in record { to_document = b.0; outside = b.1; under = tt; front = member-front z m }

    pub before-fits : (z : OpenNode N) → Member z rest → Fits rest c (Before z.node)
    before-fits z m = let b = each-member _ z rest m h.behind in
        let under = not-document z b.0 b.1 (member-among z rest (stack c.site) (front-among _ rest (stack c.site) h.front) m) in
        record { to_document = b.0; outside = b.1; under = under; front = member-front z m }

    pub current-fits : (up : List (OpenNode N)) → Among up rest → Fits rest c (LastIn (open_node (current up)))
    current-fits [] a = document-fits
    current-fits (z ∷ up) a = under-fits z (member-among z (z ∷ up) rest a first)

    -- what is in front is not this one
    front-not : (z : OpenNode N) → Member z rest → Front (λ a. is_node z.node a ≡ false) rest (stack c.site)
    front-not z m = front-map _ _ (λ a p. ne_eqb a.node z.node (λ e. clash a p e)) rest (stack c.site) (member-front z m) where
      clash : (a : OpenNode N) → deep z.node a.node (trees c.site) ≡ 0 → a.node ≡ z.node → ⊥
      clash a p e = let b = each-member _ z rest m h.behind in
          let k : deep z.node z.node (trees c.site) ≡ 0 = subst (λ (i : ℕ). deep z.node i (trees c.site) ≡ 0) e p in
          let low = (deep-there c.site.nodes.made (trees c.site) h.counted z.node 0 b.0).0 in
          omega (arith, deep-self z.node (trees c.site), is-there c.site.nodes.made (trees c.site) h.counted z.node low)

    beside-fits : (z : OpenNode N) → Member z rest → Fits rest c (beside c.site z)
    beside-fits z m = cond_both (is_some (parent_of z.node (trees c.site))) _ _ (Fits rest c) (λ _. before-fits z m) (λ _.
        rw (after-behind (is_node z.node) rest (stack c.site) (front-not z m)) (current-fits (after (is_node z.node) rest) (among-after (is_node z.node) rest)))

    foster-fits : (r : OpenNode N) (up : List (OpenNode N)) → rest ≡ r ∷ up → Fits rest c (foster_place n c.site)
    foster-fits r up is = or-both (Fits rest c) (beside c.site) (find (is_named n.same (n.known Table)) (stack c.site)) _
        (λ _. let l = last-behind _ r up (stack c.site) (subst (λ (k : List (OpenNode N)). Front (λ y. Plain n y.name) k (stack c.site)) is h.front) in
        rw (l.1) (under-fits l.0 (rw is l.2))) (λ z e. beside-fits z
        (found-member (is_named n.same (n.known Table)) rest z (sym (found-behind (is_named n.same (n.known Table)) rest (stack c.site) h.front) ∙ e)))

    pub place-fits : (r : OpenNode N) (up : List (OpenNode N)) → rest ≡ r ∷ up → Fits rest c (place_in n (current up) c.site)
    place-fits r up is = cond_both (c.site.foster && option_map_or (λ x. is_fostering (n.tag x.name)) (current up) false) _ _ (Fits rest c)
        (λ _. foster-fits r up is) (λ _. current-fits up (rw is (skip (among-all up))))

  -- what an operation keeps, as the proofs use it
  pub record Well (s : SiteOf N) : Type 0 where
    pub counted : AreCounted s.nodes.made (trees s)
    pub each : Each (λ x. (0 < deep x.node 0 (trees s)) × (0 < x.node)) (stack s)
    pub order : Pairs (λ x y. deep y.node x.node (trees s) ≡ 0) (stack s)
    pub plain : PlainEntries n s.items

  abbrev pub StandsAt : ℕ → SiteOf N → Type 0
  StandsAt x s = (0 < deep x 0 (trees s)) × (0 < x)

  -- the last node at its place: all are in the document's tree again
  module _ (block : ℕ) (rest : List (OpenNode N)) (c : InnerLoop N) (h : Climbing n block rest c) (place : Place) (fits : Fits rest c place) where
    abbrev placed : SiteOf N
    placed = with_trees (graft c.last_node place (trees c.site)) c.site

    place-one : times (place_node place) (trees c.site) ≡ 1
    place-one = is-there c.site.nodes.made (trees c.site) h.counted (place_node place)
        (deep-there c.site.nodes.made (trees c.site) h.counted (place_node place) 0 fits.to_document).0

    in-last_node : (x : ℕ) → times x (tree_at c.last_node (trees c.site)) ≡ deep x c.last_node (trees c.site)
    in-last_node x = sym (deep-is x c.last_node (trees c.site) (at-most c.site.nodes.made (trees c.site) h.counted c.last_node))

    placed-in : (x : ℕ) → 0 < deep x c.last_node (trees c.site) → 0 < deep x 0 (trees placed)
    placed-in x a = let out = in-last_node (place_node place) ∙ fits.outside in
        omega (arith, graft-below x 0 c.last_node place (trees c.site) fits.under (omega (arith, place-one)) out fits.to_document, in-last_node x)

    placed-stands : (x : ℕ) → ((0 < deep x 0 (trees c.site)) ⊎ (0 < deep x c.last_node (trees c.site))) × (0 < x) → StandsAt x placed
    placed-stands x (inr a, b) = (placed-in x a, b)
    placed-stands x (inl a, b) =
        by_zero (deep x c.last_node (trees c.site)) (λ z. (omega (arith, graft-apart x 0 c.last_node place (trees c.site) (in-last_node x ∙ z)), b)) (λ some.
        (placed-in x some, b))

    pub placed-well : Well placed
    placed-well = record {
      counted = counted-graft c.site.nodes.made c.last_node place (trees c.site) h.counted h.pos fits.under place-one
          (in-last_node (place_node place) ∙ fits.outside);
      each = each-map _ _ (λ x p. placed-stands x.node p) (stack c.site) h.each;
      order = pairs-front (λ a. deep (place_node place) a.node (trees c.site) ≡ 0) (λ b. deep b.node c.last_node (trees c.site) ≡ 0) _ _
          (λ a b p r. omega (arith, graft-deep b.node a.node c.last_node place (trees c.site) (omega (arith, place-one)) p))
          (λ a b q r. graft-apart b.node a.node c.last_node place (trees c.site) (in-last_node b.node ∙ q) ∙ r) rest (stack c.site) fits.front
          (each-map _ _ (λ y p. p.1) rest h.behind) h.order;
      plain = h.plain;
    }

    pub block-stands : StandsAt block placed
    block-stands = placed-stands block h.block_in

module _ {N : Type 0} where
  -- What becomes of the forest where a new node takes the children of a block, and goes last into it.
  module _ (count : ℕ) (f : Forest N) (counted : AreCounted count f) (block : ℕ) (stands : 0 < deep block 0 f) (pos : 0 < block) (w : What N) where
    abbrev pub more : Forest N
    more = join f (tree count w none none)

    abbrev pub kids : Forest N
    kids = children_of block more

    abbrev pub moved : Forest N
    moved = move_all block count more

    abbrev pub ended : Forest N
    ended = graft_last count block moved

    low : block < count
    low = (deep-there count f counted block 0 stands).0

    sound-more : AreCounted (count + 1) more
    sound-more = counted-new count w f counted

    absent : times count f ≡ 0
    absent = not-there count f counted count (omega arith)

    in-block : (x : ℕ) → times x kids ≤ deep x block f
    in-block x = omega (arith, children-deep x block more, deep-new x block count w f (λ e. omega (arith, low)))

    new-apart : times count kids ≡ 0
    new-apart = omega (arith, in-block count, deep-lower count block f absent)

    block-one : times block more ≡ 1
    block-one = is-there (count + 1) more sound-more block (omega (arith, low))

    new-one : times count more ≡ 1
    new-one = is-there (count + 1) more sound-more count (omega arith)

    pub block-apart : times block kids ≡ 0
    block-apart = children-apart block more block-one

    sound-moved : AreCounted (count + 1) moved
    sound-moved = counted-move (count + 1) block count more sound-more block-one new-one new-apart

    new-left : times count (emptied block more) ≡ 1
    new-left = times-emptied-apart count block more new-apart ∙ new-one

    moved-few : (x y : ℕ) → y ≢ count → deep x y moved ≤ deep x y f
    moved-few x y h =
        let none_in : deep count y (emptied block more) ≡ 0 = omega
        (arith, deep-emptied count y block more, deep-new count y count w f h, deep-lower count y f absent) in
        omega (arith, deep-hung x y count kids (emptied block more) (omega (arith, new-left)) none_in, deep-emptied x y block more, deep-new x y count w f h)

    moved-apart : (x y : ℕ) → times x kids ≡ 0 → deep x y moved ≡ deep x y more
    moved-apart x y a = deep-hung-apart x y count kids (emptied block more) a ∙ deep-emptied-apart x y block more a

    moved-in : (x : ℕ) → 0 < times x kids → 0 < deep x count moved
    moved-in x a = let self : 0 < deep count count (emptied block more) = omega (arith, deep-self count (emptied block more), new-left) in
        omega (arith, deep-hung-below x count count kids (emptied block more) (omega (arith, new-left)) self)

    in-new : (x : ℕ) → times x (tree_at count moved) ≡ deep x count moved
    in-new x = sym (deep-is x count moved (at-most (count + 1) moved sound-moved count))

    out-new : (x : ℕ) → x ≢ count → times x kids ≡ 0 → deep x count moved ≡ 0
    out-new x h a = moved-apart x count a ∙ deep-newest x count w f absent h

    block-out : times block (tree_at count moved) ≡ 0
    block-out = in-new block ∙ out-new block (λ e. omega (arith, low)) block-apart

    block-moved : times block moved ≡ 1
    block-moved = is-there (count + 1) moved sound-moved block (omega (arith, low))

    pub ended-sound : AreCounted (count + 1) ended
    ended-sound = counted-graft (count + 1) count (LastIn block) moved sound-moved (omega (arith, low)) tt block-moved block-out

    ended-few : (x y : ℕ) → y ≢ count → deep block y f ≡ 0 → deep x y ended ≤ deep x y f
    ended-few x y h out = let apart = moved-apart block y block-apart ∙ deep-new block y count w f h ∙ out in
        omega (arith, graft-deep x y count (LastIn block) moved (omega (arith, block-moved)) apart, moved-few x y h)

    ended-apart : (x y : ℕ) → x ≢ count → times x kids ≡ 0 → deep x y ended ≡ deep x y more
    ended-apart x y h a = graft-apart x y count (LastIn block) moved (in-new x ∙ out-new x h a) ∙ moved-apart x y a

    -- what was outside still is
    pub ended-out : (x y : ℕ) → x ≢ count → y ≢ count → deep x y f ≡ 0 → deep x y ended ≡ 0
    ended-out x y hx hy out = by_zero (deep block y f) (λ z. omega (arith, ended-few x y hy z))
        (λ some. by_zero (times x kids) (λ a. ended-apart x y hx a ∙ deep-new x y count w f hy ∙ out)
        (λ k. absurd (omega (arith, in-block x, deep-trans x block y f (at-most count f counted block) some))))

    pub ended-below : (y : ℕ) → y ≢ count → deep block y f ≡ 0 → deep count y ended ≡ 0
    ended-below y h out = omega (arith, ended-few count y h out, deep-lower count y f absent)

    pub ended-above : (x : ℕ) → x ≢ count → times x kids ≡ 0 → deep x count ended ≡ 0
    ended-above x h a = ended-apart x count h a ∙ deep-newest x count w f absent h

    ended-in : (x : ℕ) → 0 < deep x count moved → 0 < deep x 0 ended
    ended-in x a = let there : 0 < deep block 0 moved = omega (arith, moved-apart block 0 block-apart, deep-new block 0 count w f (λ e. omega (arith, low))) in
        omega (arith, in-new x, graft-below x 0 count (LastIn block) moved tt (omega (arith, block-moved)) block-out there)

    pub ended-stands : (x : ℕ) → 0 < deep x 0 f → 0 < deep x 0 ended
    ended-stands x a = by_zero (times x kids)
        (λ z. omega (arith, ended-apart x 0 (λ e. omega (arith, (deep-there count f counted x 0 a).0)) z, deep-new x 0 count w f (λ e. omega (arith, low))))
        (λ some. ended-in x (moved-in x some))

    pub ended-new : 0 < deep count 0 ended
    ended-new = ended-in count (omega (arith, deep-self count moved, is-there (count + 1) moved sound-moved count (omega arith)))

    pub above-apart : (x : ℕ) → deep x block f ≡ 0 → times x kids ≡ 0
    above-apart x h = omega (arith, in-block x)
