-- The adoption agency keeps what the open nodes need: a turn of its outer loop, and all turns.
use Rattle.hadopt.proofs.Names.{◌≡◌, ◌≢◌, ℕ, zero, suc, ◌<◌, Bool, true, false, not, cond, List, [], ◌∷◌, cond_both, Outcome, refl, sym, ◌∙◌, ap, subst, arith, inl, find, drop, eqb-true, ◌&&◌, list_any, option_map_or, What, element, Forest, graft, make, before, without, item_put_before, OpenNode, is_node, is_open, current, above, below, in_scope, furthest_block, is_named, stops_in_scope, Default, Bookmark, InPlace, After, EntryOf, Listed, marker, entry, is_entry, find_entry, without_entry, for_node, Table, ErrorCode, TreeInBody, is_special, has_implied_end, deep-there, deep, Naming, Goes, SiteOf, stack, trees, with_trees, with_items, with_stack, with_error, error_unless, current_is, place_in, popped_past, popped_to, without_implied, closed, other_end, Turn, Next, Ended, next_turn, InnerLoop, formatting_replaced, popped_with, inner_loop, after_inner_loop, with_furthest_block, with_formatting_element, outer_turn, outer_loop, is_unlisted, adopted, Each, Pairs, TellsTables, ◌||◌, not-false, booked, stops_scope}
use Rattle.hadopt.proofs.Choices.{by_test, or-both}
use Rattle.hadopt.proofs.Lists.{each-map, each-both, pairs-map, Among, empty, skip, among-all, among-after, each-among, pairs-among, among-without, Front, front-among, front-pairs, front-each, each-put, pairs-put}
use Rattle.hadopt.proofs.Climbing.{OnGoes, goes-then, made-goes, find-each, Plain, PlainEntries, plain-without, plain-with_node, Climbing, inner-loop-climbs}
use Rattle.hadopt.proofs.Searching.{any-after, any-each, pairs-after, scope-front, scope-open, At, at-nearest, special-there}
use Rattle.hadopt.proofs.Settling.{Well, StandsAt, place-fits, placed-well, block-stands, ended, ended-sound, ended-out, ended-below, ended-above, ended-stands, ended-new, above-apart, block-apart}

module _ {X : Type 0} where
  pub put-none : (p : X → Bool) (new : X) (xs : List X) → list_any p xs ≡ false → item_put_before p new xs ≡ xs
  put-none p new [] h = refl
  put-none p new (x ∷ xs) h = by_test (p x) (λ v. (v || list_any p xs) ≡ false → cond v (new ∷ x ∷ xs) (x ∷ item_put_before p new xs) ≡ x ∷ xs) (λ _ k. cc)
      (λ _ k. ap (λ l. x ∷ l) (put-none p new xs k)) h

  pub among-past : (p : X → Bool) (xs : List X) → Among (popped_past p xs) xs
  among-past p [] = empty
  among-past p (x ∷ xs) = cond_both (p x) _ (x ∷ xs) (λ l. Among l (x ∷ xs)) (λ _. skip (among-past p xs)) (λ _. among-all (x ∷ xs))

  pub among-drop : (xs : List X) → Among (drop 1 xs) xs
  among-drop [] = empty
  among-drop (x ∷ xs) = skip (among-all xs)

module _ {N : Type 0} (n : Naming N) where
  abbrev PlainItem : Listed N → Type 0
  PlainItem marker = Unit {0}
  PlainItem (entry e) = Plain n e.name

  pub to-items : (items : List (Listed N)) → PlainEntries n items → Each PlainItem items
  to-items [] h = tt
  to-items (marker ∷ items) h = (tt, to-items items h)
  to-items (entry e ∷ items) h = (h.0, to-items items h.1)

  pub from-items : (items : List (Listed N)) → Each PlainItem items → PlainEntries n items
  from-items [] h = tt
  from-items (marker ∷ items) h = from-items items h.1
  from-items (entry e ∷ items) h = (h.0, from-items items h.1)

  plain-for : (new : ℕ) (i : Listed N) → PlainItem i → PlainItem (for_node new i)
  plain-for new marker h = tt
  plain-for new (entry e) h = h

  pub plain-booked : (old new : ℕ) (b : Bookmark) (items : List (Listed N)) → PlainEntries n items → PlainEntries n (booked old new b items)
  plain-booked old new InPlace items h = plain-with_node n old new items h
  plain-booked old new (After k) items h = or-both (PlainEntries n) _ (find (is_entry old) items) items (λ _. h) (λ i e.
      from-items (item_put_before (is_entry k) (for_node new i) (without (is_entry old) items)) (each-put PlainItem (is_entry k) (for_node new i) _
      (plain-for new i (find-each PlainItem (is_entry old) items i (to-items items h) e)) (each-among _ _ _ (among-without _ items) (to-items items h))))

  -- Where nodes go from the stack, entries from the list, or an error comes.

  pub fewer : (s : SiteOf N) (open_now : List (OpenNode N)) → Among open_now (stack s) → Well n s → Well n (with_stack open_now s)
  fewer s open_now a h = record
      { counted = h.counted; each = each-among _ open_now (stack s) a h.each; order = pairs-among _ open_now (stack s) a h.order; plain = h.plain }

  pub listed-as : (s : SiteOf N) (items : List (Listed N)) → PlainEntries n items → Well n s → Well n (with_items items s)
  listed-as s items p h = record { counted = h.counted; each = h.each; order = h.order; plain = p }

  pub erred : (s : SiteOf N) (code : ErrorCode) (at : ℕ) → Well n s → Well n (with_error code at s)
  erred s code at h = record { counted = h.counted; each = h.each; order = h.order; plain = h.plain }

  pub erred-unless : (v : Bool) (s : SiteOf N) (code : ErrorCode) (at : ℕ) → Well n s → Well n (error_unless v code at s)
  erred-unless true s code at h = h
  erred-unless false s code at h = erred s code at h

  pub closed-well : (at : ℕ) (sought : OpenNode N → Bool) (s : SiteOf N) → Well n s → Well n (closed n at sought s)
  closed-well at sought s h = let t = without_implied n sought s in
      let k = erred-unless (current_is sought t) t TreeInBody at (fewer s _ (among-past (λ x. has_implied_end (n.tag x.name) && not (sought x)) (stack s)) h) in
      fewer (error_unless (current_is sought t) TreeInBody at t) _ (among-after sought (stack (error_unless (current_is sought t) TreeInBody at t))) k

  pub other-well : (at : ℕ) (name : N) (s : SiteOf N) → Well n s → Well n (other_end n at name s)
  other-well at name s h = cond_both (in_scope (λ x. is_special (n.tag x.name)) (is_named n.same name) (stack s)) _ _ (Well n)
      (λ _. closed-well at (is_named n.same name) s h) (λ _. erred s TreeInBody at h)

  -- the new element takes its place
  module _ (block : ℕ) (fe : EntryOf N) (bookmark : Bookmark) (s : SiteOf N) (h : Well n s) (stands : StandsAt n block s) where
    abbrev count : ℕ
    count = s.nodes.made

    abbrev w : What N
    w = element fe.name fe.attrs

    abbrev f' : Forest N
    f' = ended count (trees s) h.counted block stands.0 stands.1 w

    abbrev new : OpenNode N
    new = record { node = count; name = fe.name }

    abbrev left_open : List (OpenNode N)
    left_open = without (is_node fe.node) (stack s)

    less : Among left_open (stack s)
    less = among-without (is_node fe.node) (stack s)

    low : (x : ℕ) → 0 < deep x 0 (trees s) → x ≢ count
    low x a e = omega (arith, (deep-there count (trees s) h.counted x 0 a).0)

    each' : Each (λ x. ((0 < deep x.node 0 f') × (0 < x.node)) × (x.node ≢ count)) left_open
    each' = each-map _ _ (λ x p. ((ended-stands count (trees s) h.counted block stands.0 stands.1 w x.node p.0, p.1), low x.node p.0)) left_open
        (each-among _ left_open (stack s) less h.each)

    order' : Pairs (λ a b. deep b.node a.node f' ≡ 0) left_open
    order' = pairs-map (λ x. x.node ≢ count) _ _ (λ a b p q r. ended-out count (trees s) h.counted block stands.0 stands.1 w b.node a.node q p r) left_open
        (each-map _ _ (λ x p. p.1) left_open each') (pairs-among _ left_open (stack s) less h.order)

    new-stands : (0 < deep count 0 f') × (0 < count)
    new-stands = (ended-new count (trees s) h.counted block stands.0 stands.1 w, omega (arith, (deep-there count (trees s) h.counted block 0 stands.0).0))

    open-well : (v : Bool) → list_any (is_node block) left_open ≡ v → Each (λ x. (0 < deep x.node 0 f') × (0 < x.node))
        (item_put_before (is_node block) new left_open) × Pairs (λ a b. deep b.node a.node f' ≡ 0) (item_put_before (is_node block) new left_open)
    open-well false e = rw (put-none (is_node block) new left_open e) (each-map _ _ (λ x p. p.0) left_open each', order')
    open-well true e = let a = at-nearest (is_node block) left_open e in let is : a.at.node ≡ block = eqb-true a.at.node block a.sought in
        let old_order = pairs-among _ left_open (stack s) less h.order in let among = front-among _ _ _ a.front in
        let front : Front (λ y. ((is_node block y ≡ false) × Each (λ b. deep b.node y.node (trees s) ≡ 0) (a.at ∷ a.up)) × (y.node ≢ count)) (a.at ∷ a.up)
        left_open = front-each _ _ _ (λ y p q. (p, q.1)) _ _ (front-pairs _ (λ x y. deep y.node x.node (trees s) ≡ 0) _ _ a.front old_order) each' in
        let behind = each-among _ (a.at ∷ a.up) left_open among each' in
        let up_order = (pairs-among (λ x y. deep y.node x.node (trees s) ≡ 0) (a.at ∷ a.up) left_open among old_order).0 in (
          each-put _ (is_node block) new left_open new-stands (each-map _ _ (λ x p. p.0) left_open each'),
          pairs-put _ _ (is_node block) a.at new a.up left_open (λ y p. p.0.0) a.sought front
              (λ y p. ended-below count (trees s) h.counted block stands.0 stands.1 w y.node p.1 (subst (λ (k : ℕ). deep k y.node (trees s) ≡ 0) is p.0.1.0)) (
                ended-above count (trees s) h.counted block stands.0 stands.1 w a.at.node behind.0.1
                    (rw is (block-apart count (trees s) h.counted block stands.0 stands.1 w)),
                each-both (λ y. deep y.node a.at.node (trees s) ≡ 0) (λ y. ((0 < deep y.node 0 f') × (0 < y.node)) × (y.node ≢ count)) _
                    (λ y p q. ended-above count (trees s) h.counted block stands.0 stands.1 w y.node q.1
                    (above-apart count (trees s) h.counted block stands.0 stands.1 w y.node (subst (λ (k : ℕ). deep y.node k (trees s) ≡ 0) is p))) a.up
                    up_order behind.1,
              ) order',
        )

    pub formatting_replaced-well : Well n (formatting_replaced block count fe bookmark (record s { nodes = make w s.nodes }))
    formatting_replaced-well = let o = open-well (list_any (is_node block) left_open) refl in
        record {
          counted = ended-sound count (trees s) h.counted block stands.0 stands.1 w;
          each = o.0;
          order = o.1;
          plain = plain-booked fe.node count bookmark s.items h.plain;
        }

module _ {N : Type 0} (n : Naming N) (tells : TellsTables n) (at : ℕ) where
  -- the last node at its place, and the new element
  ended-well : (fe : EntryOf N) (block : ℕ) (r : OpenNode N) (up : List (OpenNode N)) (c : InnerLoop N) → Climbing n block (r ∷ up) c
      → OnGoes (Well n) (after_inner_loop n at fe block (current up) c)
  ended-well fe block r up c h = let place = place_in n (current up) c.site in let fits = place-fits n block (r ∷ up) c h r up refl in
      let s = with_trees (graft c.last_node place (trees c.site)) c.site in
      made-goes (Well n) at (element fe.name fe.attrs) s (λ t. Goes (formatting_replaced block s.nodes.made fe c.bookmark t))
      (formatting_replaced-well n block fe c.bookmark s (placed-well n block (r ∷ up) c h place fits) (block-stands n block (r ∷ up) c h place fits))

  -- no stop is a table
  pub not-table : (x : OpenNode N) → stops_in_scope n.tag Default x ≡ false → Plain n x.name
  not-table x h = by_test (n.same x.name (n.known Table)) (λ v. v ≡ false) (λ e.
      let is : n.tag x.name ≡ Table = tells x.name e in let stop : stops_in_scope n.tag Default x ≡ true = ap stops_scope is in let clash = sym h ∙ stop in cc)
      (λ _. refl)

  abbrev pub WellAfter : Turn (SiteOf N) → Type 0
  WellAfter (Next s) = Well n s
  WellAfter (Ended s) = Well n s

  -- an open node is in the document's tree
  pub open-stands : (k : ℕ) (s : SiteOf N) → Well n s → is_open k (stack s) ≡ true → StandsAt n k s
  open-stands k s h there = let x = any-each _ (is_node k) (stack s) h.each there in subst (λ (j : ℕ). StandsAt n j s) (eqb-true x.0.node k x.2) x.1

  -- Where the furthest block is found, the way up can begin.
  module _ (f : ℕ) (s : SiteOf N) (h : Well n s) (b : OpenNode N) (under : list_any (is_node b.node) (before (is_node f) (stack s)) ≡ true)
      (scope : in_scope (stops_in_scope n.tag Default) (is_node f) (stack s) ≡ true) where
    abbrev pub start : InnerLoop N
    start = record { last_node = b.node; bookmark = InPlace; site = s }

    pub all : (list_any (is_node f) (above b.node (stack s)) ≡ true) × (above f (above b.node (stack s)) ≡ above f (stack s))
        × (list_any (is_node b.node) (stack s) ≡ true)
    all = any-after (is_node f) (is_node b.node) (stack s) under (scope-open (stops_in_scope n.tag Default) f (stack s) scope)

    pub begins : Climbing n b.node (above b.node (stack s)) start
    begins = let b_stands = open-stands b.node s h all.2 in let out = pairs-after _ (is_node b.node) (stack s) h.order all.2 in
        let out_is : out.0.node ≡ b.node = eqb-true out.0.node b.node out.1 in
        record {
          counted = h.counted;
          low = (deep-there s.nodes.made (trees s) h.counted b.node 0 b_stands.0).0;
          pos = b_stands.1;
          each = each-map _ _ (λ x p. (inl p.0, p.1)) (stack s) h.each;
          behind = each-both _ _ _ (λ x p q. (p.0, subst (λ (k : ℕ). deep x.node k (trees s) ≡ 0) out_is q)) (above b.node (stack s))
              (each-among _ (above b.node (stack s)) (stack s) (among-after (is_node b.node) (stack s)) h.each) out.2;
          order = h.order;
          front = scope-front (λ x. Plain n x.name) (stops_in_scope n.tag Default) (is_node f) (is_node b.node)
              (in_scope (stops_in_scope n.tag Default) (is_node f)) (stack s) (λ x ys. refl) not-table scope under;
          block_in = (inl b_stands.0, b_stands.1);
          plain = h.plain;
        }

    pub inner-climbs : (a : At (is_node f) (above b.node (stack s)))
        → OnGoes (Climbing n b.node (a.at ∷ a.up)) (inner_loop n at b.node 0 (before (is_node f) (above b.node (stack s))) start)
    inner-climbs a = inner-loop-climbs n at b.node (before (is_node f) (above b.node (stack s))) (a.at ∷ a.up) 0 start
        (subst (λ (l : List (OpenNode N)). Climbing n b.node l start) a.is begins)

  by-well : (fe : EntryOf N) (s : SiteOf N) (h : Well n s) (b : OpenNode N) → list_any (is_node b.node) (before (is_node fe.node) (stack s)) ≡ true
      → in_scope (stops_in_scope n.tag Default) (is_node fe.node) (stack s) ≡ true → OnGoes WellAfter (with_furthest_block n at fe s b)
  by-well fe s h b under scope = let all_there = all fe.node s h b under scope in let a = at-nearest (is_node fe.node) (above b.node (stack s)) all_there.0 in
      goes-then (Climbing n b.node (a.at ∷ a.up)) WellAfter
      (inner_loop n at b.node 0 (before (is_node fe.node) (above b.node (stack s))) (record { last_node = b.node; bookmark = InPlace; site = s })) _
      (inner-climbs fe.node s h b under scope a) (λ c k. goes-then (Well n) WellAfter (after_inner_loop n at fe b.node (current (above fe.node (stack s))) c)
      (λ t. Goes (Next t)) (rw (← all_there.1, a.up_is) (ended-well fe b.node a.at a.up c k)) (λ t m. m))

  popped-well : (fe : EntryOf N) (s : SiteOf N) → Well n s → Well n (popped_with fe s)
  popped-well fe s h = listed-as n (popped_to (is_node fe.node) s) (without_entry fe.node s.items) (plain-without n fe.node s.items h.plain)
      (fewer n s _ (among-after (is_node fe.node) (stack s)) h)

  with-well : (fe : EntryOf N) (s : SiteOf N) → Well n s → OnGoes WellAfter (with_formatting_element n at fe s)
  with-well fe s h = cond_both (not (is_open fe.node (stack s))) _ _ (OnGoes WellAfter)
      (λ _. listed-as n (with_error TreeInBody at s) (without_entry fe.node s.items) (plain-without n fe.node s.items h.plain) (erred n s TreeInBody at h))
      (λ _. cond_both (not (in_scope (stops_in_scope n.tag Default) (is_node fe.node) (stack s))) _ _ (OnGoes WellAfter) (λ _. erred n s TreeInBody at h)
      (λ j. by_test (current_is (is_node fe.node) s) (λ z. OnGoes WellAfter (under (error_unless z TreeInBody at s))) (λ _. goes s h (not-false _ j))
      (λ _. goes (with_error TreeInBody at s) (erred n s TreeInBody at h) (not-false _ j)))) where
        under : SiteOf N → Outcome (Turn (SiteOf N))
        under t = option_map_or (with_furthest_block n at fe t) (furthest_block n.tag fe.node (stack t)) (Goes (Ended (popped_with fe t)))

        goes : (t : SiteOf N) → Well n t → in_scope (stops_in_scope n.tag Default) (is_node fe.node) (stack t) ≡ true → OnGoes WellAfter (under t)
        goes t k y = or-both (OnGoes WellAfter) (with_furthest_block n at fe t) (furthest_block n.tag fe.node (stack t)) _ (λ _. popped-well fe t k)
            (λ b e. by-well fe t k b (special-there n.tag (below fe.node (stack t)) b e) y)

  pub outer-turn-well : (name : N) (s : SiteOf N) → Well n s → OnGoes WellAfter (outer_turn n at name s)
  outer-turn-well name s h = or-both (OnGoes WellAfter) (λ f. with_formatting_element n at f s) (find_entry n.same name s.items) _
      (λ _. other-well n at name s h) (λ f _. with-well f s h)

  outer-loop-well : (k : ℕ) (name : N) (s : SiteOf N) → Well n s → OnGoes (Well n) (outer_loop n at k name s)
  outer-loop-well zero name s h = h
  outer-loop-well (suc k) name s h =
      goes-then WellAfter (Well n) (outer_turn n at name s) (next_turn (outer_loop n at k name)) (outer-turn-well name s h) (next (outer-loop-well k name))
    where
      next : ((t : SiteOf N) → Well n t → OnGoes (Well n) (outer_loop n at k name t)) → (t : Turn (SiteOf N)) → WellAfter t
          → OnGoes (Well n) (next_turn (outer_loop n at k name) t)
      next r (Next t) m = r t m
      next r (Ended t) m = m

  -- the adoption agency keeps it
  pub adopted-well : (name : N) (s : SiteOf N) → Well n s → OnGoes (Well n) (adopted n at name s)
  adopted-well name s h =
      cond_both (is_unlisted n at name s) _ _ (OnGoes (Well n)) (λ _. fewer n s _ (among-drop (stack s)) h) (λ _. outer-loop-well 8 name s h)
