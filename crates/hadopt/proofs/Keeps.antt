-- What a turn of the adoption agency's outer loop keeps, and what its steps ask. In the inner loop the formatting element stays open, its entry
-- stays in the list, and so does the bookmark.
use Rattle.hadopt.proofs.Names.{◌≡◌, ◌≢◌, ℕ, suc, ◌<◌, true, not, eqb, leb, cond, ◌||◌, List, [], ◌∷◌, is_some, refl, sym, ◌∙◌, ap, arith, eqb-true, eq-eqb, ne_eqb, cond_both, or-true, list_any, before, OpenNode, is_node, Listed, marker, entry, is_entry, without_entry, for_node, with_node, Bookmark, InPlace, After, numbers, InnerLoop, entries_for, inner_turn, inner_loop, Each, Bool, false, Some, None, nat_eq, subst, Ok, Err, ◌⊎◌, inl, inr, Result, IfOk, IfSome, Refusal, some_same, is_open, in_scope, furthest_block, above, below, current, Forest, AreCounted, place_node, at-most, deep-there, is-there, deep, deep-is, deep-self, place_in, stops_in_scope, Default, EntryOf, find_entry, tag_of, ErrorCode, Goes, SiteOf, stack, trees, error_unless, outer_turn, IsSound, AreDifferent, WithFurthestBlock, option_map_or, TreeInBody, current_is, Ended, popped_with, with_furthest_block, with_formatting_element, with_error, topmost_special, IsTrue, has_bookmark, any-is_entry, has_bookmark-after, turn_of, TurnGives, AfterInnerLoop}
use Rattle.hadopt.proofs.Lists.{each-map, each-both, pairs-map, Among, skip, keep, among-after, each-among, front-among}
use Rattle.hadopt.proofs.Climbing.{OnGoes, goes-then, turn-goes, Climbing}
use Rattle.hadopt.proofs.Choices.{by_test, or-on}
use Rattle.hadopt.proofs.Searching.{any-after, at-nearest, scope-open, special-there}
use Rattle.hadopt.proofs.Settling.{Well, place-fits}
use Rattle.hadopt.proofs.Turning.{WellAfter, erred, outer-turn-well, open-stands, inner-climbs}
use Rattle.hadopt.proofs.Keeping.{to-well, from-well, numbers-tell}
use Rattle.hadopt.specs.declared.adopting.Turn as code
use Rattle.hadopt.specs.declared.adopting.Turn.TheVariants as turn

abbrev Has : ℕ → List (Listed ℕ) → Type 0
Has k items = list_any (is_entry k) items ≡ true

has-without : (k x : ℕ) (items : List (Listed ℕ)) → k ≢ x → Has k items → Has k (without_entry x items)
has-without k x [] apart h = h
has-without k x (marker ∷ items) apart h = has-without k x items apart h
has-without k x (entry e ∷ items) apart h = by_test (eqb e.node x) (λ v. Has k (cond (not v) (entry e ∷ without_entry x items) (without_entry x items)))
    (λ is. has-without k x items apart (rw (ne_eqb e.node k (λ same. apart (sym same ∙ eqb-true e.node x is))) at h))
    (λ _. or-on (eqb e.node k) (has-without k x items apart) h)

has-with : (k x new : ℕ) (items : List (Listed ℕ)) → k ≢ x → Has k items → Has k (with_node x new items)
has-with k x new [] apart h = h
has-with k x new (marker ∷ items) apart h = has-with k x new items apart h
has-with k x new (entry e ∷ items) apart h = by_test (eqb e.node x) (λ v. Has k (cond v (for_node new (entry e) ∷ items) (entry e ∷ with_node x new items)))
    (λ is. let rest = rw (ne_eqb e.node k (λ same. apart (sym same ∙ eqb-true e.node x is))) at h in rw (rest) (or-true (eqb new k)))
    (λ _. or-on (eqb e.node k) (has-with k x new items apart) h)

has-new : (x new : ℕ) (items : List (Listed ℕ)) → Has x items → Has new (with_node x new items)
has-new x new [] h = cc
has-new x new (marker ∷ items) h = has-new x new items h
has-new x new (entry e ∷ items) h = by_test (eqb e.node x)
    (λ v. (v || list_any (is_entry x) items) ≡ true → Has new (cond v (for_node new (entry e) ∷ items) (entry e ∷ with_node x new items)))
    (λ _ _. rw (eq-eqb new new refl) refl) (λ _ k. or-on (eqb e.node new) (λ _. has-new x new items k) (or-true (eqb e.node new))) h

-- a bookmark is in place, or after an entry that no node on the way has, nor F
abbrev pub IsMarked : ℕ → Bookmark → List (OpenNode ℕ) → List (Listed ℕ) → Type 0
IsMarked f InPlace way items = Unit {0}
IsMarked f (After k) way items = Has k items × (f ≢ k) × Each (λ x. k ≢ x.node) way

pub record Booked (f : ℕ) (way : List (OpenNode ℕ)) (c : InnerLoop ℕ) : Type 0 where
  pub low : f < c.site.nodes.made
  pub has : Has f c.site.items
  pub others : Each (λ x. (f ≢ x.node) × (x.node < c.site.nodes.made)) way
  pub marked : IsMarked f c.bookmark way c.site.items

has-for : (k passed x : ℕ) (items : List (Listed ℕ)) → k ≢ x → Has k items → Has k (entries_for passed x items)
has-for k passed x items apart h = cond_both (leb 3 passed) _ _ (Has k) (λ _. has-without k x items apart h) (λ _. h)

marked-for : (f passed : ℕ) (b : Bookmark) (x : OpenNode ℕ) (way : List (OpenNode ℕ)) (items : List (Listed ℕ)) → IsMarked f b (x ∷ way) items
    → IsMarked f b way (entries_for passed x.node items)
marked-for f passed InPlace x way items m = tt
marked-for f passed (After k) x way items m = (has-for k passed x.node items m.2.0 m.0, m.1, m.2.1)

-- of the new entry, too
marked-with : (f passed new : ℕ) (b : Bookmark) (x : OpenNode ℕ) (way : List (OpenNode ℕ)) (items : List (Listed ℕ)) → IsMarked f b (x ∷ way) items
    → IsMarked f b way (with_node x.node new (entries_for passed x.node items))
marked-with f passed new InPlace x way items m = tt
marked-with f passed new (After k) x way items m =
    (has-with k x.node new (entries_for passed x.node items) m.2.0 (has-for k passed x.node items m.2.0 m.0), m.1, m.2.1)

one-booked : (at f block passed : ℕ) (x : OpenNode ℕ) (way : List (OpenNode ℕ)) (c : InnerLoop ℕ) → Booked f (x ∷ way) c
    → OnGoes (Booked f way) (inner_turn numbers at block passed x c)
one-booked at f block passed x way c h = let items = entries_for passed x.node c.site.items in let new = c.site.nodes.made in
    let has = has-for f passed x.node c.site.items h.others.0.0 h.has in
    turn-goes numbers (Booked f way) at block passed x c
    (record { low = h.low; has = has; others = h.others.1; marked = marked-for f passed c.bookmark x way c.site.items h.marked }) (λ e is. record {
      low = omega (arith, h.low);
      has = has-with f x.node new items h.others.0.0 has;
      others = each-map _ _ (λ y p. (p.0, omega (arith, p.1))) way h.others.1;
      marked = cond_both (eqb c.last_node block) (After new) c.bookmark (λ b. IsMarked f b way (with_node x.node new items))
          (λ _. let there = has-new x.node new items (any-is_entry x.node items ∙ ap is_some is) in
          (there, (λ e. omega (arith, h.low, e)), each-map _ _ (λ y p. λ e. omega (arith, p.1, e)) way h.others.1))
          (λ _. marked-with f passed new c.bookmark x way c.site.items h.marked);
    })

pub inner-loop-booked : (at f block passed : ℕ) (way : List (OpenNode ℕ)) (c : InnerLoop ℕ) → Booked f way c
    → OnGoes (Booked f []) (inner_loop numbers at block passed way c)
inner-loop-booked at f block passed [] c h = h
inner-loop-booked at f block passed (x ∷ way) c h = goes-then (Booked f way) (Booked f []) (inner_turn numbers at block passed x c)
    (inner_loop numbers at block (suc passed) way) (one-booked at f block passed x way c h) (λ d k. inner-loop-booked at f block (suc passed) way d k)

-- what the move to the bookmark asks
pub bookmark-there : (f : ℕ) (b : Bookmark) (items : List (Listed ℕ)) → IsMarked f b [] items → IsTrue (has_bookmark f b items)
bookmark-there f InPlace items m = refl
bookmark-there f (After k) items m = has_bookmark-after f k items (rw (ne_eqb f k m.1) refl) m.0

-- none on the way is F
pub way-others : (f : ℕ) (xs : List (OpenNode ℕ)) → Each (λ x. f ≢ x.node) (before (is_node f) xs)
way-others f [] = tt
way-others f (x ∷ xs) = cond_both (eqb x.node f) [] _ (Each (λ x. f ≢ x.node)) (λ _. tt) (λ e.
    ((λ same. let clash = sym e ∙ eq-eqb x.node f (sym same) in cc), way-others f xs))

-- What a turn of the outer loop keeps.

before-each : {X : Type 0} (P : X → Type 0) (p : X → Bool) (xs : List X) → Each P xs → Each P (before p xs)
before-each P p [] e = tt
before-each P p (x ∷ xs) e = cond_both (p x) [] _ (Each P) (λ _. tt) (λ _. (e.0, before-each P p xs e.1))

there-low : (made : ℕ) (g : Forest ℕ) (counted : AreCounted made g) (x last_node : ℕ) → (0 < deep x 0 g) ⊎ (0 < deep x last_node g) → x < made
there-low made g counted x last_node (inl a) = (deep-there made g counted x 0 a).0
there-low made g counted x last_node (inr a) = (deep-there made g counted x last_node a).0

current-low : (made : ℕ) (g : Forest ℕ) (counted : AreCounted made g) (last_node : ℕ) (up : List (OpenNode ℕ))
    → Each (λ x. (0 < deep x.node 0 g) × (deep x.node last_node g ≡ 0)) up → IfSome (current up) (λ x. x.node < made)
current-low made g counted last_node [] e = tt
current-low made g counted last_node (x ∷ up) e = (deep-there made g counted x.node 0 e.0.0).0

any-among : {X : Type 0} (p : X → Bool) (x : X) (xs ys : List X) → p x ≡ true → Among (x ∷ xs) ys → list_any p ys ≡ true
any-among p x xs [] is a = elim a [ ]
any-among p x xs (y ∷ ys) is (skip a) = rw (any-among p x xs ys is a) (or-true (p y))
any-among p x xs (y ∷ ys) is (keep a) = rw (is) refl

-- an entry that is found is in the list
pub found-entry : (name : ℕ) (items : List (Listed ℕ)) (e : EntryOf ℕ) → find_entry nat_eq name items ≡ Some e → list_any (is_entry e.node) items ≡ true
found-entry name [] e is = cc
found-entry name (marker ∷ items) e is = cc
found-entry name (entry d ∷ items) e is =
    cond_both (nat_eq name d.name) (Some d) (find_entry nat_eq name items) (λ o. o ≡ Some e → list_any (is_entry e.node) (entry d ∷ items) ≡ true)
    (λ _ s. rw (some_same d e s, eq-eqb e.node e.node refl) refl) (λ _ s. rw (found-entry name items e s) (or-true (is_entry e.node (entry d)))) is

unless-stack : (v : Bool) (code : ErrorCode) (at : ℕ) (s : SiteOf ℕ) → stack (error_unless v code at s) ≡ stack s
unless-stack true code at s = refl
unless-stack false code at s = refl

-- where the furthest block is found, the way up can begin, and where it goes on, it can be settled
module _ (s : SiteOf ℕ) (f : ℕ) (b : OpenNode ℕ) (h : Well numbers s) (scope : in_scope (stops_in_scope tag_of Default) (is_node f) (stack s) ≡ true)
    (has : list_any (is_entry f) s.items ≡ true) (under : list_any (is_node b.node) (before (is_node f) (stack s)) ≡ true) where
  is_open_now : is_open f (stack s) ≡ true
  is_open_now = scope-open (stops_in_scope tag_of Default) f (stack s) scope

  abbrev way : List (OpenNode ℕ)
  way = before (is_node f) (above b.node (stack s))

  abbrev begin : InnerLoop ℕ
  begin = record { last_node = b.node; bookmark = InPlace; site = s }

  there : (list_any (is_node f) (above b.node (stack s)) ≡ true) × (above f (above b.node (stack s)) ≡ above f (stack s))
      × (list_any (is_node b.node) (stack s) ≡ true)
  there = any-after (is_node f) (is_node b.node) (stack s) under is_open_now

  b-stands : (0 < deep b.node 0 (trees s)) × (0 < b.node)
  b-stands = open-stands numbers numbers-tell 0 b.node s h there.2

  way-low : Each (λ x. x.node < s.nodes.made) way
  way-low = let up = each-among _ (above b.node (stack s)) (stack s) (among-after (is_node b.node) (stack s)) h.each in
      before-each _ (is_node f) (above b.node (stack s))
      (each-map _ _ (λ x p. (deep-there s.nodes.made (trees s) h.counted x.node 0 p.0).0) (above b.node (stack s)) up)

  booked-start : Booked f way begin
  booked-start = record {
    low = (deep-there s.nodes.made (trees s) h.counted f 0 (open-stands numbers numbers-tell 0 f s h is_open_now).0).0;
    has = has;
    others = each-both _ _ _ (λ x p q. (p, q)) way (way-others f (above b.node (stack s))) way-low;
    marked = tt;
  }

  pub after-there : (at : ℕ) (c : InnerLoop ℕ) → inner_loop numbers at b.node 0 way begin ≡ Goes c → AfterInnerLoop f b.node (current (above f (stack s))) c
  after-there at c e = let a = at-nearest (is_node f) (above b.node (stack s)) there.0 in
      let k : Climbing numbers b.node (a.at ∷ a.up) c =
      subst (OnGoes (Climbing numbers b.node (a.at ∷ a.up))) e (inner-climbs numbers numbers-tell at f s h b under scope a) in
      let m : Booked f [] c = subst (OnGoes (Booked f [])) e (inner-loop-booked at f b.node 0 way begin booked-start) in
      let fits = place-fits numbers b.node (a.at ∷ a.up) c k a.at a.up refl in
      let common_ancestor : current (above f (stack s)) ≡ current a.up = ap current (sym there.1 ∙ a.up_is) in
      record {
        begun = k.pos;
        last_in = k.low;
        block_begun = k.block_in.1;
        block_in = there-low c.site.nodes.made (trees c.site) k.counted b.node c.last_node k.block_in.0;
        ancestor_in = rw (common_ancestor) (current-low c.site.nodes.made (trees c.site) k.counted c.last_node a.up k.behind.1);
        place_outside = rw (common_ancestor) (sym (deep-is (place_node (place_in numbers (current a.up) c.site)) c.last_node (trees c.site)
            (at-most c.site.nodes.made (trees c.site) k.counted c.last_node)) ∙ fits.outside);
        formatting_open = any-among (is_node f) a.at a.up (stack c.site) a.sought (front-among _ (a.at ∷ a.up) (stack c.site) k.front);
        entry = m.has;
        bookmark = bookmark-there f c.bookmark c.site.items m.marked;
      }

  low : (x : OpenNode ℕ) → 0 < deep x.node 0 (trees s) → x.node < s.nodes.made
  low x there = (deep-there s.nodes.made (trees s) h.counted x.node 0 there).0

  -- no node is inside itself, and each is somewhere
  others : (x y : OpenNode ℕ) → 0 < deep x.node 0 (trees s) → deep y.node x.node (trees s) ≡ 0 → x.node ≢ y.node
  others x y there out same = let within : deep x.node x.node (trees s) ≡ 0 = subst (λ (k : ℕ). deep k x.node (trees s) ≡ 0) (sym same) out in
      omega (arith, within, deep-self x.node (trees s), is-there s.nodes.made (trees s) h.counted x.node (low x there))

  different : AreDifferent s
  different = record {
    made = each-map _ _ (λ x p. low x p.0) (stack s) h.each;
    apart = pairs-map _ _ _ (λ x y p q out. ne_eqb x.node y.node (others x y p.0 out)) (stack s) h.each h.order;
  }

  pub furthest-block-there : WithFurthestBlock f b.node s
  furthest-block-there = record { begun = b-stands.1; block_in = low b b-stands.0; different = different; after = after-there }

-- .. also after the error that the formatting element is not the current node
pub blocked-stands : (at : ℕ) (s t : SiteOf ℕ) (f : ℕ) (block : OpenNode ℕ) → Goes (with_error TreeInBody at s) ≡ Goes t → IsSound numbers s
    → in_scope (stops_in_scope tag_of Default) (is_node f) (stack s) ≡ true → list_any (is_entry f) s.items ≡ true
    → furthest_block tag_of f (stack s) ≡ Some block → WithFurthestBlock f block.node t
blocked-stands at s t f block told k scope e b = let same : with_error TreeInBody at s ≡ t = cc in
    let h = erred numbers s TreeInBody at (to-well numbers s k) in
    subst (λ (u : SiteOf ℕ). WithFurthestBlock f block.node u) same
    (furthest-block-there (with_error TreeInBody at s) f block h scope e (special-there tag_of (below f (stack s)) block b))

-- a formatting element with a furthest block is not the current node
blocked-current : (f : ℕ) (block : OpenNode ℕ) (xs : List (OpenNode ℕ)) → furthest_block tag_of f xs ≡ Some block
    → option_map_or (is_node f) (current xs) false ≡ false
blocked-current f block [] b = refl
blocked-current f block (x ∷ up) b =
    by_test (is_node f x) (λ v. topmost_special tag_of (cond v [] (x ∷ before (is_node f) up)) ≡ Some block → v ≡ false) (λ _ k. cc) (λ _ _. refl) b

pub outer-turn-keeps : (at name : ℕ) (s t : SiteOf ℕ) (turn : code.Turn) → IsSound numbers s → outer_turn numbers at name s ≡ Goes (turn_of turn t)
    → IsSound numbers t
outer-turn-keeps at name s t turn.Next k is =
    from-well numbers t (subst (OnGoes (WellAfter numbers numbers-tell at)) is (outer-turn-well numbers numbers-tell at name s (to-well numbers s k)))
outer-turn-keeps at name s t turn.Ended k is =
    from-well numbers t (subst (OnGoes (WellAfter numbers numbers-tell at)) is (outer-turn-well numbers numbers-tell at name s (to-well numbers s k)))

-- a turn with a formatting element in scope, which is an error unless it is the current node
module _ (at : ℕ) (f : EntryOf ℕ) (s t : SiteOf ℕ) (scope : in_scope (stops_in_scope tag_of Default) (is_node f.node) (stack s) ≡ true) where
  abbrev told : SiteOf ℕ
  told = error_unless (current_is (is_node f.node) s) TreeInBody at s

  in-scope-turn : with_formatting_element numbers at f s
      ≡ option_map_or (with_furthest_block numbers at f told) (furthest_block tag_of f.node (stack s)) (Goes (Ended (popped_with f told)))
  in-scope-turn = rw (scope-open (stops_in_scope tag_of Default) f.node (stack s) scope, scope)
      (ap (λ l. option_map_or (with_furthest_block numbers at f told) (furthest_block tag_of f.node l) (Goes (Ended (popped_with f told))))
      (unless-stack (current_is (is_node f.node) s) TreeInBody at s))

  pub blocked-turn : (block : OpenNode ℕ) → Goes (with_error TreeInBody at s) ≡ Goes t → furthest_block tag_of f.node (stack s) ≡ Some block
      → with_formatting_element numbers at f s ≡ with_furthest_block numbers at f t block
  blocked-turn block is b = let same : with_error TreeInBody at s ≡ t = cc in
      in-scope-turn ∙ ap (λ o. option_map_or (with_furthest_block numbers at f told) o (Goes (Ended (popped_with f told)))) b
      ∙ ap (λ v. with_furthest_block numbers at f (error_unless v TreeInBody at s) block) (blocked-current f.node block (stack s) b)
      ∙ ap (λ u. with_furthest_block numbers at f u block) same

  pub unblocked-turn : Goes told ≡ Goes t → furthest_block tag_of f.node (stack s) ≡ None
      → with_formatting_element numbers at f s ≡ Goes (Ended (popped_with f t))
  unblocked-turn is b = let same : told ≡ t = cc in
      in-scope-turn ∙ ap (λ o. option_map_or (with_furthest_block numbers at f told) o (Goes (Ended (popped_with f told)))) b
      ∙ ap (λ u. Goes (Ended (popped_with f u))) same

pub turn-keeps : (at name : ℕ) (s new : SiteOf ℕ) (r : Result code.Turn Refusal) → IsSound numbers s → TurnGives r new (outer_turn numbers at name s)
    → IfOk r (λ t. IsSound numbers new)
turn-keeps at name s new (Ok t) k is = outer-turn-keeps at name s new t k is
turn-keeps at name s new (Err e) k is = tt
