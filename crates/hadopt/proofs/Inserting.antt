-- What is inserted keeps what the open nodes need, and what the operations keep, the calls that do them keep.
use Rattle.hadopt.proofs.Names.{◌≡◌, ◌≢◌, ℕ, zero, suc, ◌+◌, ◌<◌, Bool, true, false, leb, cond, List, [], ◌∷◌, Option, Some, None, cond_both, refl, sym, ◌∙◌, subst, arith, inl, inr, find, reverse, is_some, is_none, length, ◌&&◌, encode_utf8, option_map_or, Attribute, What, document, element, text, Forest, times, change_what, parent_of, AreCounted, place_node, graft, make, char_into, with_char, text_before, Place, LastIn, Before, before, changed_at, OpenNode, current, above, is_named, InPlace, EntryOf, Listed, marker, entry, for_node, entry_at, Table, TooManyNodes, NotBefore, below-document, in-document, at-most, not-there, deep-there, times-new, counted-new, deep, deep-is, deep-self, deep-new, deep-newest, graft-apart, Naming, Goes, Refused, SiteOf, stack, trees, with_trees, with_stack, from_top, open_node, is_fostering, beside, foster_place, place, added, inserted, put, with_missing, stops_going_back, renewed, renewed_each, reconstructed, InnerLoop, PlaceStands, slice_get, drop, if◌then◌else◌, is_open, ◌≤◌, numbers, ◌==◌, Ok, Err, Result, IfOk, entries, without_entry, Placed, Refusal, Gives, listed, put_each, IsSound, Outcome, and_then, with_items, comment, not, list_any, after_marker, ne_eqb, lt-leb, tree, none, Nodes, OpenNodes, is_present, attributes_of, with_attribute, add_attribute, tree_at-among, counted-what, Begins, deep-what, eqb-suc-zero, cleared, is_equal, most_equal, without_earliest, with_room, filter, ltb, ParseError}
use Rattle.hadopt.proofs.Lists.{each-map, pairs-map, among-all, among-after, here, Among, each-among, skip, keep, empty}
use Rattle.hadopt.proofs.Choices.{or-both, by_test}
use Rattle.hadopt.proofs.Climbing.{OnGoes, goes-then, made-goes, inserted-goes, PlainEntries, Climbing, goes-map, Plain, plain-without}
use Rattle.hadopt.proofs.Searching.{Member, last-behind, found-member}
use Rattle.hadopt.proofs.Settling.{Well, Fits, document-fits, before-fits, current-fits, under-fits, placed-well, block-stands}
use Rattle.hadopt.proofs.Keeping.{to-well, from-well}
use Rattle.hadopt.proofs.Turning.{fewer}

module _ {N : Type 0} (made : ℕ) (f : Forest N) (counted : AreCounted made f) where
  -- the document was made
  pub count-some : 0 < made
  count-some = let some : made ≢ 0 = λ e. one counted.begins (not-there made f counted 0 (omega (arith, e))) in omega arith where
    one : Begins f → times 0 f ≡ 0 → ⊥
    one (kids, rest, is) z = let z' : 1 + (times 0 kids + times 0 rest) ≡ 0 = subst (λ (g : Forest N). times 0 g ≡ 0) is z in omega arith

  -- a place in the document's tree
  stands-deep : (p : Place) → PlaceStands p f → (0 < deep (place_node p) 0 f) × NotBefore 0 p
  stands-deep (LastIn p) is = (omega (arith, deep-is p 0 f (at-most made f counted 0), is), tt)
  stands-deep (Before z) is = let b = below-document made f counted z is in (b.0, λ e. omega (arith, b.1, e))

  deep-stands : (p : Place) → 0 < deep (place_node p) 0 f → NotBefore 0 p → PlaceStands p f
  deep-stands (LastIn p) a under = omega (arith, a, deep-is p 0 f (at-most made f counted 0), tree_at-among p 0 f, at-most made f counted p)
  deep-stands (Before z) a under = let apart : z ≢ 0 = under in in-document made f counted z a (omega arith)

module _ {N : Type 0} (n : Naming N) where
  -- what a node is has changed
  pub what-well : (k : ℕ) (g : What N → What N) (s : SiteOf N) → g document ≡ document → Well n s → Well n (with_trees (change_what k g (trees s)) s)
  what-well k g s same h = record {
    counted = counted-what s.nodes.made k g (trees s) same h.counted;
    each = each-map _ _ (λ x p. (rw (deep-what x.node 0 k g (trees s)) p.0, p.1)) (stack s) h.each;
    order = pairs-map _ _ _ (λ a b p q r. deep-what b.node a.node k g (trees s) ∙ r) (stack s) h.each h.order;
    plain = h.plain;
  }

  pub missing-well : (k : ℕ) (attrs : List (Attribute N)) (s : SiteOf N) → Well n s → Well n (with_trees (with_missing n k attrs (trees s)) s)
  missing-well k [] s h = h
  missing-well k (a ∷ attrs) s h = cond_both (is_present n.same a.0 (attributes_of k (trees s))) (trees s) (add_attribute k a (trees s))
      (λ f. Well n (with_trees (with_missing n k attrs f) s)) (λ _. missing-well k attrs s h)
      (λ _. missing-well k attrs (with_trees (add_attribute k a (trees s)) s) (what-well k (with_attribute a) s refl h))

  module _ (w : What N) (s : SiteOf N) (h : Well n s) where
    abbrev count : ℕ
    count = s.nodes.made

    abbrev new_site : SiteOf N
    new_site = record s { nodes = make w s.nodes }

    -- a new node, as a last one on the way
    abbrev pub loose : InnerLoop N
    loose = record { last_node = count; bookmark = InPlace; site = new_site }

    old : (x : ℕ) → 0 < deep x 0 (trees s) → x ≢ count
    old x a e = omega (arith, (deep-there count (trees s) h.counted x 0 a).0)

    pos : 0 < count
    pos = count-some count (trees s) h.counted

    not0 : 0 ≢ count
    not0 e = omega (arith, pos)

    absent : times count (trees s) ≡ 0
    absent = not-there count (trees s) h.counted count (omega arith)

    behind : (x : OpenNode N) → (0 < deep x.node 0 (trees s)) × (0 < x.node) → (0 < deep x.node 0 (trees new_site)) × (deep x.node count (trees new_site) ≡ 0)
    behind x p = (rw (deep-new x.node 0 count w (trees s) not0) p.0, deep-newest x.node count w (trees s) absent (old x.node p.0))

    pub loose-climbs : Climbing n count (stack s) loose
    loose-climbs = record {
      counted = counted-new count w (trees s) h.counted;
      low = omega arith;
      pos = pos;
      each = each-map _ _ (λ x p. (inl (behind x p).0, p.1)) (stack s) h.each;
      behind = each-map _ _ behind (stack s) h.each;
      order = pairs-map _ _ _ (λ a b p q r. deep-new b.node a.node count w (trees s) (old a.node p.0) ∙ r) (stack s) h.each h.order;
      front = here;
      block_in = (inr (omega (arith, deep-self count (trees new_site), times-new count w (trees s) absent)), pos);
      plain = h.plain;
    }

    abbrev pub FitsHere : Place → Type 0
    FitsHere p = Fits n (stack s) loose p

    pub first-fits : FitsHere (LastIn (open_node (from_top 0 s)))
    first-fits = go (stack s) refl where
      go : (l : List (OpenNode N)) → stack s ≡ l → FitsHere (LastIn (open_node (slice_get (reverse l) 0)))
      go [] e = document-fits n count (stack s) loose loose-climbs
      go (x ∷ xs) e = let l = last-behind (λ y. Unit {0}) x xs (x ∷ xs) here in rw (l.1) (under-fits n count (stack s) loose loose-climbs l.0 (rw e l.2))

    pub here-fits : FitsHere (LastIn (open_node (current (stack s))))
    here-fits = current-fits n count (stack s) loose loose-climbs (stack s) (among-all (stack s))

    pub root-fits : FitsHere (LastIn 0)
    root-fits = document-fits n count (stack s) loose loose-climbs

    beside-fits : (z : OpenNode N) → Member z (stack s) → FitsHere (beside s z)
    beside-fits z m = cond_both (is_some (parent_of z.node (trees s))) _ _ FitsHere (λ _. before-fits n count (stack s) loose loose-climbs z m)
        (λ _. current-fits n count (stack s) loose loose-climbs (above z.node (stack s)) (among-after _ (stack s)))

    foster-fits : FitsHere (foster_place n s)
    foster-fits = or-both FitsHere (beside s) (find (is_named n.same (n.known Table)) (stack s)) _ (λ _. first-fits)
        (λ z e. beside-fits z (found-member (is_named n.same (n.known Table)) (stack s) z e))

    -- the appropriate place
    pub place-fits : FitsHere (place n s)
    place-fits =
        cond_both (s.foster && option_map_or (λ x. is_fostering (n.tag x.name)) (current (stack s)) false) _ _ FitsHere (λ _. foster-fits) (λ _. here-fits)

    -- a place in the document's tree is as good as any
    fits : (p : Place) → 0 < deep (place_node p) 0 (trees s) → NotBefore 0 p → FitsHere p
    fits p a under = let out = deep-newest (place_node p) count w (trees s) absent (old (place_node p) a) in
        record { to_document = rw (deep-new (place_node p) 0 count w (trees s) not0) a; outside = out; under = under; front = here }

    pub standing-fits : (p : Place) → PlaceStands p (trees s) → FitsHere p
    standing-fits p is = let d = stands-deep count (trees s) h.counted p is in fits p d.0 d.1

    pub fits-standing : (p : Place) → FitsHere p → PlaceStands p (trees s)
    fits-standing p f = deep-stands count (trees s) h.counted p (rw (← deep-new (place_node p) 0 count w (trees s) not0) f.to_document) f.under

    module _ (p : Place) (fits : FitsHere p) where
      abbrev there_site : SiteOf N
      there_site = with_trees (graft count p (trees new_site)) new_site

      pub there-well : Well n there_site
      there-well = placed-well n count (stack s) loose loose-climbs p fits

      -- what is outside of the new node stays as deep as it was
      apart : (x y : ℕ) → deep x count (trees new_site) ≡ 0 → deep x y (trees there_site) ≡ deep x y (trees new_site)
      apart x y out = graft-apart x y count p (trees new_site)
          (sym (deep-is x count (trees new_site) (at-most (count + 1) (trees new_site) loose-climbs.counted count)) ∙ out)

      pub there-deep : 0 < deep (place_node p) 0 (trees there_site)
      there-deep = rw (apart (place_node p) 0 fits.outside) fits.to_document

      pub pushed-well : (name : N) → Well n (with_stack (record { node = count; name = name } ∷ stack s) there_site)
      pushed-well name = record {
        counted = there-well.counted;
        each = (block-stands n count (stack s) loose loose-climbs p fits, there-well.each);
        order = (each-map _ _ (λ x q. apart x.node count q.1 ∙ q.1) (stack s) loose-climbs.behind, there-well.order);
        plain = h.plain;
      }

      pub added-well : (at : ℕ) → OnGoes (Well n) (added at w p s)
      added-well at = made-goes (Well n) at w s (λ t. Goes (with_trees (graft s.nodes.made p (trees t)) t)) there-well

  pub inserted-well : (at : ℕ) (name : N) (attrs : List (Attribute N)) (p : Place) (s : SiteOf N) (h : Well n s) → FitsHere (element name attrs) s h p
      → OnGoes (Well n) (inserted at name attrs p s)
  inserted-well at name attrs p s h fits = inserted-goes (Well n) at name attrs p s (pushed-well (element name attrs) s h p fits name)

  -- a new text comes, or one grows
  put-goes : (P : SiteOf N → Type 0) (at c : ℕ) (p : Place) (s : SiteOf N) → P (record s { nodes = char_into c p None s.nodes })
      → ((k : ℕ) → P (record s { nodes = char_into c p (Some k) s.nodes })) → OnGoes P (put at c p s)
  put-goes P at c p s new grown = go (text_before p (trees s)) (is_none (text_before p (trees s)) && leb s.nodes.limit s.nodes.made) where
    go : (o : Option ℕ) (v : Bool) → OnGoes P (cond v (Refused (TooManyNodes at)) (Goes (record s { nodes = char_into c p o s.nodes })))
    go o true = tt
    go None false = new
    go (Some k) false = grown k

  pub put-well : (at c : ℕ) (p : Place) (s : SiteOf N) (h : Well n s) → FitsHere (text (encode_utf8 c)) s h p → OnGoes (Well n) (put at c p s)
  put-well at c p s h fits = put-goes (Well n) at c p s (there-well (text (encode_utf8 c)) s h p fits) (λ k. what-well k (with_char c) s refl h)

  -- the place is still in the document's tree
  pub put-stands : (at c : ℕ) (p : Place) (s : SiteOf N) (h : Well n s) → PlaceStands p (trees s) → OnGoes (λ t. PlaceStands p (trees t)) (put at c p s)
  put-stands at c p s h is = let d = stands-deep s.nodes.made (trees s) h.counted p is in let fits = standing-fits (text (encode_utf8 c)) s h p is in
      put-goes (λ t. PlaceStands p (trees t)) at c p s
      (deep-stands (s.nodes.made + 1) _ (there-well (text (encode_utf8 c)) s h p fits).counted p (there-deep (text (encode_utf8 c)) s h p fits) d.1)
      (λ k. deep-stands s.nodes.made _ (what-well k (with_char c) s refl h).counted p (rw (deep-what (place_node p) 0 k (with_char c) (trees s)) d.0) d.1)

  plain-at : (back new : ℕ) (items : List (Listed N)) → PlainEntries n items → PlainEntries n (changed_at back (for_node new) items)
  plain-at back new [] h = tt
  plain-at zero new (marker ∷ items) h = h
  plain-at zero new (entry e ∷ items) h = h
  plain-at (suc k) new (marker ∷ items) h = plain-at k new items h
  plain-at (suc k) new (entry e ∷ items) h = (h.0, plain-at k new items h.1)

  module _ (at : ℕ) where
    renewed-well : (back : ℕ) (e : EntryOf N) (s : SiteOf N) → Well n s → OnGoes (Well n) (renewed n at back e s)
    renewed-well back e s h = goes-then (Well n) (Well n) (inserted at e.name e.attrs (place n s) s) _
        (inserted-well at e.name e.attrs (place n s) s h (place-fits (element e.name e.attrs) s h))
        (λ t k. record { counted = k.counted; each = k.each; order = k.order; plain = plain-at back s.nodes.made t.items k.plain })

    each-well : (back : ℕ) (s : SiteOf N) → Well n s → OnGoes (Well n) (renewed_each n at back s)
    each-well zero s h = h
    each-well (suc back) s h = goes-then (Well n) (Well n) (option_map_or (λ e. renewed n at back e s) (entry_at back s.items) (Goes s)) _
        (or-both (OnGoes (Well n)) _ (entry_at back s.items) _ (λ _. h) (λ e _. renewed-well back e s h)) (λ t k. each-well back t k)

    pub reconstructed-well : (s : SiteOf N) → Well n s → OnGoes (Well n) (reconstructed n at s)
    reconstructed-well s h = each-well (length (before (stops_going_back s) s.items)) s h

-- Going back over the list.

-- whether going back stops at the item with this many after it
abbrev pub stops_at : SiteOf ℕ → ℕ → List (Listed ℕ) → Bool
stops_at s back items = option_map_or (λ e. is_open e.node (stack s)) (entry_at back items) true

pub stopped : (s : SiteOf ℕ) (items : List (Listed ℕ)) (back : ℕ) → stops_at s back items ≡ true → length (before (stops_going_back s) (drop back items)) ≡ 0
stopped s [] zero stops = refl
stopped s [] (suc back) stops = refl
stopped s (marker ∷ items) zero stops = refl
stopped s (entry e ∷ items) zero stops = rw (stops) refl
stopped s (x ∷ items) (suc back) stops = stopped s items back stops

pub goes_on : (s : SiteOf ℕ) (items : List (Listed ℕ)) (back : ℕ) → stops_at s back items ≡ false
    → length (before (stops_going_back s) (drop back items)) ≡ length (before (stops_going_back s) (drop (back + 1) items)) + 1
goes_on s [] back goes = cc
goes_on s (marker ∷ items) zero goes = cc
goes_on s (entry e ∷ items) zero goes = rw (goes) (omega arith)
goes_on s (x ∷ items) (suc back) goes = let e : suc back + 1 ≡ suc (back + 1) = omega arith in rw (e) (goes_on s items back goes)

-- going back ends at once where it stops at the last item
pub stopped-at-once : (s : SiteOf ℕ) (items : List (Listed ℕ)) → stops_at s 0 items ≡ (length (before (stops_going_back s) items) == 0)
stopped-at-once s [] = refl
stopped-at-once s (marker ∷ items) = refl
stopped-at-once s (entry e ∷ items) =
    by_test (is_open e.node (stack s)) (λ v. v ≡ (length (if v then [] else entry e ∷ before (stops_going_back s) items) == 0)) (λ _. refl)
    (λ _. sym (eqb-suc-zero (length (before (stops_going_back s) items))))

-- a site with the same list
pub same-list : (t : Nodes ℕ) (o : OpenNodes ℕ) (a b : List (Listed ℕ)) (f : Bool) (errors : List ParseError) (again : List (ℕ × ℕ)) (s : SiteOf ℕ) → a ≡ b
    → ◌≡◌ {A = SiteOf ℕ} (record { nodes = t; open_nodes = o; items = b; foster = f; errors = errors; again = again }) s
    → ◌≡◌ {A = SiteOf ℕ} (record { nodes = t; open_nodes = o; items = a; foster = f; errors = errors; again = again }) s
same-list t o a b f errors again s is same = rw is same

-- no entries are left to be renewed
pub renewed-none : (at back : ℕ) (s : SiteOf ℕ) → back ≤ 0 → renewed_each numbers at back s ≡ Goes s
renewed-none at zero s few = refl
renewed-none at (suc k) s few = absurd (omega arith)

-- What the operations keep, and what the calls that do them keep so.

module _ {N : Type 0} where
  among-earliest : (sought : EntryOf N → Bool) (items : List (Listed N)) → Among (entries (without_earliest sought items)) (entries items)
  among-earliest sought [] = empty
  among-earliest sought (marker ∷ items) = among-all (entries items)
  among-earliest sought (entry e ∷ items) = cond_both (sought e && not (list_any sought (after_marker items))) _ _ (λ l. Among (entries l) (e ∷ entries items))
      (λ _. skip (among-all (entries items))) (λ _. keep (among-earliest sought items))

  pub among-room : (same : N → N → Bool) (new : EntryOf N) (items : List (Listed N)) → Among (entries (with_room same new items)) (entries items)
  among-room same new items = cond_both (leb most_equal (length (filter (is_equal same new) (after_marker items)))) _ _ (λ l. Among (entries l) (entries items))
      (λ _. among-earliest (is_equal same new) items) (λ _. among-all (entries items))

module _ {N : Type 0} (n : Naming N) where
  -- Where an operation keeps it, so does the call that does it.
  pub gives-kept : {A : Type 0} (r : Result A Refusal) (new : SiteOf N) (o : Outcome (SiteOf N)) → Gives r new o → OnGoes (IsSound n) o
      → IfOk r (λ _. IsSound n new)
  gives-kept (Ok a) new o is h = subst (OnGoes (IsSound n)) is h
  gives-kept (Err e) new o is h = tt

  pub done-kept : (new : SiteOf N) (o : Outcome (SiteOf N)) → o ≡ Goes new → OnGoes (IsSound n) o → IsSound n new
  done-kept new o is h = subst (OnGoes (IsSound n)) is h

  pub fewer-kept : (s : SiteOf N) (open_now : List (OpenNode N)) → Among open_now (stack s) → IsSound n s → IsSound n (with_stack open_now s)
  fewer-kept s open_now a k = from-well n (with_stack open_now s) (fewer n s open_now a (to-well n s k))

  pub listed-kept : (s : SiteOf N) (items : List (Listed N)) → PlainEntries n items → IsSound n s → IsSound n (with_items items s)
  listed-kept s items p k = record { counted = k.counted; open_stands = k.open_stands; plain = p }

  pub plain-cleared : (items : List (Listed N)) → PlainEntries n items → PlainEntries n (cleared items)
  plain-cleared [] p = p
  plain-cleared (marker ∷ items) p = p
  plain-cleared (entry e ∷ items) p = plain-cleared items p.1

  pub cleared-kept : (s : SiteOf N) → IsSound n s → IsSound n (with_items (cleared s.items) s)
  cleared-kept s k = listed-kept s (cleared s.items) (plain-cleared s.items k.plain) k

  pub removed-kept : (node : ℕ) (s : SiteOf N) → IsSound n s → IsSound n (with_items (without_entry node s.items) s)
  removed-kept node s k = listed-kept s (without_entry node s.items) (plain-without n node s.items k.plain) k

  pub added-kept : (at : ℕ) (w : What N) (p : Place) (s : SiteOf N) → PlaceStands p (trees s) → IsSound n s → OnGoes (IsSound n) (added at w p s)
  added-kept at w p s stands k = let h = to-well n s k in
      goes-map (Well n) (IsSound n) (from-well n) (added at w p s) (added-well n w s h p (standing-fits n w s h p stands) at)

  pub inserted-kept : (at : ℕ) (name : N) (attrs : List (Attribute N)) (p : Place) (s : SiteOf N) → PlaceStands p (trees s) → IsSound n s
      → OnGoes (IsSound n) (inserted at name attrs p s)
  inserted-kept at name attrs p s stands k = let h = to-well n s k in
      goes-map (Well n) (IsSound n) (from-well n) (inserted at name attrs p s)
      (inserted-well n at name attrs p s h (standing-fits n (element name attrs) s h p stands))

  plain-listed : (name : N) (attrs : List (Attribute N)) (s : SiteOf N) → n.same name (n.known Table) ≡ false → PlainEntries n s.items
      → PlainEntries n (listed n name attrs s).items
  plain-listed name attrs s apart p = let few = among-room n.same (record { node = open_node (current (stack s)); name = name; attrs = attrs }) s.items in
      (apart, each-among (λ e. Plain n e.name) _ (entries s.items) few p)

  pub formatting-kept : (at : ℕ) (name : N) (attrs : List (Attribute N)) (p : Place) (s : SiteOf N) → PlaceStands p (trees s)
      → n.same name (n.known Table) ≡ false → IsSound n s → OnGoes (IsSound n) (and_then (inserted at name attrs p s) (λ t. Goes (listed n name attrs t)))
  formatting-kept at name attrs p s stands apart k = goes-then (IsSound n) (IsSound n) (inserted at name attrs p s) _ (inserted-kept at name attrs p s stands k)
      (λ t h. listed-kept t (listed n name attrs t).items (plain-listed name attrs t apart h.plain) h)

  pub put-kept : (at c : ℕ) (p : Place) (s : SiteOf N) → PlaceStands p (trees s) → IsSound n s → OnGoes (IsSound n) (put at c p s)
  put-kept at c p s stands k = let h = to-well n s k in
      goes-map (Well n) (IsSound n) (from-well n) (put at c p s) (put-well n at c p s h (standing-fits n (text (encode_utf8 c)) s h p stands))

  goes-both : (P Q : SiteOf N → Type 0) (o : Outcome (SiteOf N)) → OnGoes P o → OnGoes Q o → OnGoes (λ s. P s × Q s) o
  goes-both P Q (Goes s) p q = (p, q)
  goes-both P Q (Refused r) p q = tt

  pub each-kept : (cs : List Placed) (p : Place) (s : SiteOf N) → PlaceStands p (trees s) → IsSound n s → OnGoes (IsSound n) (put_each cs p s)
  each-kept [] p s stands k = k
  each-kept (c ∷ cs) p s stands k = goes-then (λ t. IsSound n t × PlaceStands p (trees t)) (IsSound n) (put c.at c.ch p s) (put_each cs p) (goes-both
      (IsSound n) (λ t. PlaceStands p (trees t)) (put c.at c.ch p s) (put-kept c.at c.ch p s stands k) (put-stands n c.at c.ch p s (to-well n s k) stands))
      (λ t h. each-kept cs p t h.1 h.0)

  pub missing-kept : (node : ℕ) (attrs : List (Attribute N)) (s : SiteOf N) → IsSound n s → IsSound n (with_trees (with_missing n node attrs (trees s)) s)
  missing-kept node attrs s k = from-well n (with_trees (with_missing n node attrs (trees s)) s) (missing-well n node attrs s (to-well n s k))

  pub reconstructed-kept : (at : ℕ) (s : SiteOf N) → IsSound n s → OnGoes (IsSound n) (reconstructed n at s)
  reconstructed-kept at s k = goes-map (Well n) (IsSound n) (from-well n) (reconstructed n at s) (reconstructed-well n at s (to-well n s k))

-- the places that the rules name are in the document's tree
module _ {N : Type 0} (n : Naming N) (s : SiteOf N) (k : IsSound n s) where
  pub stands-where : (p : Place) → ((h : Well n s) → FitsHere n (comment []) s h p) → PlaceStands p (trees s)
  stands-where p fits = let h = to-well n s k in fits-standing n (comment []) s h p (fits h)

-- the document alone
abbrev alone : Forest ℕ
alone = tree 0 document none none

once : (x : ℕ) → times x alone ≡ (if ltb x 1 then 1 else 0)
once zero = refl
once (suc k) = rw (lt-leb (suc (suc k)) 1 (omega arith), ne_eqb 0 (suc k) (λ e. omega arith)) refl

pub begun-kept : (l m : ℕ) (t : Nodes ℕ) (o : OpenNodes ℕ) (items : List (Listed ℕ)) (errors : List ParseError) (noted : List (ℕ × ℕ))
    → t ≡ record { limit = l; made = 1; trees = alone } → o ≡ record { limit = m; stack = [] } → items ≡ []
    → IsSound numbers (record { nodes = t; open_nodes = o; items = items; foster = false; errors = errors; again = noted })
begun-kept l m t o items errors noted a b c =
    rw (a, b, c) (record { counted = record { once = once; begins = (none, none, refl) }; open_stands = record { stand = tt; order = tt }; plain = tt })
