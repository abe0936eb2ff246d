-- The kept levels of the first slots of a vector, as one more comes and the last of them goes.
use Rattle.hopen.proofs.Names.{◌≡◌, ◌≢◌, ℕ, suc, ◌+◌, ◌-◌, ◌<◌, ◌≤◌, List, [], ◌∷◌, ◌++◌, Option, Some, None, length, map, take, get_or, set, sym, ◌∙◌, ap, subst, arith, transport, length-map, length-set, length-take-le, is_hole_kind, refl, take_all, take-map, get_or-take, get_or_default, ext_get_or, Open, sum_by, sum_by_more, sum_by-le, AreAlike, AreAsLong, AreIn, HasRoom, IsBelow, IsIn, IsLinkedTo, KeepSetsTo, LevelsStand, LevelsTo, StandsTo, closing, kept_kind_at, kept_kind, open_name, open_node, slot_names, slot_nodes, nearest_in, nearest_up, opened_by, same_name_of, same_node_of, sets_at, stack_of, somes, slots_of, OpenNode, KeptNode, LastLevels, Kind, set_node, NameSet, open_of, reverse_push}
use Rattle.hopen.specs.declared.kept.Kind.TheVariants as kind
use Rattle.std.proofs.Math.ListN.{get_or-map}
use Rattle.hopen.proofs.Projected.{below-held, no-node, length-names, length-nodes, part-at, part-of, nearest-alike}
use Rattle.hopen.proofs.Linked.{either, linked-front, linked-gap, linked-hole, linked-in, linked-less, linked-more}
use Rattle.hopen.proofs.Swapped.{walk-in}

pub stack-more : (items : List KeptNode) (x : KeptNode) (y : OpenNode ℕ) → opened_by x ≡ Some y → stack_of (items ++ x ∷ []) ≡ y ∷ stack_of items
stack-more items x y e = ap somes (reverse_push opened_by items x) ∙ ap (λ o. somes (o ∷ slots_of items)) e

pub one-closes : (k : Kind) → closing k ≤ 1
one-closes kind.Hole = omega arith
one-closes kind.MayStay = omega arith
one-closes kind.MustClose = omega arith

module _ (last : LastLevels) (items : List KeptNode) where
  abbrev ys : List (Option (OpenNode ℕ))
  ys = map opened_by items

  abbrev ks : List Kind
  ks = map kept_kind_at items

  -- as few must be closed as there are slots
  pub few-closed : (n : ℕ) → n ≤ length items → LevelsTo n last items → last.must_close ≤ n
  few-closed n h s = let long = length-take-le n ks (omega (arith, length-map items kept_kind_at)) in
      omega (arith, s.closes, sum_by-le closing 1 (take n ks) (λ j d _. one-closes (get_or (take n ks) j d)), long)

  -- what stands of all slots
  pub stands-to : LevelsStand last items → LevelsTo (length items) last items
  stands-to s = record {
    names = subst (λ n. IsLinkedTo n last.names.items (slot_names ys) (map same_name_of items)) (length-names items) s.names;
    nodes = subst (λ n. IsLinkedTo n last.nodes.items (slot_nodes ys) (map same_node_of items)) (length-nodes items) s.nodes;
    sets = subst (λ n. KeepSetsTo n ys (map sets_at items)) (length-map items opened_by) s.sets;
    kinds = λ j h. ap (λ l. get_or l j kind.Hole) s.kinds ∙ get_or-map kept_kind ys j None;
    closes = s.closes ∙ ap (sum_by closing) (sym (take_all (length items) ks (omega (arith, length-map items kept_kind_at))));
    fits = s.fits;
  }

  pub to-stands : (n : ℕ) → n ≡ length items → LevelsTo n last items → LevelsStand last items
  to-stands n all s = record {
    names = subst (λ n. IsLinkedTo n last.names.items (slot_names ys) (map same_name_of items)) (all ∙ sym (length-names items)) s.names;
    nodes = subst (λ n. IsLinkedTo n last.nodes.items (slot_nodes ys) (map same_node_of items)) (all ∙ sym (length-nodes items)) s.nodes;
    sets = subst (λ n. KeepSetsTo n ys (map sets_at items)) (all ∙ sym (length-map items opened_by)) s.sets;
    kinds = ext_get_or kind.Hole ks (map kept_kind ys) (length-map items kept_kind_at ∙ sym (length-map ys kept_kind ∙ length-map items opened_by))
        (λ j h. s.kinds j (omega (arith, length-map items kept_kind_at)) ∙ sym (get_or-map kept_kind ys j None));
    closes = s.closes ∙ ap (sum_by closing) (take_all n ks (omega (arith, length-map items kept_kind_at)));
    fits = s.fits;
  }

  -- the tables have the numbers of all slots
  pub stands-in : LevelsStand last items → AreIn last ys
  stands-in s i d h = go (get_or ys i d) (λ g. get_or-map g ys i None ∙ ap g (get_or_default ys i None d h)) where
    go : (z : Option (OpenNode ℕ)) → ((g : Option (OpenNode ℕ) → ℕ) → get_or (map g ys) i (g None) ≡ g z) → IsIn last z
    go None is = tt
    go (Some y) is = (
      walk-in last.names.items (slot_names ys) (map same_name_of items) s.names i y.name (is open_name) (omega (arith, length-map ys open_name)),
      walk-in last.nodes.items (slot_nodes ys) (map same_node_of items) s.nodes i y.node (is open_node) (omega (arith, length-map ys open_node)),
    )

pub in-as-long : (last next : LastLevels) → AreAsLong next last → (ys : List (Option (OpenNode ℕ))) → AreIn last ys → AreIn next ys
in-as-long last next long ys all i d h = go (get_or ys i d) (all i d h) where
  go : (z : Option (OpenNode ℕ)) → IsIn last z → IsIn next z
  go None is = tt
  go (Some y) is = (omega (arith, is.0, long.names), omega (arith, is.1, long.nodes))

-- a slot right below others, where these begin alike
pub below-front : (last : LastLevels) (ys zs : List (Option (OpenNode ℕ))) (n : ℕ) (new : Open) (x : KeptNode) → IsBelow last ys n new x
    → ((j : ℕ) → j < n → get_or zs j None ≡ get_or ys j None) → IsBelow last zs n x.opened x
below-front last ys zs n new x b same = record {
  opened = refl;
  same_name = b.same_name ∙ ap (λ (o : Open). get_or last.names.items o.name 0) (sym b.opened);
  same_node = b.same_node ∙ ap (λ (o : Open). get_or last.nodes.items o.node 0) (sym b.opened);
  sets = λ set. b.sets set ∙ (λ i. nearest_in set (Some (open_of (sym b.opened i))) (sym (nearest-alike set ys zs n same) i));
  kind = b.kind ∙ ap (λ (o : Open). kept_kind (Some (open_of o))) (sym b.opened);
}

-- items that keep the same, but for hints
pub levels-alike : (n : ℕ) (last : LastLevels) (xs ys : List KeptNode) → AreAlike xs ys → LevelsTo n last ys → LevelsTo n last xs
levels-alike n last xs ys a s =
    transport (λ t. StandsTo n last (sym a.rest.opened t) (sym a.same_names t) (sym a.rest.same_nodes t) (sym a.rest.sets t) (sym a.rest.kinds t)) s

-- items that begin alike
module _ (n : ℕ) (last : LastLevels) (xs ys : List KeptNode) (same : take n xs ≡ take n ys) where
  front : {X : Type 0} (f : KeptNode → X) → take n (map f xs) ≡ take n (map f ys)
  front f = take-map f n xs ∙ ap (map f) same ∙ sym (take-map f n ys)

  front-of : {X Y : Type 0} (g : X → Y) (f : KeptNode → X) → take n (map g (map f xs)) ≡ take n (map g (map f ys))
  front-of g f = take-map g n (map f xs) ∙ ap (map g) (front f) ∙ sym (take-map g n (map f ys))

  at : {X : Type 0} (us vs : List X) → take n us ≡ take n vs → (d : X) (j : ℕ) → j < n → get_or us j d ≡ get_or vs j d
  at us vs e d j h = sym (get_or-take n us j d h) ∙ ap (λ l. get_or l j d) e ∙ get_or-take n vs j d h

  opened-front : (j : ℕ) → j < n → get_or (map opened_by xs) j None ≡ get_or (map opened_by ys) j None
  opened-front = at (map opened_by xs) (map opened_by ys) (front opened_by) None

  pub levels-front : LevelsTo n last ys → LevelsTo n last xs
  levels-front s = record {
    names = linked-front last.names.items (slot_names (map opened_by ys)) (map same_name_of ys) n (slot_names (map opened_by xs)) (map same_name_of xs)
        (at (slot_names (map opened_by xs)) (slot_names (map opened_by ys)) (front-of open_name opened_by) 0)
        (at (map same_name_of xs) (map same_name_of ys) (front same_name_of) 0) s.names;
    nodes = linked-front last.nodes.items (slot_nodes (map opened_by ys)) (map same_node_of ys) n (slot_nodes (map opened_by xs)) (map same_node_of xs)
        (at (slot_nodes (map opened_by xs)) (slot_nodes (map opened_by ys)) (front-of open_node opened_by) 0)
        (at (map same_node_of xs) (map same_node_of ys) (front same_node_of) 0) s.nodes;
    sets = λ set m h live. at (map (set_node set) (map sets_at xs)) (map (set_node set) (map sets_at ys)) (front-of (set_node set) sets_at) 0 m h
        ∙ s.sets set m h (λ e. live (opened-front m h ∙ e))
        ∙ nearest-alike set (map opened_by xs) (map opened_by ys) (suc m) (λ j less. sym (opened-front j (omega arith)));
    kinds = λ j h. at (map kept_kind_at xs) (map kept_kind_at ys) (front kept_kind_at) kind.Hole j h ∙ s.kinds j h ∙ ap kept_kind (sym (opened-front j h));
    closes = s.closes ∙ ap (sum_by closing) (sym (front kept_kind_at));
    fits = s.fits;
  }

-- a slot of a vector, right below the first ones
module _ (items : List KeptNode) (i : ℕ) (within : i < length items) (last : LastLevels) where
  abbrev zs : List (Option (OpenNode ℕ))
  zs = map opened_by items

  abbrev kinds : List Kind
  kinds = map kept_kind_at items

  closes-more : sum_by closing (take (suc i) kinds) ≡ sum_by closing (take i kinds) + closing (get_or kinds i kind.Hole)
  closes-more = let one : suc i ≡ i + 1 = omega arith in
      ap (λ k. sum_by closing (take k kinds)) one ∙ sum_by_more closing kinds i kind.Hole (omega (arith, length-map items kept_kind_at))

  -- a hole goes
  pub levels-hole : LevelsTo (suc i) last items → get_or zs i None ≡ None → LevelsTo i last items
  levels-hole s gone = record {
    names = linked-hole last.names.items (slot_names zs) (map same_name_of items) i (get_or-map open_name zs i None ∙ ap open_name gone) s.names;
    nodes = linked-hole last.nodes.items (slot_nodes zs) (map same_node_of items) i (get_or-map open_node zs i None ∙ ap open_node gone) s.nodes;
    sets = λ set m h. s.sets set m (omega arith);
    kinds = λ j h. s.kinds j (omega arith);
    closes = omega (arith, s.closes, closes-more, ap closing (s.kinds i (omega arith) ∙ ap kept_kind gone));
    fits = s.fits;
  }

  module _ (x : KeptNode) (is : x ≡ get_or items i x) where
    slot : get_or zs i None ≡ opened_by x
    slot = part-at opened_by None items i x within is

    kind-at : get_or kinds i kind.Hole ≡ x.kind
    kind-at = part-at kept_kind_at kind.Hole items i x within is

    -- what holds of the first slots, and of the next one, holds of all of them
    kinds-next : ((j : ℕ) → j < i → get_or kinds j kind.Hole ≡ kept_kind (get_or zs j None)) → x.kind ≡ kept_kind (opened_by x) → (j : ℕ) → j < suc i
        → get_or kinds j kind.Hole ≡ kept_kind (get_or zs j None)
    kinds-next below here j h = either (λ m. get_or kinds m kind.Hole ≡ kept_kind (get_or zs m None)) i j
        (kind-at ∙ here ∙ ap kept_kind (sym slot)) (λ ne. below j (omega arith))

    sets-next : KeepSetsTo i zs (map sets_at items) → ((set : NameSet) → get_or zs i None ≢ None → set_node set x.sets ≡ nearest_up set zs (suc i))
        → KeepSetsTo (suc i) zs (map sets_at items)
    sets-next below here set m h = either
        (λ m. get_or zs m None ≢ None → get_or (map (set_node set) (map sets_at items)) m 0 ≡ nearest_up set zs (suc m)) i m
        (λ live. part-of (set_node set) sets_at 0 items i x within is ∙ here set live) (λ ne. below set m (omega arith))

    -- a hole comes
    pub levels-gap : x.kind ≡ kind.Hole → x.same_name ≡ 0 → x.same_node ≡ 0 → LevelsTo i last items → LevelsTo (suc i) last items
    levels-gap hole same_name same_node s =
        let none : opened_by x ≡ None = no-node x (ap is_hole_kind hole) in
        let gone : get_or zs i None ≡ None = slot ∙ none in
        record {
          names = linked-gap last.names.items (slot_names zs) (map same_name_of items) i (get_or-map open_name zs i None ∙ ap open_name gone)
              (part-at same_name_of 0 items i x within is ∙ same_name) s.names;
          nodes = linked-gap last.nodes.items (slot_nodes zs) (map same_node_of items) i (get_or-map open_node zs i None ∙ ap open_node gone)
              (part-at same_node_of 0 items i x within is ∙ same_node) s.nodes;
          sets = sets-next s.sets (λ set live. absurd (live gone));
          kinds = kinds-next s.kinds (hole ∙ ap kept_kind (sym none));
          closes = omega (arith, s.closes, closes-more, ap closing (kind-at ∙ hole));
          fits = s.fits;
        }

    -- a node comes, with what the tables say
    pub levels-more : (next : LastLevels) (level : ℕ) → level ≡ suc i → IsBelow last zs i x.opened x → HasRoom last x.opened
        → next.names.items ≡ set last.names.items x.opened.name level → next.nodes.items ≡ set last.nodes.items x.opened.node level
        → next.must_close ≡ last.must_close + closing x.kind → LevelsTo i last items → LevelsTo (suc i) next items
    levels-more next level at below room names nodes closes s =
        let held : opened_by x ≡ Some (open_of x.opened) = below-held last zs i x.opened x below in
        let live : get_or zs i None ≡ Some (open_of x.opened) = slot ∙ held in
        record {
          names = subst (λ (t : List ℕ). IsLinkedTo (suc i) t (slot_names zs) (map same_name_of items))
              (sym (names ∙ ap (set last.names.items x.opened.name) at)) (linked-more last.names.items (slot_names zs) (map same_name_of items) i
              x.opened.name (get_or-map open_name zs i None ∙ ap open_name live) room.0 (part-at same_name_of 0 items i x within is ∙ below.same_name) s.names);
          nodes = subst (λ (t : List ℕ). IsLinkedTo (suc i) t (slot_nodes zs) (map same_node_of items))
              (sym (nodes ∙ ap (set last.nodes.items x.opened.node) at)) (linked-more last.nodes.items (slot_nodes zs) (map same_node_of items) i
              x.opened.node (get_or-map open_node zs i None ∙ ap open_node live) room.1 (part-at same_node_of 0 items i x within is ∙ below.same_node) s.nodes);
          sets = sets-next s.sets (λ set _. below.sets set ∙ ap (λ o. nearest_in set o (nearest_up set zs i)) (sym live));
          kinds = kinds-next s.kinds (below.kind ∙ ap kept_kind (sym held));
          closes = omega (arith, closes, s.closes, closes-more, ap closing kind-at);
          fits = omega (arith, s.fits, ap length nodes, length-set last.nodes.items x.opened.node level);
        }

    -- a node goes
    module _ (s : LevelsTo (suc i) last items) (live : opened_by x ≡ Some (open_of x.opened)) where
      name-here : get_or (slot_names zs) i 0 ≡ suc x.opened.name
      name-here = get_or-map open_name zs i None ∙ ap open_name (slot ∙ live)

      node-here : get_or (slot_nodes zs) i 0 ≡ suc x.opened.node
      node-here = get_or-map open_node zs i None ∙ ap open_node (slot ∙ live)

      pub levels-in : HasRoom last x.opened
      levels-in = (linked-in _ _ _ i _ name-here s.names, linked-in _ _ _ i _ node-here s.nodes)

      pub levels-counted : closing x.kind ≤ last.must_close
      levels-counted = omega (arith, s.closes, closes-more, ap closing kind-at)

      pub levels-less : (next : LastLevels) → next.names.items ≡ set last.names.items x.opened.name x.same_name
          → next.nodes.items ≡ set last.nodes.items x.opened.node x.same_node → next.must_close ≡ last.must_close - closing x.kind → LevelsTo i next items
      levels-less next names nodes closes = record {
        names = subst (λ (t : List ℕ). IsLinkedTo i t (slot_names zs) (map same_name_of items))
            (sym (names ∙ ap (set last.names.items x.opened.name) (sym (part-at same_name_of 0 items i x within is))))
            (linked-less last.names.items (slot_names zs) (map same_name_of items) i x.opened.name name-here s.names);
        nodes = subst (λ (t : List ℕ). IsLinkedTo i t (slot_nodes zs) (map same_node_of items))
            (sym (nodes ∙ ap (set last.nodes.items x.opened.node) (sym (part-at same_node_of 0 items i x within is))))
            (linked-less last.nodes.items (slot_nodes zs) (map same_node_of items) i x.opened.node node-here s.nodes);
        sets = λ set m h. s.sets set m (omega arith);
        kinds = λ j h. s.kinds j (omega arith);
        closes = omega (arith, closes, s.closes, closes-more, ap closing kind-at);
        fits = omega (arith, s.fits, ap length nodes, length-set last.nodes.items x.opened.node x.same_node);
      }
