-- What is kept of the open nodes where one passes the next one below it.
use Rattle.hopen.proofs.Names.{nat_tests, common_steps, ◌≡◌, ◌≢◌, ℕ, zero, suc, ◌<◌, ◌≤◌, false, List, Option, Some, None, length, map, get_or, set, ◌⊎◌, inl, inr, sym, ◌∙◌, ap, subst, transport, arith, cases_eq, cases_lt, get_or_default, get_or-set_same, get_or-set_other, length-map, length-set, map-set, closing, exchanged, is_hole_kind, kept_kind_at, kept_kind, open_name, slot_names, open_node, slot_nodes, nearest_in, nearest_up, opened_by, same_name_of, same_node_of, sets_at, set_node, AreHoles, CanPass, IsLinked, KeepSets, KeptNode, LastLevels, NameSet, OpenNode, SetNodes, LevelsStand, is_special, tag_of, sum_by, sum_by-set, ◌+◌, ◌-◌, refl, map-set_same, set-get_or, IsAlone, open_of, Open, Kind}
use Rattle.hopen.specs.declared.kept.Kind.TheVariants as kind
use Rattle.std.proofs.Math.ListN.{get_or-map}
use Rattle.hopen.proofs.Projected.{some≢none, length-nodes, no-name, node-at, nearest-alike, nearest-hole, nearest-plain, held, opened-at, part-at, nearest-neutral}
use Rattle.hopen.proofs.Swapped.{exchanged-apart, exchanged-length, exchanged-lower, exchanged-map, exchanged-upper, linked-alone, left-alone, linked-fresh}
use Rattle.hopen.specs.declared.kept.Kind.TheVariants as kind
use Rattle.hopen.proofs.Linked.{either}

-- A node that is special in no set leaves, or gives way to one of its name.

-- what each slot keeps stays where a node of no set changes
pub sets-neutral : (ys : List (Option (OpenNode ℕ))) (sets : List SetNodes) (i : ℕ) (x : OpenNode ℕ) (z : Option (OpenNode ℕ)) → i < length ys
    → get_or ys i None ≡ Some x → is_special (tag_of x.name) ≡ false → ((set : NameSet) (a : ℕ) → nearest_in set z a ≡ a) → KeepSets ys sets
    → KeepSets (set ys i z) sets
sets-neutral ys sets i x z within here plain neutral k s m h live = let other = get_or-set_other ys i m z None in
    let same = get_or-set_same ys i z None within in let rest = nearest-neutral s ys (set ys i z) i in
    grind (arith, common_steps, nat_tests, k s m, length-set ys i z, other, here, rest, nearest-plain s x, neutral s, same)

module _ (last : LastLevels) (items : List KeptNode) (i : ℕ) (x : KeptNode) (s : LevelsStand last items) (within : i < length items) (is : x ≡ get_or items i x)
    (alone : IsAlone last x (suc i)) where
  abbrev pub ys : List (Option (OpenNode ℕ))
  ys = map opened_by items

  many : length ys ≡ length items
  many = length-map items opened_by

  here : get_or ys i None ≡ Some (open_of x.opened)
  here = opened-at items i x within is alone.live

  node-here : get_or (slot_nodes ys) i 0 ≡ suc x.opened.node
  node-here = node-at items i x within is alone.live

  same_node-here : get_or (map same_node_of items) i 0 ≡ 0
  same_node-here = part-at same_node_of 0 items i x within is ∙ alone.none_above

  long : length (map same_node_of items) ≡ length (slot_nodes ys)
  long = length-map items same_node_of ∙ sym (length-map ys open_node ∙ many)

  nodes-within : i < length (slot_nodes ys)
  nodes-within = omega (arith, length-map ys open_node, many)

  closed : sum_by closing (set (map kept_kind_at items) i kind.Hole) + closing x.kind ≡ sum_by closing (map kept_kind_at items)
  closed = let written = sum_by-set closing (map kept_kind_at items) i kind.Hole kind.Hole (omega (arith, length-map items kept_kind_at)) in
      omega (arith, written, ap closing (part-at kept_kind_at kind.Hole items i x within is))

  pub kind-counted : closing x.kind ≤ last.must_close
  kind-counted = omega (arith, closed, s.closes)

  -- it leaves, once the other nodes of its name are right
  pub stands-left : (items' new : List KeptNode) (next : LastLevels) → map opened_by new ≡ set ys i None
      → map same_name_of new ≡ set (map same_name_of items') i 0 → map same_node_of new ≡ set (map same_node_of items) i 0
      → ((set : NameSet) (m : ℕ) → m ≢ i → get_or (map (set_node set) (map sets_at new)) m 0 ≡ get_or (map (set_node set) (map sets_at items)) m 0)
      → map kept_kind_at new ≡ set (map kept_kind_at items) i kind.Hole
      → IsLinked next.names.items (set (slot_names ys) i 0) (set (map same_name_of items') i 0) → next.nodes.items ≡ set last.nodes.items x.opened.node 0
      → next.must_close ≡ last.must_close - closing x.kind → LevelsStand next new
  stands-left items' new next opened same_names same_nodes sets kinds names nodes must_close = record {
    names = transport (λ t. IsLinked next.names.items (sym (ap slot_names opened ∙ map-set open_name ys i None) t) (sym same_names t)) names;
    nodes =
        transport (λ t. IsLinked (sym nodes t) (sym (ap slot_nodes opened ∙ map-set open_node ys i None) t) (sym (same_nodes ∙ unchanged) t)) (left-alone
        last.nodes.items (slot_nodes ys) (map same_node_of items) s.nodes i x.opened.node node-here long nodes-within same_node-here alone.none_below);
    sets = λ group m h live.
        either (λ n. get_or (set ys i None) n None ≢ None → get_or (map (set_node group) (map sets_at new)) n 0 ≡ nearest_up group (set ys i None) (suc n))
        i m (λ some. absurd (some (get_or-set_same ys i None None (omega (arith, many)))))
        (λ ne some. sets group m ne ∙ left group m (omega (arith, ap length opened, length-set ys i None, length-map new opened_by)) some)
        (λ e. live (ap (λ l. get_or l m None) opened ∙ e)) ∙ ap (λ l. nearest_up group l (suc m)) (sym opened);
    kinds = kinds ∙ ap (λ (ks : List Kind). set ks i kind.Hole) s.kinds ∙ sym (map-set kept_kind ys i None) ∙ ap (map kept_kind) (sym opened);
    closes = omega (arith, must_close, s.closes, ap (sum_by closing) kinds, closed);
    fits = omega (arith, s.fits, ap length nodes, length-set last.nodes.items x.opened.node 0);
  } where
    unchanged : set (map same_node_of items) i 0 ≡ map same_node_of items
    unchanged = ap (set (map same_node_of items) i) (sym same_node-here) ∙ set-get_or (map same_node_of items) i 0

    left : KeepSets (set ys i None) (map sets_at items)
    left = sets-neutral ys (map sets_at items) i (open_of x.opened) None (omega (arith, many)) here alone.plain (λ set a. refl) s.sets

  -- or another of its name takes its place
  pub stands-renamed : (next : LastLevels) (y : KeptNode) (new : Open) → x.opened.name ≡ new.name → get_or last.nodes.items new.node 0 ≡ 0
      → new.node < length last.nodes.items → y.opened ≡ new → y.same_name ≡ x.same_name → y.same_node ≡ x.same_node → y.sets ≡ x.sets → y.kind ≡ x.kind
      → next.names.items ≡ last.names.items → next.nodes.items ≡ set (set last.nodes.items x.opened.node 0) new.node (suc i) → next.must_close ≡ last.must_close
      → LevelsStand next (set items i y)
  stands-renamed next y new name fresh new_in opened same_name same_node sets kind names nodes must_close = record {
    names = transport (λ t. IsLinked (sym names t) (sym same_numbers t) (sym (map-set_same same_name_of items i y x (same_name ∙ ap same_name_of is)) t))
        s.names;
    nodes = transport (λ t. IsLinked (sym nodes t) (sym (ap slot_nodes renamed ∙ map-set open_node ys i (Some (open_of new))) t)
        (sym (map-set_same same_node_of items i y x (same_node ∙ ap same_node_of is)) t)) (linked-fresh last.nodes.items (slot_nodes ys)
        (map same_node_of items) s.nodes i x.opened.node node-here long nodes-within same_node-here alone.none_below new.node new_in fresh);
    sets = transport (λ t. KeepSets (sym renamed t) (sym (map-set_same sets_at items i y x (sets ∙ ap sets_at is)) t))
        (sets-neutral ys (map sets_at items) i (open_of x.opened) (Some (open_of new)) (omega (arith, many)) here alone.plain
        (λ set a. nearest-plain set (open_of new) a (ap (λ n. is_special (tag_of n)) (sym name) ∙ alone.plain)) s.sets);
    kinds = map-set_same kept_kind_at items i y x (kind ∙ ap kept_kind_at is) ∙ s.kinds ∙ sym (ap (map kept_kind) renamed ∙ same_kinds);
    closes = must_close ∙ s.closes ∙ ap (sum_by closing) (sym (map-set_same kept_kind_at items i y x (kind ∙ ap kept_kind_at is)));
    fits = omega
        (arith, s.fits, ap length nodes, length-set (set last.nodes.items x.opened.node 0) new.node (suc i), length-set last.nodes.items x.opened.node 0);
  } where
    renamed : map opened_by (set items i y) ≡ set ys i (Some (open_of new))
    renamed = map-set opened_by items i y ∙ ap (set ys i) (held y (ap is_hole_kind kind ∙ alone.live) ∙ ap (λ (z : Open). Some (open_of z)) opened)

    same_numbers : slot_names (map opened_by (set items i y)) ≡ slot_names ys
    same_numbers = ap slot_names renamed ∙ map-set_same open_name ys i (Some (open_of new)) None (ap suc (sym name) ∙ ap open_name (sym here))

    same_kinds : map kept_kind (set ys i (Some (open_of new))) ≡ map kept_kind ys
    same_kinds =
        map-set_same kept_kind ys i (Some (open_of new)) None (ap (λ n. kept_kind (Some (record { node = 0; name = n }))) (sym name) ∙ ap kept_kind (sym here))

-- slots past an index that are holes alone
nearest-holes : (set : NameSet) (ys : List (Option (OpenNode ℕ))) (i n : ℕ) → i ≤ n → ((m : ℕ) → i ≤ m → m < n → get_or ys m None ≡ None)
    → nearest_up set ys n ≡ nearest_up set ys i
nearest-holes set ys i zero h holes = let same : zero ≡ i = omega arith in ap (nearest_up set ys) same
nearest-holes set ys i (suc n) h holes = elim (cases_lt i (suc n)) as (λ _. nearest_up set ys (suc n) ≡ nearest_up set ys i) [
  | inl less ↦ nearest-hole set ys n (holes n (omega arith) (omega arith)) ∙ nearest-holes set ys i n (omega arith) (λ m a b. holes m a (omega arith))
  | inr past ↦ let same : suc n ≡ i = omega arith in ap (nearest_up set ys) same
]

-- a node that is not special, and the next one below it, change places
module _ (ys : List (Option (OpenNode ℕ))) (i j : ℕ) (x y : OpenNode ℕ) (less : i < j) (within : j < length ys) (holes : AreHoles i j (slot_names ys))
    (first : get_or ys i None ≡ Some x) (second : get_or ys j None ≡ Some y) (plain : is_special (tag_of x.name) ≡ false) where
  abbrev zs : List (Option (OpenNode ℕ))
  zs = exchanged i j None ys

  between : (m : ℕ) → i < m → m < j → get_or ys m None ≡ None
  between m a b = no-name ys m (holes m a b)

  apart : (m : ℕ) → m ≢ i → m ≢ j → get_or zs m None ≡ get_or ys m None
  apart m ne nf = exchanged-apart i j None ys m ne nf

  above : (m : ℕ) → m < i → get_or zs m None ≡ get_or ys m None
  above m h = apart m (λ e. absurd (omega arith)) (λ e. absurd (omega arith))

  module _ (set : NameSet) where
    nearest-above : (n : ℕ) → n ≤ i → nearest_up set zs n ≡ nearest_up set ys n
    nearest-above n h = nearest-alike set ys zs n (λ m f. above m (omega arith))

    -- the lower one with what is above both
    abbrev lower : ℕ
    lower = nearest_in set (Some y) (nearest_up set ys i)

    was-lower : nearest_up set ys (suc j) ≡ lower
    was-lower = grind (arith, second, nearest-holes set ys (suc i) j less, between, first, nearest-plain set x (nearest_up set ys i) plain)

    is-upper : nearest_up set zs (suc i) ≡ lower
    is-upper = (λ t. nearest_in set ((exchanged-upper i j None ys less within ∙ second) t) (nearest-above i (omega arith) t))

    is-lower : nearest_up set zs (suc j) ≡ lower
    is-lower = ap (λ z. nearest_in set z (nearest_up set zs j)) (exchanged-lower i j None ys within ∙ first) ∙ nearest-plain set x (nearest_up set zs j) plain
        ∙ nearest-holes set zs (suc i) j less (λ m a b. apart m (λ e. absurd (omega arith)) (λ e. absurd (omega arith)) ∙ between m a b) ∙ is-upper

    nearest-below : (n : ℕ) → j < n → nearest_up set zs n ≡ nearest_up set ys n
    nearest-below zero h = absurd (omega arith)
    nearest-below (suc n) h = grind (arith, cases_lt j n, apart n, nearest-below n, is-lower, was-lower)

  -- what the slots keep, where the upper one now keeps its own
  pub sets-exchanged : (sets : List SetNodes) (p : SetNodes) → length sets ≡ length ys → KeepSets ys sets → p ≡ get_or sets j p → KeepSets zs (set sets i p)
  sets-exchanged sets p long k is = λ s n h live.
      let many : length zs ≡ length ys = exchanged-length i j None ys in
      let written : map (set_node s) (set sets i p) ≡ set (map (set_node s) sets) i (set_node s p) = map-set (set_node s) sets i p in
      ap (λ l. get_or l n 0) written ∙ at s n (omega arith) live (cases_eq n i) where
        -- the lower one's own are these
        own : (s : NameSet) → set_node s p ≡ lower s
        own s = let inside : j < length sets = omega arith in
            ap (set_node s) is ∙ sym (get_or-map (set_node s) sets j p)
            ∙ get_or_default (map (set_node s) sets) j (set_node s p) 0 (omega (arith, length-map sets (set_node s))) ∙ k s j within (some≢none y _ second)
            ∙ was-lower s

        at : (s : NameSet) (n : ℕ) → n < length ys → get_or zs n None ≢ None → (n ≡ i) ⊎ (n ≢ i)
            → get_or (set (map (set_node s) sets) i (set_node s p)) n 0 ≡ nearest_up s zs (suc n)
        at s n h live (inl e) = ap (λ m. get_or (set (map (set_node s) sets) i (set_node s p)) m 0) e
            ∙ get_or-set_same (map (set_node s) sets) i (set_node s p) 0 (omega (arith, length-map sets (set_node s))) ∙ own s ∙ sym (is-upper s)
            ∙ ap (λ m. nearest_up s zs (suc m)) (sym e)
        at s n h live (inr ne) = get_or-set_other (map (set_node s) sets) i n (set_node s p) 0 ne ∙ go (cases_lt n i) (cases_lt j n) (cases_lt n j) where
          go : (n < i) ⊎ (i ≤ n) → (j < n) ⊎ (n ≤ j) → (n < j) ⊎ (j ≤ n) → get_or (map (set_node s) sets) n 0 ≡ nearest_up s zs (suc n)
          go (inl a) b d = k s n h (λ f. live (above n a ∙ f)) ∙ sym (nearest-above s (suc n) (omega arith))
          go (inr a) (inl b) d = k s n h (λ f. live (apart n ne (λ e. absurd (omega arith)) ∙ f)) ∙ sym (nearest-below s (suc n) (omega arith))
          go (inr a) (inr b) (inl d) = absurd (live (apart n ne (λ e. absurd (omega arith)) ∙ between n (omega arith) d))
          go (inr a) (inr b) (inr d) = let here : n ≡ j = omega arith in
              k s n h (some≢none y _ (ap (λ m. get_or ys m None) here ∙ second)) ∙ sym (nearest-below s (suc n) (omega arith))

-- a sum stays where two members change places
pub sum-exchanged : {X : Type 0} (f : X → ℕ) (xs : List X) (i j : ℕ) (d : X) → i < j → j < length xs → sum_by f (exchanged i j d xs) ≡ sum_by f xs
sum-exchanged f xs i j d less within =
    let other : get_or (set xs i (get_or xs j d)) j d ≡ get_or xs j d = get_or-set_other xs i j (get_or xs j d) d (λ e. absurd (omega arith)) in
    grind (arith, common_steps, nat_tests, get_or-set_other, length-set, sum_by-set)

module _ (last : LastLevels) (items : List KeptNode) (i j : ℕ) (s : LevelsStand last items) (p : CanPass last items i j) (x y : KeptNode)
    (first : x ≡ get_or items i x) (second : y ≡ get_or items j y) where
  front : i < length items
  front = omega (arith, p.order, p.within)

  -- the node has passed
  pub stands-passed : (after : LastLevels) (new : List KeptNode) → map opened_by new ≡ exchanged i j None (map opened_by items)
      → map same_node_of new ≡ exchanged i j 0 (map same_node_of items)
      → IsLinked after.names.items (exchanged i j 0 (slot_names (map opened_by items))) (map same_name_of new)
      → after.nodes.items ≡ set (set last.nodes.items x.opened.node (suc j)) y.opened.node (suc i) → KeepSets (map opened_by new) (map sets_at new)
      → map kept_kind_at new ≡ exchanged i j kind.Hole (map kept_kind_at items) → after.must_close ≡ last.must_close → LevelsStand after new
  stands-passed after new opened same_nodes names nodes sets kinds closes = record {
    names = subst (λ l. IsLinked after.names.items l (map same_name_of new)) (sym (moved open_name)) names;
    nodes = transport (λ t. IsLinked (sym nodes t) (sym (moved open_node) t) (sym same_nodes t))
        (linked-alone last.nodes.items (slot_nodes ys) (map same_node_of items) s.nodes (omega (arith, length-map items same_node_of, length-nodes items)) i
        j x.opened.node y.opened.node p.order (omega (arith, p.within, length-nodes items)) (node-at items i x front first upper.0)
        (node-at items j y p.within second lower.0) holes upper.2 lower.1);
    sets = sets;
    kinds = kinds ∙ ap (exchanged i j kind.Hole) s.kinds ∙ sym (exchanged-map i j None ys kept_kind) ∙ ap (map kept_kind) (sym opened);
    closes = closes ∙ s.closes ∙ sym (ap (sum_by closing) kinds
        ∙ sum-exchanged closing (map kept_kind_at items) i j kind.Hole p.order (omega (arith, p.within, length-map items kept_kind_at)));
    fits = omega (
      arith,
      s.fits,
      ap length nodes,
      length-set (set last.nodes.items x.opened.node (suc j)) y.opened.node (suc i),
      length-set last.nodes.items x.opened.node (suc j),
    );
  } where
    ys : List (Option (OpenNode ℕ))
    ys = map opened_by items

    upper : (is_hole_kind x.kind ≡ false) × (is_special (tag_of x.opened.name) ≡ false) × (get_or last.nodes.items x.opened.node 0 ≡ suc i)
    upper = p.upper x first

    lower : (is_hole_kind y.kind ≡ false) × (get_or last.nodes.items y.opened.node 0 ≡ suc j)
    lower = p.lower y second

    moved : (g : Option (OpenNode ℕ) → ℕ) → map g (map opened_by new) ≡ exchanged i j (g None) (map g ys)
    moved g = ap (map g) opened ∙ exchanged-map i j None ys g

    -- a slot with no name has no node
    holes : AreHoles i j (slot_nodes ys)
    holes m a b = get_or-map open_node ys m None ∙ ap open_node (no-name ys m (p.holes m a b))
