-- Exchanges in a list and what a run of them does; an entry that becomes that of another node, and where an entry
-- is among the others.
use Rattle.hopen.proofs.Names.{Listed, common_steps, map-set_same, ◌≡◌, ◌≢◌, ℕ, zero, suc, ◌+◌, ◌-◌, ◌<◌, ◌≤◌, ◌==◌, ◌⊎◌, inl, Bool, true, false, IsTrue, List, [], ◌∷◌, ◌++◌, Option, Some, is_some, length, get_or, set, take, drop, map, reverse, refl, sym, ◌∙◌, ap, arith, subst, All, insert, list_any, position, remove, swap, swap_is, length-swap, drop-set-lt, get_or-map, get_or-set_other, length-append, length-reverse, length-set, length-take-le, map-set, reverse-append, All-get_or, All-set, last_up, none, EntryOf, for_node, is_entry, IsStored, is_gone, item_of, listed_items, nowhere, moved_entry, stored_entry, DefaultHasher, AreListed, by_hash, by_name, by_node, number_by, numbers_by, changed_at, item_put_before, last_place, Stored, Slots, reverse-map, set_nearest, last_place-le, nat_tests, get_or-set_same, set-set, take-set, insert_nearest, position_nearest, position-none, position-some, false≢true, cases_lt, append-nil, All-append, All-drop, All-take, AreSlots, is_listed_hole, live}
use Rattle.hopen.specs.declared.entry.Slot.TheVariants as stored
use Rattle.hopen.proofs.ExchangedSlots.{reverse-set}
use Rattle.hopen.proofs.Holes.{node-is, slots-are, gone-is, live-parts}
use Rattle.hopen.proofs.Listed.{last-is, not_missing, numbers-back}
use Rattle.hopen.proofs.Linked.{ordinal-map}
use Rattle.hopen.specs.declared.entry.Slot.TheVariants as stored
use Rattle.hopen.proofs.Live.{any-live, is_hole-for_node, spares-node, put_spared}

-- the members at two indexes in each other's place
abbrev pub exchanged : {X : Type 0} → List X → (i j : ℕ) → X → List X
exchanged xs i j d = set (set xs i (get_or xs j d)) j (get_or xs i d)

module _ {X : Type 0} where
  suc-is : (xs : List X) (i : ℕ) (d : X) → exchanged xs i (i + 1) d ≡ exchanged xs i (suc i) d
  suc-is xs i d = let one : i + 1 ≡ suc i = omega arith in ap (λ n. exchanged xs i n d) one

  up_suc : (ys : List X) (i : ℕ) (x d : X) → i < length ys → exchanged (insert ys i x) i (suc i) d ≡ insert ys (suc i) x
  up_suc [] i x d h = absurd (omega arith)
  up_suc (y ∷ ys) zero x d h = refl
  up_suc (y ∷ ys) (suc i) x d h = ap (λ l. y ∷ l) (up_suc ys i x d (omega arith))

  down_suc : (ys : List X) (i : ℕ) (x d : X) → i < length ys → exchanged (insert ys (suc i) x) i (suc i) d ≡ insert ys i x
  down_suc [] i x d h = absurd (omega arith)
  down_suc (y ∷ ys) zero x d h = refl
  down_suc (y ∷ ys) (suc i) x d h = ap (λ l. y ∷ l) (down_suc ys i x d (omega arith))

  -- a member that was put in goes one up, or one down
  pub exchanged-up : (ys : List X) (i : ℕ) (x d : X) → i < length ys → exchanged (insert ys i x) i (i + 1) d ≡ insert ys (i + 1) x
  exchanged-up ys i x d h = let one : suc i ≡ i + 1 = omega arith in suc-is (insert ys i x) i d ∙ up_suc ys i x d h ∙ ap (λ n. insert ys n x) one

  pub exchanged-down : (ys : List X) (i : ℕ) (x d : X) → i < length ys → exchanged (insert ys (i + 1) x) i (i + 1) d ≡ insert ys i x
  exchanged-down ys i x d h = let one : i + 1 ≡ suc i = omega arith in ap (λ n. exchanged (insert ys n x) i n d) one ∙ down_suc ys i x d h

  -- a member that is taken out and put back
  pub insert-remove : (xs : List X) (i : ℕ) (d : X) → i < length xs → insert (remove xs i) i (get_or xs i d) ≡ xs
  insert-remove [] i d h = absurd (omega arith)
  insert-remove (x ∷ xs) zero d h = refl
  insert-remove (x ∷ xs) (suc i) d h = ap (λ l. x ∷ l) (insert-remove xs i d (omega arith))

  map-exchanged : {Y : Type 0} (f : X → Y) (xs : List X) (i j : ℕ) (d : X) (e : Y) → i < length xs → j < length xs
      → map f (exchanged xs i j d) ≡ exchanged (map f xs) i j e
  map-exchanged f xs i j d e h k = grind (arith, map-set, get_or-map)

  All-exchanged : (P : X → Type 0) (xs : List X) (i j : ℕ) (d : X) → i < length xs → j < length xs → All P xs → All P (exchanged xs i j d)
  All-exchanged P xs i j d h k all =
      All-set P (set xs i (get_or xs j d)) j (get_or xs i d) (All-get_or P xs i d h all) (All-set P xs i (get_or xs j d) (All-get_or P xs j d k all) all)

  exchanged-other : (xs : List X) (i j k : ℕ) (d x : X) → k ≢ i → k ≢ j → get_or (exchanged xs i j d) k x ≡ get_or xs k x
  exchanged-other xs i j k d x a b = get_or-set_other (set xs i (get_or xs j d)) j k (get_or xs i d) x b ∙ get_or-set_other xs i k (get_or xs j d) x a

-- no hole from an index on
abbrev pub NoHoleFrom : ℕ → List Stored → Type 0
NoHoleFrom from items = (i : ℕ) → from ≤ i → i < length items → (x : Stored) → is_gone (get_or items i x) ≡ false

-- what is kept of the list, where all is exchanged alike
module _ (i j : ℕ) (old : Slots) (low : i < length old.items.items) (high : j < length old.items.items) where
  numbers-exchanged : (of : EntryOf ℕ → ℕ) (numbers : List ℕ) → numbers ≡ numbers_by of old.items.items
      → exchanged numbers i j 0 ≡ numbers_by of (exchanged old.items.items i j stored.Hole)
  numbers-exchanged of numbers are = grind (arith, are, map-exchanged (λ x. number_by of (item_of x)) old.items.items i j stored.Hole 0 low high)

  module _ {new_names new_hashes new_nodes : List ℕ} {new_keys : Option DefaultHasher} {new_items : List Stored} {new_solid : ℕ} where
    pub listed-exchanged : new_keys ≡ old.keys → new_names ≡ exchanged old.names i j 0 → (is_some old.keys ≡ true → new_hashes ≡ exchanged old.hashes i j 0)
        → new_nodes ≡ exchanged old.nodes i j 0 → new_items ≡ swap old.items.items i j
        → (old.solid ≤ new_solid) × (i < new_solid) × (j < new_solid) × (new_solid ≤ length old.items.items)
        → AreListed new_names new_hashes new_nodes new_keys new_items new_solid
    listed-exchanged keys names hashes nodes items bounds = let xs = old.items.items in
        let now : new_items ≡ exchanged xs i j stored.Hole = items ∙ sym (swap_is xs i j stored.Hole low high) in
        let size : length new_items ≡ length xs = ap length items ∙ length-swap xs i j in
        record {
          names = names ∙ numbers-exchanged by_name old.names old.listed.names ∙ ap (numbers_by by_name) (sym now);
          hashes = λ some.
              let there = ap is_some (sym keys) ∙ some in
              hashes there ∙ numbers-exchanged (by_hash old.keys) old.hashes (old.listed.hashes there) ∙ (λ k. numbers_by (by_hash (sym keys k)) (sym now k));
          nodes = nodes ∙ numbers-exchanged by_node old.nodes old.listed.nodes ∙ ap (numbers_by by_node) (sym now);
          stored = subst (All IsStored) (sym now) (All-exchanged IsStored xs i j stored.Hole low high old.listed.stored);
          within = omega (arith, size, bounds.3);
          solid = λ k from to x.
              ap (λ ys. is_gone (get_or ys k x)) now ∙ ap is_gone (exchanged-other xs i j k stored.Hole x (omega (arith, bounds.1)) (omega (arith, bounds.2)))
              ∙ old.listed.solid k (omega (arith, bounds.0)) (omega (arith, size)) x;
        }

-- an entry that becomes that of another node
module _ (node : ℕ) where
  renamed-name : (x : Stored) → number_by by_name (item_of (moved_entry node x)) ≡ number_by by_name (item_of x)
  renamed-name x = grind arith

  renamed-hash : (keys : Option DefaultHasher) (x : Stored) → number_by (by_hash keys) (item_of (moved_entry node x)) ≡ number_by (by_hash keys) (item_of x)
  renamed-hash keys x = grind arith

  renamed-node : (x : Stored) → is_some (stored_entry x) ≡ true → IsStored x → number_by by_node (item_of (moved_entry node x)) ≡ suc (suc node)
  renamed-node x some is = grind (arith, nat_tests)

  renamed-gone : (x : Stored) → is_gone (moved_entry node x) ≡ is_gone x
  renamed-gone x = grind arith

  renamed-stored : (x : Stored) → node < nowhere → IsStored x → IsStored (moved_entry node x)
  renamed-stored x low is = grind arith

  pub renamed-item : (x : Stored) → is_some (stored_entry x) ≡ true → item_of (moved_entry node x) ≡ for_node node (item_of x)
  renamed-item x some = grind arith

  module _ (items : List Stored) (i : ℕ) (h : i < length items) (some : is_some (stored_entry (get_or items i stored.Hole)) ≡ true) where
    abbrev there : Stored
    there = get_or items i stored.Hole

    abbrev now : List Stored
    now = set items i (moved_entry node there)

    same-by : {Y : Type 0} (f : Stored → Y) → f (moved_entry node there) ≡ f there → map f now ≡ map f items
    same-by f same = map-set_same f items i (moved_entry node there) stored.Hole same

    renewed-solid : (solid : ℕ) → NoHoleFrom solid items → NoHoleFrom solid now
    renewed-solid solid all k from l x = grind (arith, common_steps, nat_tests, get_or-map, length-set, renamed-gone, same-by)

    -- its place in the list, as that is seen from the last item on
    pub renewed-items : listed_items now ≡ changed_at (length items - 1 - i) (for_node node) (listed_items items)
    renewed-items =
        set_nearest item_of (for_node node) items i (length items - 1 - i) stored.Hole (moved_entry node there) (omega arith) (renamed-item there some)

-- what is kept of the list stays so
pub listed-renewed : (node i : ℕ) (old : Slots) {new_names new_hashes new_nodes : List ℕ} {new_keys : Option DefaultHasher} {new_items : List Stored}
    {new_solid : ℕ} → new_keys ≡ old.keys → i < length old.items.items → is_some (stored_entry (get_or old.items.items i stored.Hole)) ≡ true → node < nowhere
    → new_names ≡ old.names → new_hashes ≡ old.hashes → new_nodes ≡ set (set old.nodes i none) i (suc (suc node)) → new_solid ≡ old.solid
    → new_items ≡ set old.items.items i (moved_entry node (get_or old.items.items i stored.Hole))
    → AreListed new_names new_hashes new_nodes new_keys new_items new_solid
listed-renewed node i old {new_items = new_items} keys h some low names hashes nodes solid items = let xs = old.items.items in
    let x = get_or xs i stored.Hole in let stored : IsStored x = All-get_or IsStored xs i stored.Hole h old.listed.stored in
    let name = same-by node xs i h some (λ y. number_by by_name (item_of y)) (renamed-name node x) in
    let hash = same-by node xs i h some (λ y. number_by (by_hash old.keys) (item_of y)) (renamed-hash node old.keys x) in
    let put = map-set (λ (y : Stored). number_by by_node (item_of y)) xs i (moved_entry node x) in
    let twice = set-set old.nodes i none (suc (suc node)) in
    record {
      names = grind (arith, names, old.listed.names, name, items);
      hashes = λ there. grind (arith, hashes, old.listed.hashes, keys, there, hash, items);
      nodes = grind (arith, nodes, twice, old.listed.nodes, renamed-node node x some stored, put, items);
      stored = rw items (All-set IsStored xs i (moved_entry node x) (renamed-stored node x low stored) old.listed.stored);
      within = omega (arith, solid, ap length items, length-set xs i (moved_entry node x), old.listed.within);
      solid = rw (solid, items) (renewed-solid node xs i h some old.solid old.listed.solid);
    }

-- what is in one list and in that list without a member that is not sought
module _ {X : Type 0} (sought : X → Bool) where
  abbrev Around : (with' without' low : ℕ) → Type 0
  Around with' without' low = ((with' ≡ without') × (without' ≤ low)) ⊎ ((with' ≡ suc without') × (low < without'))

  around : (near far : List X) (x : X) → sought x ≡ false → Around (last_place sought (near ++ x ∷ far)) (last_place sought (near ++ far)) (length far)
  around [] far x other = inl (rw other refl, last_place-le sought far)
  around (y ∷ near) far x other = grind (arith, around near far x other, length-append)

  -- the ordinal without the member at an index, from that in a list where one that is not sought is there
  pub record IsPlaceWithout (xs : List X) (i ordinal : ℕ) : Type 0 where
    pub below : ordinal ≤ i → ordinal ≡ last_place sought (reverse (remove xs i))
    pub above : i < ordinal → ordinal - 1 ≡ last_place sought (reverse (remove xs i))

  pub ordinal-without : (xs : List X) (i ordinal : ℕ) (d : X) → i < length xs → sought d ≡ false → ordinal ≡ last_place sought (reverse (set xs i d))
      → IsPlaceWithout xs i ordinal
  ordinal-without xs i ordinal d h other is = grind (arith, reverse-set, reverse-append, length-reverse, length-take-le, around)

module _ (mark : ℕ) (low : mark < nowhere) where
  -- whether a stored item is the entry of the mark
  abbrev pub is_mark : Stored → Bool
  is_mark x = is_entry mark (item_of x)

  pub no-hole : is_mark stored.Hole ≡ false
  no-hole = grind (arith, nat_tests)

  -- what the numbers say, where that at an index is cleared
  pub mark-ordinal : (xs : List Stored) (ns : List ℕ) (i ordinal : ℕ) → i < length xs → All IsStored xs → ns ≡ numbers_by by_node xs
      → ordinal ≡ last_up (λ k. k == suc (suc mark)) (set ns i none) (length (set ns i none)) → IsPlaceWithout is_mark xs i ordinal
  mark-ordinal xs ns i ordinal h all are is = let ys = set xs i stored.Hole in let f : Stored → ℕ = λ x. number_by by_node (item_of x) in
      let place = node-is mark low (listed_items ys) (slots-are ys (All-set IsStored xs i stored.Hole tt all)) in
      let last = last-is (suc (suc mark)) (numbers_by by_node ys) in let turned = ordinal-map item_of (is_entry mark) (reverse ys) in
      ordinal-without is_mark xs i ordinal stored.Hole h no-hole
      (grind (arith, map-set f xs i stored.Hole, last, numbers-back by_node ys, place, reverse-map item_of ys, turned))

-- an item that is put right after the entry of the mark
pub insert-after : (mark : ℕ) (rest : List Stored) (y : Stored) (to : ℕ) → to ≡ last_place (λ x. is_entry mark (item_of x)) (reverse rest)
    → IsTrue (list_any (is_entry mark) (listed_items rest)) → listed_items (insert rest to y) ≡ item_put_before (is_entry mark) (item_of y) (listed_items rest)
insert-after mark rest y zero is there = let none = position-none (λ x. is_entry mark (item_of x)) (reverse rest) in
    absurd (not_missing mark rest there (grind (arith, position_nearest item_of (is_entry mark) rest, none)))
insert-after mark rest y (suc i) is there = let s : Stored → Bool = λ x. is_entry mark (item_of x) in let back = length (reverse rest) - 1 - i in
    let found : position (is_entry mark) (listed_items rest) ≡ Some back = grind
    (arith, position_nearest item_of (is_entry mark) rest, position-some s (reverse rest) i) in
    grind (arith, insert_nearest item_of (is_entry mark) rest i back y found, length-reverse rest, last_place-le s (reverse rest))

-- a write where the member is taken out
pub remove-set : {X : Type 0} (xs : List X) (i : ℕ) (y : X) → remove (set xs i y) i ≡ remove xs i
remove-set xs i y = ap (λ l. l ++ drop (suc i) (set xs i y)) (take-set xs i y) ∙ ap (λ l. take i xs ++ l) (drop-set-lt (suc i) xs i y (omega arith))

-- an entry that becomes that of another node, and is put right after the entry of the mark
pub moved-after : (node mark : ℕ) (items : List Stored) (i to : ℕ) (y : Stored) → i < length items → is_some (stored_entry (get_or items i stored.Hole)) ≡ true
    → y ≡ moved_entry node (get_or items i stored.Hole) → to ≡ last_place (λ x. is_entry mark (item_of x)) (reverse (remove items i))
    → IsTrue (list_any (is_entry mark) (listed_items (remove items i)))
    → listed_items (insert (remove (set items i y) i) to (get_or (set items i y) i stored.Hole))
    ≡ item_put_before (is_entry mark) (for_node node (item_of (get_or items i stored.Hole))) (listed_items (remove items i))
moved-after node mark items i to y within entry new is there = grind (arith, common_steps, nat_tests, get_or-set_same, insert-after, remove-set, renamed-item)

-- An entry that jumps to where a hole is, and leaves one.

-- a hole is before the index from which on there is none
pub hole-before : (xs : List Stored) (solid i : ℕ) → NoHoleFrom solid xs → i < length xs → is_gone (get_or xs i stored.Hole) ≡ true → i < solid
hole-before xs solid i none within gone = grind (arith, common_steps, nat_tests, cases_lt, false≢true)

-- nothing is lost with a hole
without-hole : (xs : List Stored) (i : ℕ) → i < length xs → is_gone (get_or xs i stored.Hole) ≡ true
    → live (listed_items (remove xs i)) ≡ live (listed_items xs)
without-hole [] i within gone = absurd (omega arith)
without-hole (x ∷ xs) zero within gone = grind (arith, live-parts (x ∷ []) xs, append-nil)
without-hole (x ∷ xs) (suc i) within gone = grind (arith, live-parts (x ∷ []) (remove xs i), without-hole xs i, live-parts (x ∷ []) xs)

-- where an entry and a hole after it are exchanged, the others are as they were
pub jumped-rest : (xs : List Stored) (i j : ℕ) → i < j → j < length xs → is_gone (get_or xs j stored.Hole) ≡ true
    → live (listed_items (remove (exchanged xs i j stored.Hole) j)) ≡ live (listed_items (remove xs i))
jumped-rest xs i j above within gone = let y = get_or xs j stored.Hole in let left = set xs i y in let other = get_or-set_other xs i j y stored.Hole in
    let here = get_or-set_same xs i y stored.Hole in let size = length-set xs i y in
    grind (arith, remove-set left j (get_or xs i stored.Hole), without-hole left j, without-hole left i, other, here, size, remove-set xs i y)

stored_entry-there : (x : Stored) → is_some (stored_entry x) ≡ true → is_gone x ≡ false
stored_entry-there x some = grind arith

-- where the others are as they were, so is what comes after the mark
module _ (mark : ℕ) (low : mark < nowhere) (xs ys : List Stored) (i j : ℕ) (old : All IsStored xs) (new : All IsStored ys)
    (same : live (listed_items (remove ys j)) ≡ live (listed_items (remove xs i))) where
  others : (zs : List Stored) (k : ℕ) → All IsStored zs → AreSlots (listed_items (remove zs k))
  others zs k all = slots-are (remove zs k) (All-append IsStored (take k zs) (drop (suc k) zs) (All-take IsStored k zs all) (All-drop IsStored (suc k) zs all))

  pub any-same : list_any (is_entry mark) (listed_items (remove ys j)) ≡ list_any (is_entry mark) (listed_items (remove xs i))
  any-same = sym (any-live mark (listed_items (remove ys j)) (others ys j new) low) ∙ ap (list_any (is_entry mark)) same
      ∙ any-live mark (listed_items (remove xs i)) (others xs i old) low

  pub put-same : (node : ℕ) → is_some (stored_entry (get_or xs i stored.Hole)) ≡ true → i < length xs
      → live (item_put_before (is_entry mark) (for_node node (item_of (get_or xs i stored.Hole))) (listed_items (remove ys j)))
      ≡ live (item_put_before (is_entry mark) (for_node node (item_of (get_or xs i stored.Hole))) (listed_items (remove xs i)))
  put-same node some within = let x = get_or xs i stored.Hole in let item = for_node node (item_of x) in let is = stored_entry-there x some in
      let kept = All-get_or IsStored xs i stored.Hole within old in
      let real : is_listed_hole item ≡ false = grind (arith, is_hole-for_node node (item_of x), gone-is x kept, is) in
      let put = λ (zs : List (Listed ℕ)) (slots : AreSlots zs). put_spared (is_entry mark) item real zs (spares-node mark zs slots low) in
      grind (arith, put (listed_items (remove ys j)) (others ys j new), put (listed_items (remove xs i)) (others xs i old), same)
