-- Vectors of items with holes, and where the entry of a node is in them.
use Rattle.hopen.proofs.Names.{last_place, position-some, ◌≡◌, if◌then◌else◌, ℕ, zero, suc, ◌+◌, ◌-◌, ◌<◌, ◌≤◌, eqb, Bool, true, false, cond, not, List, [], ◌∷◌, ◌++◌, Option, Some, None, is_some, length, map, filter, take, drop, get_or, refl, sym, ◌∙◌, ap, arith, All, position, list_any, slice_get, find, option_and_then, option_map, eqb-zero-suc, append-nil, get_or-map, length-append, length-map, All-drop, All-take, filter-append, EntryOf, Listed, marker, entry, as_entry, entry_of, for_node, is_entry, nth_live, AreSlots, IsSlot, IsStored, hole, is_gone, is_listed_hole, item_of, listed_items, live, nowhere, stored_entry, by_node, number_by, unless_hole, changed_at, Stored, is_some-position, slice_get_nearest, common_steps, nat_tests, drop_at, take-append-drop, take_at, Slots, ◌==◌, reverse, last_up, get_nearest, reverse_split, ltb, ltb-true, eqb-true, up-found, up-within, take-map}
use Rattle.hopen.specs.declared.entry.Slot.TheVariants as stored
use Rattle.hopen.proofs.ByHash.{last-at, number-at}
use Rattle.hopen.proofs.Listed.{along_last, items_of_more, length-items_of, before-is, last-is, last_of, number-same, numbers-back, ordinal, ordinal-le}
use Rattle.hopen.proofs.Live.{AllSolid, nth-none, nth-real, nth-within}

-- a smaller number is another
pub apart : (a b : ℕ) → a < b → eqb a b ≡ false
apart a b h = grind (arith, nat_tests)

-- a number that counts no hole is this one
pub unless : (name n : ℕ) → name < nowhere → suc (suc n) ≡ suc (if name == nowhere then zero else suc n)
unless name n low = ap (λ (v : Bool). suc (cond v zero (suc n))) (sym (apart name nowhere low))

pub gone-is : (x : Stored) → IsStored x → is_listed_hole (item_of x) ≡ is_gone x
gone-is x s = grind (arith, apart)

-- what is known of an item that is no hole
pub stored_entry-is : (x : Stored) → is_gone x ≡ false → stored_entry x ≡ as_entry (item_of x)
stored_entry-is x there = grind arith

pub slot-is : (x : Stored) → IsStored x → IsSlot (item_of x)
slot-is x s = grind arith

pub slots-are : (items : List Stored) → All IsStored items → AreSlots (listed_items items)
slots-are items = along_last (λ xs. All IsStored xs → AreSlots (listed_items xs)) (λ all. tt) more items where
  more : (front : List Stored) (x : Stored) → (All IsStored front → AreSlots (listed_items front)) → All IsStored (front ++ x ∷ [])
      → AreSlots (listed_items (front ++ x ∷ []))
  more front x before all = let first = rw (take_at front (x ∷ []) (length front) refl) at (All-take IsStored (length front) (front ++ x ∷ []) all) in
      let last = rw (drop_at front (x ∷ []) (length front) refl) at (All-drop IsStored (length front) (front ++ x ∷ []) all) in
      rw (items_of_more front x) (slot-is x (last 0 x (omega arith)), before first)

-- without the holes, part by part
pub live-parts : (xs ys : List Stored) → live (listed_items (xs ++ ys)) ≡ live (listed_items ys) ++ live (listed_items xs)
live-parts xs ys = ap live (reverse_split item_of xs ys) ∙ filter-append (λ i. not (is_listed_hole i)) (listed_items ys) (listed_items xs)

-- nothing is lost with the holes
live-first : (x : Stored) (items left : List Stored) → IsStored x → live (listed_items left) ≡ live (listed_items items)
    → live (listed_items (cond (not (is_gone x)) (x ∷ left) left)) ≡ live (listed_items (x ∷ items))
live-first x items left s rest = grind (arith, live-parts, append-nil, gone-is, nat_tests, common_steps)

pub live-closed : (items : List Stored) → All IsStored items → live (listed_items (filter (λ x. not (is_gone x)) items)) ≡ live (listed_items items)
live-closed [] all = refl
live-closed (x ∷ items) all = live-first x items _ (all 0 x (omega arith)) (live-closed items (λ k y h. all (suc k) y (omega arith)))

pub live-tail : (items : List Stored) (from : ℕ) → All IsStored items
    → live (listed_items (take from items ++ filter (λ x. not (is_gone x)) (drop from items))) ≡ live (listed_items items)
live-tail items from all = let closed = live-closed (drop from items) (All-drop IsStored from items all) in
    grind (arith, live-parts (take from items), closed, take-append-drop from items)

-- how many are live
pub length-live : (items : List Stored) → All IsStored items → length (live (listed_items items)) ≡ length (filter (λ x. not (is_gone x)) items)
length-live [] all = refl
length-live (x ∷ items) all = grind
    (arith, live-parts (x ∷ []) items, length-append, gone-is x (all 0 x (omega arith)), length-live items (λ k y h. all (suc k) y (omega arith)))

-- what is at the last ordinal of a number is no hole
module _ (of : EntryOf ℕ → ℕ) (items : List Stored) (n p : ℕ) (x : Stored) (some : 0 < p) (at : ordinal (unless_hole of) (suc (suc n)) (listed_items items) ≡ p)
    (is : x ≡ get_or items (p - 1) x) where
  ordinal-within : p ≤ length items
  ordinal-within = omega (arith, ordinal-le (unless_hole of) (suc (suc n)) (listed_items items), length-items_of items)

  ordinal-number : number_by (unless_hole of) (item_of x) ≡ suc (suc n)
  ordinal-number = let numbers = map (number_by (unless_hole of)) (listed_items items) in let f : Stored → ℕ = λ y. number_by (unless_hole of) (item_of y) in
      let long = length-map (listed_items items) (number_by (unless_hole of)) in let here = number-at (unless_hole of) items p some ordinal-within in
      grind (arith, ordinal-within, long, length-items_of items, here, last-at (suc (suc n)) p numbers, get_or-map f items (p - 1) x 0)

  pub ordinal-there : is_gone x ≡ false
  ordinal-there = grind (arith, ordinal-number)

  pub ordinal-stored_entry : is_some (stored_entry x) ≡ true
  ordinal-stored_entry = grind (arith, ordinal-number)

-- where the last entry of a node is
abbrev pub node_ordinal : ℕ → List (Listed ℕ) → ℕ
node_ordinal node items = ordinal by_node (suc (suc node)) items

-- as the numbers of the nodes tell it
module _ {node number p : ℕ} (s : Slots) (e : number ≡ suc (suc node)) (is : p ≡ last_up (λ k. k == number) s.nodes (length s.nodes)) where
  pub placed : p ≡ node_ordinal node (listed_items s.items.items)
  placed = is ∙ last-is number s.nodes ∙ (λ i. last_of (e i) ((ap reverse s.listed.nodes ∙ numbers-back by_node s.items.items) i))

  pub placed-within : p ≤ length s.items.items
  placed-within = omega (arith, placed, ordinal-le by_node (suc (suc node)) (listed_items s.items.items), length-items_of s.items.items)

pub entry_of-is : (node : ℕ) (items : List (Listed ℕ)) → entry_of node items ≡ option_and_then as_entry (find (is_entry node) items)
entry_of-is node [] = refl
entry_of-is node (i ∷ items) = grind (arith, entry_of-is node items)

-- one is somewhere where it has an ordinal
any-ordinal : {X : Type 0} (s : X → Bool) (xs : List X) → ltb 0 (last_place s xs) ≡ list_any s xs
any-ordinal s [] = refl
any-ordinal s (x ∷ xs) = grind (arith, any-ordinal s xs, nat_tests)

module _ (node : ℕ) (low : node < nowhere) where
  node-same : (e : EntryOf ℕ) (v : Bool) → IsSlot (entry e) → eqb e.node node ≡ v → eqb (suc (by_node e)) (suc (suc node)) ≡ v
  node-same e v slot same = grind (arith, number-same, nat_tests)

  pub node-is : (items : List (Listed ℕ)) → AreSlots items → node_ordinal node items ≡ last_place (is_entry node) items
  node-is [] slots = refl
  node-is (marker ∷ items) slots = rw (eqb-zero-suc (suc node)) (node-is items slots.1)
  node-is (entry e ∷ items) slots = grind (arith, node-is items slots.1, node-same, length-map)

  -- whether it has one
  pub node-any : (items : List (Listed ℕ)) → AreSlots items → ltb 0 (node_ordinal node items) ≡ list_any (is_entry node) items
  node-any items slots = ap (ltb 0) (node-is items slots) ∙ any-ordinal (is_entry node) items

  pub node-none : (items : List (Listed ℕ)) → AreSlots items → node_ordinal node items ≡ 0 → list_any (is_entry node) items ≡ false
  node-none items slots is = sym (node-any items slots) ∙ ap (ltb 0) is

  pub node-some : (items : List (Listed ℕ)) → AreSlots items → list_any (is_entry node) items ≡ true → 0 < node_ordinal node items
  node-some items slots there = ltb-true 0 (node_ordinal node items) (node-any items slots ∙ there)

  pub node-at : (items : List (Listed ℕ)) → AreSlots items → 0 < node_ordinal node items
      → position (is_entry node) items ≡ Some (length items - node_ordinal node items)
  node-at items slots some = grind (arith, node-is items slots, position-some (is_entry node) items (node_ordinal node items - 1))

-- whether it has one before its last one, as the numbers of the nodes tell it
module _ (node number p q : ℕ) (low : node < nowhere) (s : Slots) (e : number ≡ suc (suc node)) (is : p ≡ last_up (λ k. k == number) s.nodes (length s.nodes))
    (some : 0 < p) where
  pub number-placed : get_or s.nodes (p - 1) 0 ≡ suc (suc node)
  number-placed = ap (λ k. get_or s.nodes (k - 1) 0) is ∙ eqb-true _ _ (up-found (λ k. k == number) s.nodes (length s.nodes) (omega (arith, is))) ∙ e

  pub before-any : q ≡ last_up (λ k. k == get_or s.nodes (p - 1) 0) s.nodes (p - 1)
      → ltb 0 q ≡ list_any (is_entry node) (listed_items (take (p - 1) s.items.items))
  before-any before = let items = s.items.items in let within : p ≤ length s.nodes = omega (arith, is, up-within (λ k. k == number) s.nodes (length s.nodes)) in
      let numbers : reverse (take (p - 1) s.nodes) ≡ map (number_by by_node) (listed_items (take (p - 1) items)) = ap (λ ns. reverse (take (p - 1) ns))
      s.listed.nodes ∙ ap reverse (take-map (λ i. number_by by_node (item_of i)) (p - 1) items) ∙ numbers-back by_node (take (p - 1) items) in
      ap (ltb 0) (before ∙ before-is (get_or s.nodes (p - 1) 0) s.nodes (p - 1) (omega (arith, within)) ∙ (λ i. last_of (number-placed i) (numbers i)))
      ∙ node-any node low (listed_items (take (p - 1) items)) (slots-are (take (p - 1) items) (All-take IsStored (p - 1) items s.listed.stored))

pub no-position : {X : Type 0} (sought : X → Bool) (xs : List X) → list_any sought xs ≡ false → position sought xs ≡ None
no-position sought xs none = grind (arith, is_some-position sought xs)

-- the last ones of a vector, where there is no hole from an index on
solid-from : (k : ℕ) (xs : List (Listed ℕ)) → ((j : ℕ) → j < k → j < length xs → is_listed_hole (get_or xs j hole) ≡ false) → AllSolid k xs
solid-from zero xs there = tt
solid-from (suc k) [] there = tt
solid-from (suc k) (x ∷ xs) there = (there 0 (omega arith) (omega arith), solid-from k xs (λ j h w. there (suc j) (omega arith) (omega arith)))

pub solid-end : (items : List Stored) (solid k : ℕ) → All IsStored items
    → ((i : ℕ) → solid ≤ i → i < length items → (x : Stored) → is_gone (get_or items i x) ≡ false) → k ≤ length items - solid → AllSolid k (listed_items items)
solid-end items solid k all there h = solid-from k (listed_items items) (λ j below within.
    let i = length items - suc j in let low : i < length items = omega (arith, length-items_of items) in
    let is = get_nearest item_of items i j stored.Hole hole (omega (arith, length-items_of items)) in
    grind (arith, is, gone-is (get_or items i stored.Hole) (all i stored.Hole low), there i (omega arith) low stored.Hole))

-- an index that was found for an item with this many after it
none-map : {X Y : Type 0} (f : X → Y) (o : Option X) → option_map f o ≡ None → o ≡ None
none-map f o is = grind arith

nth-up : (len index : ℕ) (o : Option ℕ) → ((up : ℕ) → o ≡ Some up → up < len) → Some index ≡ option_map (λ up. len - 1 - up) o
    → (up : ℕ) × ((o ≡ Some up) × (index + suc up ≡ len))
nth-up len index o within is = grind arith

module _ (items : List Stored) (stored : All IsStored items) (back : ℕ) where
  pub nth-missing : option_map (λ up. length items - 1 - up) (nth_live back (listed_items items)) ≡ None → length (live (listed_items items)) ≤ back
  nth-missing is = nth-none back (listed_items items) (none-map (λ up. length items - 1 - up) (nth_live back (listed_items items)) is)

  module _ (index : ℕ) (found : Some index ≡ option_map (λ up. length items - 1 - up) (nth_live back (listed_items items))) where
    pub nth-index : (up : ℕ) × ((nth_live back (listed_items items) ≡ Some up) × (index + suc up ≡ length items))
    nth-index = grind (arith, length-items_of, nth-up, nth-within)

    pub nth-item : (x : Stored) → x ≡ get_or items index x → slice_get (listed_items items) nth-index.0 ≡ Some (item_of x)
    nth-item x is = slice_get_nearest item_of items index nth-index.0 x nth-index.1.1 ∙ ap (λ y. Some (item_of y)) (sym is)

    pub nth-there : (x : Stored) → x ≡ get_or items index x → is_gone x ≡ false
    nth-there x is = grind (arith, nth-index.1, gone-is x, stored index x, nth-real back nth-index.0 (listed_items items), nth-item x is)

pub changed-marker : (up node : ℕ) (items : List (Listed ℕ)) → slice_get items up ≡ Some marker → changed_at up (for_node node) items ≡ items
changed-marker up node [] is = refl
changed-marker zero node (i ∷ items) is = grind arith
changed-marker (suc up) node (i ∷ items) is = grind (arith, changed-marker up node items)

-- what belongs to no entry, and is no hole, is a marker
pub marker-is : (x : Stored) → is_gone x ≡ false → is_some (stored_entry x) ≡ false → item_of x ≡ marker
marker-is x there h = grind arith

pub length-live-le : (xs : List (Listed ℕ)) → length (live xs) ≤ length xs
length-live-le [] = omega arith
length-live-le (x ∷ xs) = grind (arith, length-live-le xs)
