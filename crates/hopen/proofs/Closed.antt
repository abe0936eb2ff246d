-- The holes of a list taken out, and the numbers of what is left.
use Rattle.hopen.proofs.Names.{common_steps, ◌≡◌, ℕ, ◌+◌, ◌<◌, ◌≤◌, ◌==◌, Bool, true, false, not, eqb, is_some, List, [], ◌∷◌, ◌++◌, length, get_or, take, drop, set, map, filter, refl, ◌∙◌, ap, arith, All, swap, not-true, append-nil, append_assoc, drop-map, drop-set-lt, length-append, length-take-le, map-append, take-map, swap_is, All-append, All-drop, All-get_or, All-head, All-tail, All-take, filter-append, entry_hash, none, EntryOf, IsStored, is_gone, item_of, AreListed, Option, DefaultHasher, number_by, unless_hole, Stored, Slots, nat_tests, between, drop_more, get_or-append_right, take-set-le, take_more, between_more, length-swap, swapped_from_swap, All-filter, filter_passes}
use Rattle.hopen.specs.declared.entry.Slot.TheVariants as stored
use Rattle.hopen.proofs.Moved.{NoHoleFrom}

-- what stays from an index on, and what is left
abbrev pub stays : Stored → Bool
stays x = not (is_gone x)

abbrev pub closed : List Stored → ℕ → List Stored
closed items from = take from items ++ filter stays (drop from items)

-- a number is that of a hole just where the item is gone
module _ (of : EntryOf ℕ → ℕ) where
  abbrev number : Stored → ℕ
  number x = number_by (unless_hole of) (item_of x)

  number-stays : (x : Stored) → IsStored x → not (eqb (number x) none) ≡ stays x
  number-stays x is = grind (arith, nat_tests)

  numbers-stay : (xs : List Stored) → All IsStored xs → filter (λ n. not (n == none)) (map number xs) ≡ map number (filter stays xs)
  numbers-stay [] all = refl
  numbers-stay (x ∷ xs) all = grind (arith, numbers-stay xs (All-tail IsStored x xs all), number-stays, All-head, All-tail)

  pub numbers-closed : (items : List Stored) (from : ℕ) (ns : List ℕ) → All IsStored items → ns ≡ map number items
      → take from ns ++ filter (λ n. not (n == none)) (drop from ns) ≡ map number (closed items from)
  numbers-closed items from ns all are = grind (arith, common_steps, nat_tests, drop-map, map-append, numbers-stay, take-map)

solid-closed : (items : List Stored) (from : ℕ) → from ≤ length items → NoHoleFrom from (closed items from)
solid-closed items from h k above l x = grind (arith, length-take-le, length-append, not-true, get_or-append_right, All-get_or, filter_passes)

-- what is kept of the list
pub listed-closed : (from : ℕ) (old : Slots) {new_names new_hashes new_nodes : List ℕ} {new_keys : Option DefaultHasher} {new_items : List Stored}
    {new_solid : ℕ} → new_keys ≡ old.keys → from ≤ length old.items.items
    → new_names ≡ take from old.names ++ filter (λ n. not (n == none)) (drop from old.names)
    → (is_some old.keys ≡ true → new_hashes ≡ take from old.hashes ++ filter (λ n. not (n == none)) (drop from old.hashes))
    → new_nodes ≡ take from old.nodes ++ filter (λ n. not (n == none)) (drop from old.nodes) → new_solid ≡ from → new_items ≡ closed old.items.items from
    → AreListed new_names new_hashes new_nodes new_keys new_items new_solid
listed-closed from old {new_items = new_items} keys h names hashes nodes solid items = let xs = old.items.items in let kept = filter stays (drop from xs) in
    let rest = All-filter stays IsStored (drop from xs) (All-drop IsStored from xs old.listed.stored) in
    let hash = numbers-closed (entry_hash old.keys) xs from old.hashes old.listed.stored in
    record {
      names = grind (arith, names, numbers-closed (λ e. e.name) xs from old.names old.listed.stored old.listed.names, items);
      hashes = λ some. grind (arith, hashes, keys, some, hash, old.listed.hashes, items);
      nodes = grind (arith, nodes, numbers-closed (λ e. e.node) xs from old.nodes old.listed.stored old.listed.nodes, items);
      stored = rw items (All-append IsStored (take from xs) kept (All-take IsStored from xs old.listed.stored) rest);
      within = omega (arith, solid, ap length items, length-append (take from xs) kept, length-take-le from xs h);
      solid = rw (solid, items) (solid-closed xs from h);
    }

-- How far the holes are taken out: what is left of the items before an index comes first, and those from it on are as they were.
pub record IsTaken (from end index : ℕ) (old items : List Stored) : Type 0 where
  pub above : from ≤ end
  pub below : end ≤ index
  pub size : length items ≡ length old
  pub taken : take end items ≡ take from old ++ filter stays (between from index old)
  pub rest : drop index items ≡ drop index old

module _ (from end index : ℕ) (old items : List Stored) (is : IsTaken from end index old items) (h : index < length old) where
  abbrev next : Stored
  next = get_or items index stored.Hole

  next-same : (next ≡ get_or old index stored.Hole) × (drop (index + 1) items ≡ drop (index + 1) old)
  next-same = grind (arith, common_steps, nat_tests, drop_more)

  kept-more : filter stays (between from (index + 1) old) ≡ filter stays (between from index old) ++ filter stays (next ∷ [])
  kept-more = let more = between_more old from index stored.Hole (omega (arith, is.above, is.below)) h in
      grind (arith, more, filter-append stays (between from index old) (get_or old index stored.Hole ∷ []), next-same)

  -- a hole is passed over
  pub taken-hole : is_gone next ≡ true → IsTaken from end (index + 1) old items
  taken-hole gone = grind (arith, kept-more, append-nil, next-same)

  -- and what is none goes to the end of what is left
  pub taken-item : is_gone next ≡ false → IsTaken from (end + 1) (index + 1) old (swap items end index)
  taken-item there = let last = get_or items end stored.Hole in let low : end < length items = omega (arith, is.size, is.below) in
      let high : index < length items = omega (arith, is.size) in let now = swap items end index in
      let new : set (set items end next) index last ≡ now = swap_is items end index stored.Hole low high in
      let before = take-set-le end (set items end next) index last is.below in let first = take-set-le end items end next (omega arith) in
      let moved = (swapped_from_swap items now end index stored.Hole low high refl).0 in
      let rest = drop-set-lt (index + 1) (set items end next) index last (omega arith) in
      let tail = drop-set-lt (index + 1) items end next (omega (arith, is.below)) in
      record {
        above = omega (arith, is.above);
        below = omega (arith, is.below);
        size = length-swap items end index ∙ is.size;
        taken = grind (arith, take_more now end stored.Hole, length-swap items end index, new, before, first, moved, is.taken, append_assoc, kept-more, there);
        rest = grind (arith, new, rest, tail, next-same);
      }
