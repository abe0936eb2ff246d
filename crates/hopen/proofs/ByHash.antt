-- Only the entries with its hash can be equal to an entry.
use Rattle.hopen.proofs.Names.{add-zero, reverse, take, ◌≡◌, ℕ, zero, suc, ◌+◌, ◌-◌, ◌<◌, ◌≤◌, eqb, Bool, true, false, cond, List, [], ◌∷◌, Option, Some, length, map, filter, drop, get_or, refl, sym, ◌∙◌, ap, arith, if◌then◌else◌, slice_get, option_map_or, eqb-suc-zero, drop-map, take-map, get_or-reverse, length-map, EntryOf, Listed, marker, entry, as_entry, after_marker, number_by, item_of, listed_items, Stored, drop_nearest, last_place-le, nat_tests, drop-nil, drop-drop, get_or-drop, length-drop, None, IfSome, find, find_entry, list_any, remove, option_map, without_earliest, most_equal, is_equal, with_room, le-leb, lt-leb, nat_eq, ◌||◌, Attribute, DefaultHasher, entry_hash, distinct, hash_of, are_among, same_attribute, nowhere, stored_entry, by_hash, nat_cmp, Less, IsSorted, IsPermutation, dedup, dedup_from, AllByRecursion, nat_cmp_is, unsigned_ties, nat_cmp-IsAntisymmetric, is_at, nat_cmp_total, IsStrictlySortedBy-dedup, list_any-IsPermutation, btree_set_from_contains, bytes_eq-true, hash_put_in}
use Rattle.hopen.proofs.Listed.{last_of, length-items_of, number as numbered, numbers-back, numbers-seen, ordinal, ordinal-le}
use Rattle.std.specs.List.Sorted.{IsStrictlySortedBy}

-- The earliest of the entries after the last marker that are sought, by how many items come after it.
module _ {N : Type 0} (sought : EntryOf N → Bool) where
  -- the farthest entry that is sought, where this many items come after the first of them; if none is, what was found before
  abbrev pub farthest : ℕ → Option ℕ → List (EntryOf N) → Option ℕ
  farthest up found [] = found
  farthest up found (e ∷ es) = farthest (suc up) (if sought e then Some up else found) es

  pub farthest-within : (up : ℕ) (found : Option ℕ) (es : List (EntryOf N)) (n : ℕ) → up + length es ≤ n → IfSome found (λ k. k < n)
      → IfSome (farthest up found es) (λ k. k < n)
  farthest-within up found [] n h before = before
  farthest-within up found (e ∷ es) n h before = grind (arith, farthest-within (suc up) (if sought e then Some up else found) es n)

  farthest-up : (up : ℕ) (found : Option ℕ) (es : List (EntryOf N)) → farthest (suc up) (option_map suc found) es ≡ option_map suc (farthest up found es)
  farthest-up up found [] = refl
  farthest-up up found (e ∷ es) = grind (arith, farthest-up (suc up) (if sought e then Some up else found) es)

  farthest-none : (up : ℕ) (found : Option ℕ) (es : List (EntryOf N)) → list_any sought es ≡ false → farthest up found es ≡ found
  farthest-none up found [] none = refl
  farthest-none up found (e ∷ es) none = grind (arith, farthest-none (suc up) found es)

  farthest-some : (up : ℕ) (found : Option ℕ) (es : List (EntryOf N)) → list_any sought es ≡ true → farthest up found es ≡ farthest up None es
  farthest-some up found [] some = cc
  farthest-some up found (e ∷ es) some = grind (arith, farthest-some (suc up) found es)

  -- the list without it
  pub removed : (items : List (Listed N)) → option_map_or (remove items) (farthest 0 None (after_marker items)) items ≡ without_earliest sought items
  removed [] = refl
  removed (marker ∷ items) = refl
  removed (entry e ∷ items) = let all = after_marker items in let later = farthest-up 0 None all in
      grind (arith, removed items, later, farthest-none 1 (Some 0) all, farthest-some 1 (Some 0) all)

-- where no entry has the name of a new one, none is equal to it
module _ {N : Type 0} (same : N → N → Bool) (new : EntryOf N) where
  none-equal : (es : List (EntryOf N)) → find (λ e. same new.name e.name) es ≡ None → filter (is_equal same new) es ≡ []
  none-equal [] none = refl
  none-equal (e ∷ es) none = grind (arith, none-equal es)

  pub room-unmet : (items : List (Listed N)) → find_entry same new.name items ≡ None → items ≡ with_room same new items
  room-unmet items none = rw (none-equal (after_marker items) none) refl

-- the list without what gives way to a new entry, where this many are equal to it
module _ {N : Type 0} (same : N → N → Bool) (new : EntryOf N) (items : List (Listed N)) (equal : ℕ)
    (count : equal ≡ length (filter (is_equal same new) (after_marker items))) where
  pub room-made : most_equal ≤ equal → option_map_or (remove items) (farthest (is_equal same new) 0 None (after_marker items)) items ≡ with_room same new items
  room-made many = rw (le-leb most_equal (length (filter (is_equal same new) (after_marker items))) (omega arith)) (removed (is_equal same new) items)

  pub room-there : equal < most_equal → items ≡ with_room same new items
  room-there few = rw (lt-leb most_equal (length (filter (is_equal same new) (after_marker items))) (omega arith)) refl

-- what is at the last ordinal of a number
pub last-at : (n p : ℕ) (ns : List ℕ) → last_of n ns ≡ p → 0 < p → get_or ns (length ns - p) 0 ≡ n
last-at n p [] is some = absurd (omega arith)
last-at n p (x ∷ ns) is some = grind (arith, last-at n p ns, last_of, last_place-le, nat_tests)

module _ {N : Type 0} where
  -- an item after the last marker is an entry
  pub entry-up : (items : List (Listed N)) (up : ℕ) (x : Listed N) → slice_get items up ≡ Some x → up < length (after_marker items)
      → (e : EntryOf N) × ((x ≡ entry e) × (drop up (after_marker items) ≡ e ∷ drop (suc up) (after_marker items)))
  entry-up [] up x is h = absurd (omega arith)
  entry-up (marker ∷ items) up x is h = absurd (omega arith)
  entry-up (entry e ∷ items) zero x is h = (e, (cc, refl))
  entry-up (entry e ∷ items) (suc up) x is h = entry-up items up x is (omega arith)

  pub after-drop : (items : List (Listed N)) (up : ℕ) → up ≤ length (after_marker items) → after_marker (drop up items) ≡ drop up (after_marker items)
  after-drop items zero h = refl
  after-drop [] (suc up) h = absurd (omega arith)
  after-drop (i ∷ items) (suc up) h = grind (arith, after-drop items up)

module _ (of : EntryOf ℕ → ℕ) where
  -- how many entries are after the last marker
  pub length-after : (items : List (Listed ℕ)) → length (after_marker items) + ordinal of 0 items ≡ length items
  length-after [] = refl
  length-after (marker ∷ items) = omega (arith, length-map items (number_by of))
  length-after (entry e ∷ items) = rw (eqb-suc-zero (of e)) (omega (arith, length-after items))

  module _ (sought : EntryOf ℕ → Bool) (n : ℕ) (law : (e : EntryOf ℕ) → sought e ≡ true → suc (of e) ≡ n) where
    not-sought : (e : EntryOf ℕ) → eqb (suc (of e)) n ≡ false → sought e ≡ false
    not-sought e other = grind (arith, nat_tests)

    -- none is sought before the last entry of the number
    pub record Skips (items : List (Listed ℕ)) (up : ℕ) (entries : List (EntryOf ℕ)) : Type 0 where
      pub count : length (filter sought entries) ≡ length (filter sought (after_marker items))
      pub first : (found : Option ℕ) → farthest sought (up + (length items - ordinal of n items)) found entries ≡ farthest sought up found (after_marker items)

    pub skips : (items : List (Listed ℕ)) (up : ℕ) → Skips items up (drop (length items - ordinal of n items) (after_marker items))
    skips [] up = record { count = refl; first = λ found. refl }
    skips (marker ∷ items) up = rw (drop-nil) (record { count = refl; first = λ found. refl })
    skips (entry e ∷ items) up = go (eqb (suc (of e)) n) refl (skips items (suc up)) where
      go : (v : Bool) → eqb (suc (of e)) n ≡ v → Skips items (suc up) (drop (length items - ordinal of n items) (after_marker items)) → Skips (entry e ∷ items)
          up (drop (suc (length items) - cond v (suc (length (map (number_by of) items))) (ordinal of n items)) (e ∷ after_marker items))
      go true same rest = let none : suc (length items) - suc (length (map (number_by of) items)) ≡ 0 = omega (arith, length-map items (number_by of)) in
          rw none (record { count = refl; first = λ found. rw (same, none, add-zero) refl })
      go false same rest =
          let later : suc (length items) - ordinal of n items ≡ suc (length items - ordinal of n items) = omega (arith, ordinal-le of n items) in
          let past : up + (suc (length items) - ordinal of n items) ≡ suc up + (length items - ordinal of n items) = omega (arith, ordinal-le of n items) in
          rw later (record {
            count = rw (not-sought e same) rest.count;
            first = λ found. rw (same, past)
                (rest.first found ∙ ap (λ v. farthest sought (suc up) (if v then Some up else found) (after_marker items)) (sym (not-sought e same)));
          })

    -- a step back from an item after the last marker to the one before it of the number
    pub record Steps (items : List (Listed ℕ)) (p q : ℕ) (here : Bool) : Type 0 where
      pub nearer : q < p
      pub number : 0 < q → get_or (map (number_by of) items) (length items - q) 0 ≡ n
      pub count : length (filter sought (drop (length items - q) (after_marker items))) + (if here then 1 else 0)
          ≡ length (filter sought (drop (length items - p) (after_marker items)))
      pub first : (found : Option ℕ) → farthest sought (length items - q) (if here then Some (length items - p) else found)
          (drop (length items - q) (after_marker items)) ≡ farthest sought (length items - p) found (drop (length items - p) (after_marker items))

    abbrev is_sought : Listed ℕ → Bool
    is_sought x = option_map_or sought (as_entry x) false

    one-more : (e : EntryOf ℕ) (es : List (EntryOf ℕ)) (k : ℕ) → k ≡ length (filter sought es)
        → k + (if sought e then 1 else 0) ≡ length (filter sought (e ∷ es))
    one-more e es k is = grind arith

    pub steps : (items : List (Listed ℕ)) (p q : ℕ) (x : Listed ℕ) → p ≤ length items → ordinal of 0 items < p → slice_get items (length items - p) ≡ Some x
        → q ≡ ordinal of n (drop (suc (length items - p)) items) → Steps items p q (is_sought x)
    steps items p q x within marked is before = let up = length items - p in let rest = drop (suc up) items in let all = after_marker items in
        let size = length-drop (suc up) items in let there = entry-up items up x is (omega (arith, length-after items)) in
        let left = after-drop items (suc up) (omega (arith, length-after items)) in let low = ordinal-le of n rest in let skipped = skips rest (suc up) in
        let entries : drop (length rest - ordinal of n rest) (after_marker rest) ≡ drop (length items - q) all = grind
        (arith, size, left, low, drop-drop (length rest - ordinal of n rest) (suc up) all) in
        let k = length (map (number_by of) rest) - q in
        let further : suc up + k ≡ length items - q = omega (arith, length-map rest (number_by of), size, low) in
        let numbers = drop-map (number_by of) (suc up) items in let last = last-at n q (map (number_by of) rest) in
        record {
          nearer = omega (arith, size, low);
          number = λ some. grind (arith, further, get_or-drop (suc up) (map (number_by of) items) k 0, numbers, last);
          count = grind (arith, there.1.0, there.1.1, entries, skipped.count, left);
          first = λ found. grind (arith, there.1.0, there.1.1, entries, skipped.first (if sought there.0 then Some up else found), left, size, low);
        }

-- the number at an ordinal of a vector, and those before it
module _ (of : EntryOf ℕ → ℕ) (items : List Stored) (p : ℕ) (some : 0 < p) (within : p ≤ length items) where
  pub number-at : get_or (map (numbered of) items) (p - 1) 0 ≡ get_or (map (number_by of) (listed_items items)) (length items - p) 0
  number-at = grind (arith, length-map, length-items_of, numbers-seen, get_or-reverse)

  pub numbers-before : reverse (take (p - 1) (map (numbered of) items)) ≡ map (number_by of) (drop (suc (length items - p)) (listed_items items))
  numbers-before = ap reverse (take-map (numbered of) (p - 1) items) ∙ numbers-back of (take (p - 1) items)
      ∙ ap (map (number_by of)) (sym (drop_nearest item_of items (p - 1) (suc (length items - p)) (omega arith)))

-- Equal entries have the same hash, and the same number by it.

-- numbers that ascend, with one more
abbrev AllAbove : ℕ → List ℕ → Type 0
AllAbove x xs = AllByRecursion (λ y. nat_cmp x y ≡ Less) xs

less : (x y : ℕ) → x < y → nat_cmp x y ≡ Less
less x y h = sym (nat_cmp_is x y Less h)

above-trans : (x y : ℕ) (zs : List ℕ) → nat_cmp x y ≡ Less → AllAbove y zs → AllAbove x zs
above-trans x y [] h all = tt
above-trans x y (z ∷ zs) h all = (nat_cmp_total.trans x y z h all.0, above-trans x y zs h all.1)

above-put : (x n : ℕ) (ys : List ℕ) → nat_cmp x n ≡ Less → AllAbove x ys → AllAbove x (hash_put_in n ys)
above-put x n [] h all = (h, tt)
above-put x n (y ∷ ys) h all = grind (arith, above-put x n ys h all.1)

ascends-put : (n : ℕ) (xs : List ℕ) → IsStrictlySortedBy nat_cmp xs → IsStrictlySortedBy nat_cmp (hash_put_in n xs)
unfolding IsStrictlySortedBy
ascends-put n [] s = (tt, tt)
ascends-put n (x ∷ xs) s = grind (arith, nat_tests, ascends-put n xs s.1, less n x, less x n, above-trans n x xs, above-put x n xs)

ascends : (xs : List ℕ) → IsStrictlySortedBy nat_cmp (distinct xs)
unfolding IsStrictlySortedBy
ascends [] = tt
ascends (x ∷ xs) = ascends-put x (distinct xs) (ascends xs)

-- a test finds one among them as before
module _ (p : ℕ → Bool) where
  any-put : (n : ℕ) (xs : List ℕ) → list_any p (hash_put_in n xs) ≡ (p n || list_any p xs)
  any-put n [] = refl
  any-put n (x ∷ xs) = grind (arith, any-put n xs, nat_tests)

  any-distinct : (xs : List ℕ) → list_any p (distinct xs) ≡ list_any p xs
  any-distinct [] = refl
  any-distinct (x ∷ xs) = any-put x (distinct xs) ∙ ap (λ v. p x || v) (any-distinct xs)

  any-dedup_from : (k : ℕ) (xs : List ℕ) → list_any p (dedup_from eqb k xs) ≡ (p k || list_any p xs)
  any-dedup_from k [] = refl
  any-dedup_from k (x ∷ xs) = grind (arith, any-dedup_from k xs, any-dedup_from x xs, nat_tests)

  any-dedup : (xs : List ℕ) → list_any p (dedup eqb xs) ≡ list_any p xs
  any-dedup xs = grind (arith, any-dedup_from)

-- numbers that ascend are known by the tests that find one
unique : (xs ys : List ℕ) → IsStrictlySortedBy nat_cmp xs → IsStrictlySortedBy nat_cmp ys → ((p : ℕ → Bool) → list_any p xs ≡ list_any p ys) → xs ≡ ys
unique xs ys s t same =
    btree_set_from_contains nat_cmp_total (record { keys = xs }) (record { keys = ys }) s t (λ q. same (is_at (nat_cmp q))) nat_cmp-IsAntisymmetric

-- what is left of sorted numbers
pub sorted-distinct : (xs sorted : List ℕ) → IsPermutation xs sorted → IsSorted nat_cmp sorted → dedup eqb sorted ≡ distinct xs
sorted-distinct xs sorted moved s = unique (dedup eqb sorted) (distinct xs) (IsStrictlySortedBy-dedup nat_cmp_total unsigned_ties sorted s) (ascends xs)
    (λ p. any-dedup p sorted ∙ sym (list_any-IsPermutation p xs sorted moved) ∙ sym (any-distinct p xs))

module _ (keys : DefaultHasher) where
  -- attributes that are the same have the same hash
  same-hash : (a b : Attribute ℕ) → same_attribute nat_eq a b ≡ true → (hash_of keys) a ≡ (hash_of keys) b
  same-hash a b e = grind (arith, bytes_eq-true, nat_tests)

  module _ (p : ℕ → Bool) where
    any-same : (a : Attribute ℕ) (ys : List (Attribute ℕ)) → list_any (same_attribute nat_eq a) ys ≡ true → p ((hash_of keys) a) ≡ true
        → list_any p (map (hash_of keys) ys) ≡ true
    any-same a [] found h = cc
    any-same a (y ∷ ys) found h = grind (arith, any-same a ys, same-hash a y)

    any-among : (xs ys : List (Attribute ℕ)) → are_among nat_eq xs ys ≡ true → list_any p (map (hash_of keys) xs) ≡ true
        → list_any p (map (hash_of keys) ys) ≡ true
    any-among [] ys all found = cc
    any-among (x ∷ xs) ys all found = grind (arith, any-among xs ys, any-same)

  same-hashes : (xs ys : List (Attribute ℕ)) → are_among nat_eq xs ys ≡ true → are_among nat_eq ys xs ≡ true
      → distinct (map (hash_of keys) xs) ≡ distinct (map (hash_of keys) ys)
  same-hashes xs ys there back = grind (arith, unique, ascends, any-distinct, any-among)

-- entries that are equal have the same name, and the same hash
module _ (new e : EntryOf ℕ) (equal : is_equal nat_eq new e ≡ true) where
  same-name : new.name ≡ e.name
  same-name = grind (arith, nat_tests)

  pub same-entry_hash : (keys : Option DefaultHasher) → entry_hash keys new ≡ entry_hash keys e
  same-entry_hash keys = grind (arith, same-name, same-hashes)

  -- An entry that is equal to one with a name is no hole, and has the number of the same hash.
  pub same-number : (keys : Option DefaultHasher) → new.name < nowhere → suc (by_hash keys e) ≡ suc (suc (entry_hash keys new))
  same-number keys named = grind (arith, same-name, same-entry_hash, nat_tests)

-- an item that is found equal is seen as such an entry
pub stored_entry-equal : (new : EntryOf ℕ) → new.name < nowhere → (x : Stored)
    → option_map_or (is_equal nat_eq new) (stored_entry x) false ≡ option_map_or (is_equal nat_eq new) (as_entry (item_of x)) false
stored_entry-equal new named h = grind (arith, nat_tests)
