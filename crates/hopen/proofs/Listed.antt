-- The numbers of the items of a list.
use Rattle.hopen.proofs.Names.{◌≡◌, ℕ, suc, ◌-◌, ◌<◌, ◌≤◌, nat_eq, eqb, Bool, true, false, not, List, [], ◌∷◌, None, length, map, reverse, take, drop, filter, refl, sym, ◌∙◌, ap, arith, list_any, slice_get, option_and_then, reverse-reverse, length-map, eqb-suc-zero, eqb-zero-suc, without, EntryOf, Listed, marker, entry, as_entry, cleared, find_entry, item_of, listed_items, nowhere, by_name, number_by, unless_hole, Stored, reverse-map, drop_nearest, last_place-le, nat_tests, map-map, after, ◌+◌, get_or, Option, Some, IsTrue, ◌++◌, subst, reverse-append, length-reverse, position, find, is_entry, is_some-position, slice_get_nearest, find_at, cond_some, reverse_push, zero, ◌==◌, take-suc, length-take-le, last_up, last_place, take_all}

-- Where a number is last, in a list and in that list from its last member on.

-- where a number is last, in a list whose last member comes first
abbrev pub last_of : ℕ → List ℕ → ℕ
last_of n numbers = last_place (λ k. k == n) numbers

module _ (sought : ℕ → Bool) (ns : List ℕ) where
  pub last_up-is : (k : ℕ) → k ≤ length ns → last_up sought ns k ≡ last_place sought (reverse (take k ns))
  last_up-is zero h = refl
  last_up-is (suc k) h =
      grind (arith, take-suc ns k 0, reverse-append (take k ns) (get_or ns k 0 ∷ []), length-reverse (take k ns), length-take-le k ns, last_up-is k)

-- what the questions answer
pub last-is : (n : ℕ) (ns : List ℕ) → last_up (λ k. k == n) ns (length ns) ≡ last_of n (reverse ns)
last-is n ns = last_up-is (λ k. k == n) ns (length ns) (omega arith) ∙ ap (λ xs. last_of n (reverse xs)) (take_all (length ns) ns (omega arith))

pub before-is : (n : ℕ) (ns : List ℕ) (p : ℕ) → p ≤ length ns → last_up (λ k. k == n) ns p ≡ last_of n (reverse (take p ns))
before-is n ns p h = last_up-is (λ k. k == n) ns p h

-- What a vector of items says, from its last item on.
module _ {X : Type 0} (P : List X → Type 0) (none : P []) (more : (front : List X) (x : X) → P front → P (front ++ x ∷ [])) where
  along_turned : (ys : List X) → P (reverse ys)
  along_turned [] = none
  along_turned (y ∷ ys) = subst P (sym (reverse-append (y ∷ []) ys)) (more (reverse ys) y (along_turned ys))

  -- an induction from the last member on
  pub along_last : (xs : List X) → P xs
  along_last xs = subst P (reverse-reverse xs) (along_turned (reverse xs))

pub items_of_more : (front : List Stored) (x : Stored) → listed_items (front ++ x ∷ []) ≡ item_of x ∷ listed_items front
items_of_more front x = reverse_push item_of front x

pub items_of_last : (items front : List Stored) (x : Stored) → items ≡ front ++ x ∷ [] → listed_items items ≡ item_of x ∷ listed_items front
items_of_last items front x e = ap listed_items e ∙ items_of_more front x

pub length-items_of : (xs : List Stored) → length (listed_items xs) ≡ length xs
length-items_of xs = length-reverse (map item_of xs) ∙ length-map xs item_of

-- an entry that is there is found
pub not_missing : (node : ℕ) (items : List Stored) → IsTrue (list_any (is_entry node) (listed_items items))
    → position (is_entry node) (listed_items items) ≡ None → ⊥
not_missing node items there none = grind (arith, is_some-position (is_entry node) (listed_items items))

-- and is the item that this many come after
pub found_at : (node : ℕ) (items : List Stored) (back i : ℕ) (x : Stored) → position (is_entry node) (listed_items items) ≡ Some back
    → i + suc back ≡ length items → x ≡ get_or items i x → ◌≡◌ {A = Option (Listed ℕ)} (Some (item_of x)) (find (is_entry node) (listed_items items))
found_at node items back i x found at is = grind (arith, cond_some, find_at, slice_get_nearest)

module _ (of : EntryOf ℕ → ℕ) where
  abbrev pub number : Stored → ℕ
  number i = number_by of (item_of i)

  -- the numbers as a search from the last item on meets them
  pub numbers-back : (items : List Stored) → reverse (map number items) ≡ map (number_by of) (listed_items items)
  numbers-back items = ap reverse (sym (map-map (number_by of) item_of items)) ∙ reverse-map (number_by of) (map item_of items)

  pub numbers-seen : (items : List Stored) → map number items ≡ reverse (map (number_by of) (listed_items items))
  numbers-seen items = sym (reverse-reverse (map number items)) ∙ ap reverse (numbers-back items)

  -- the ordinal of the last item of a number
  abbrev pub ordinal : ℕ → List (Listed ℕ) → ℕ
  ordinal n items = last_of n (map (number_by of) items)

  pub ordinal-le : (n : ℕ) (items : List (Listed ℕ)) → ordinal n items ≤ length items
  ordinal-le n items = grind (arith, last_place-le (λ k. eqb k n) (map (number_by of) items), length-map items (number_by of))

-- the ordinal of the last marker, and of the last item of a name
abbrev pub marker_ordinal : List (Listed ℕ) → ℕ
marker_ordinal items = ordinal by_name 0 items

abbrev pub name_ordinal : ℕ → List (Listed ℕ) → ℕ
name_ordinal name items = ordinal by_name (suc (suc name)) items

pub cleared-ordinal : (of : EntryOf ℕ → ℕ) (items : List (Listed ℕ)) → cleared items ≡ drop (length items - (ordinal of 0 items - 1)) items
cleared-ordinal of [] = refl
cleared-ordinal of (marker ∷ items) = grind (arith, length-map)
cleared-ordinal of (entry e ∷ items) =
    let more : suc (length items) - (ordinal of 0 items - 1) ≡ suc (length items - (ordinal of 0 items - 1)) = omega (arith, ordinal-le of 0 items) in
    rw (eqb-suc-zero (of e)) (cleared-ordinal of items ∙ ap (λ n. drop n (entry e ∷ items)) (sym more))

-- what is left before the last marker of a vector
pub cleared-take : (items : List Stored) (len : ℕ) → len ≡ marker_ordinal (listed_items items) - 1
    → cleared (listed_items items) ≡ listed_items (take len items)
cleared-take items len is = let all = listed_items items in let last = drop_nearest item_of items len (length items - len) in
    grind (arith, ordinal-le by_name 0 all, length-items_of items, cleared-ordinal by_name all, last)

-- numbers are the same where what they count is
same-suc : (a b : ℕ) (v : Bool) → eqb a b ≡ v → eqb (suc a) (suc b) ≡ v
same-suc a b v e = grind (arith, nat_tests)

-- a number of an entry is that of what is sought where the entry has what is sought, and no hole has it
pub number-same : (of : EntryOf ℕ → ℕ) (n : ℕ) (e : EntryOf ℕ) (v : Bool) → (e.name ≡ nowhere → v ≡ false) → eqb (of e) n ≡ v
    → eqb (suc (unless_hole of e)) (suc (suc n)) ≡ v
number-same of n e v none same = grind (arith, same-suc, eqb-zero-suc, nat_tests)

named-same : (name : ℕ) → name < nowhere → (e : EntryOf ℕ) (v : Bool) → eqb e.name name ≡ v → eqb (suc (by_name e)) (suc (suc name)) ≡ v
named-same name low e v same = grind (arith, number-same, nat_tests)

turned : (a b : ℕ) (v : Bool) → eqb a b ≡ v → eqb b a ≡ v
turned a b v e = grind (arith, nat_tests)

-- the last entry of a name is the item at its ordinal, unless that is before the last marker
pub find-none : (name : ℕ) → name < nowhere → (items : List (Listed ℕ)) → name_ordinal name items ≤ marker_ordinal items → find_entry nat_eq name items ≡ None
find-none name low [] h = refl
find-none name low (marker ∷ items) h = refl
find-none name low (entry e ∷ items) h = let most = ordinal-le by_name 0 items in let same = named-same name low e (eqb e.name name) refl in
    grind (arith, nat_tests, find-none name low items, most, same, length-map, eqb-suc-zero (by_name e))

pub find-at : (name : ℕ) → name < nowhere → (items : List (Listed ℕ)) → marker_ordinal items < name_ordinal name items
    → option_and_then as_entry (slice_get items (length items - name_ordinal name items)) ≡ find_entry nat_eq name items
find-at name low [] h = absurd (omega arith)
find-at name low (marker ∷ items) h = grind (arith, eqb-zero-suc, ordinal-le, length-map)
find-at name low (entry e ∷ items) h = let most = ordinal-le by_name (suc (suc name)) items in let same = named-same name low e (eqb e.name name) refl in
    grind (arith, nat_tests, find-at name low items, most, same, length-map, eqb-suc-zero (by_name e))

-- the nearest of a node leaves
pub filter-without : {X : Type 0} (sought : X → Bool) (xs : List X) → filter (λ x. not (sought x)) (without sought xs) ≡ filter (λ x. not (sought x)) xs
filter-without sought [] = refl
filter-without sought (x ∷ xs) = grind (arith, filter-without sought xs)

pub any-without : {X : Type 0} (sought : X → Bool) (xs : List X) → list_any sought (without sought xs) ≡ list_any sought (after sought xs)
any-without sought [] = refl
any-without sought (x ∷ xs) = grind (arith, any-without sought xs)

pub any-within : {X : Type 0} (sought : X → Bool) (xs : List X) → list_any sought (without sought xs) ≡ true → list_any sought xs ≡ true
any-within sought [] e = e
any-within sought (x ∷ xs) e = grind (arith, any-within sought xs)

pub filter-all : {X : Type 0} (sought : X → Bool) (xs : List X) → list_any sought xs ≡ false → filter (λ x. not (sought x)) xs ≡ xs
filter-all sought [] e = refl
filter-all sought (x ∷ xs) e = grind (arith, filter-all sought xs)
