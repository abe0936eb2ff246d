-- Lists with holes: what is asked of the formatting elements and what is done with them are the same without the holes.
use Rattle.hopen.proofs.Names.{◌-◌, ◌≡◌, ℕ, zero, suc, ◌<◌, ◌≤◌, nat_eq, eqb, Bool, true, false, List, [], ◌∷◌, Option, Some, None, if◌then◌else◌, length, filter, refl, ap, arith, find, list_any, slice_get, option_map, eqb-true, ne_eqb, changed_at, EntryOf, Listed, entry, after_marker, is_entry, entry_of, for_node, find_entry, nth_live, nowhere, is_listed_hole, live, IsSlot, AreSlots, nat_tests, cond, not, remove, without, item_put_before, cleared, with_node, booked, has_bookmark, without_earliest, with_room, hole, Bookmark, InPlace, After, changed}

-- a number below nowhere is not that of a hole
pub apart : (a b : ℕ) → a < nowhere → eqb b nowhere ≡ true → eqb a b ≡ false
apart a b low h = let top : b ≡ nowhere = eqb-true b nowhere h in ne_eqb a b (λ same. omega arith)

pub is_hole-for_node : (node : ℕ) (i : Listed ℕ) → is_listed_hole (for_node node i) ≡ is_listed_hole i
is_hole-for_node node i = grind arith

-- questions of the entries after the last marker, none of which is sought in a hole
module _ (sought : EntryOf ℕ → Bool) (spares : (e : EntryOf ℕ) → is_listed_hole (entry e) ≡ true → sought e ≡ false) where
  pub find_after-live : (xs : List (Listed ℕ)) → find sought (after_marker (live xs)) ≡ find sought (after_marker xs)
  find_after-live [] = refl
  find_after-live (x ∷ xs) = grind (arith, find_after-live xs, spares)

  pub any_after-live : (xs : List (Listed ℕ)) → list_any sought (after_marker (live xs)) ≡ list_any sought (after_marker xs)
  any_after-live [] = refl
  any_after-live (x ∷ xs) = grind (arith, any_after-live xs, spares)

  pub filter_after-live : (xs : List (Listed ℕ)) → filter sought (after_marker (live xs)) ≡ filter sought (after_marker xs)
  filter_after-live [] = refl
  filter_after-live (x ∷ xs) = grind (arith, filter_after-live xs, spares)

-- the last entry of a name
pub find-live : (name : ℕ) (xs : List (Listed ℕ)) → name < nowhere → find_entry nat_eq name (live xs) ≡ find_entry nat_eq name xs
find-live name xs low = find_after-live (λ e. nat_eq name e.name) (λ e h. apart name e.name low h) xs

-- no hole of a list is sought
abbrev pub Spares : (Listed ℕ → Bool) → List (Listed ℕ) → Type 0
Spares sought [] = Unit {0}
Spares sought (x ∷ xs) = (is_listed_hole x ≡ true → sought x ≡ false) × Spares sought xs

spares-slot : (node : ℕ) (x : Listed ℕ) → IsSlot x → node < nowhere → is_listed_hole x ≡ true → is_entry node x ≡ false
spares-slot node x s low h = grind (arith, nat_tests)

-- the entry of a node is no hole
pub spares-node : (node : ℕ) (xs : List (Listed ℕ)) → AreSlots xs → node < nowhere → Spares (is_entry node) xs
spares-node node [] s low = tt
spares-node node (x ∷ xs) s low = (spares-slot node x s.0 low, spares-node node xs s.1 low)

module _ (sought : Listed ℕ → Bool) where
  pub find_spared : (xs : List (Listed ℕ)) → Spares sought xs → find sought (live xs) ≡ find sought xs
  find_spared [] s = refl
  find_spared (x ∷ xs) s = grind (arith, find_spared xs s.1)

  pub any_spared : (xs : List (Listed ℕ)) → Spares sought xs → list_any sought (live xs) ≡ list_any sought xs
  any_spared [] s = refl
  any_spared (x ∷ xs) s = grind (arith, any_spared xs s.1)

-- questions of the entry of a node
module _ (node : ℕ) (xs : List (Listed ℕ)) (slots : AreSlots xs) (low : node < nowhere) where
  pub find_is-live : find (is_entry node) (live xs) ≡ find (is_entry node) xs
  find_is-live = find_spared (is_entry node) xs (spares-node node xs slots low)

  pub any-live : list_any (is_entry node) (live xs) ≡ list_any (is_entry node) xs
  any-live = any_spared (is_entry node) xs (spares-node node xs slots low)

entry_of-spared : (node : ℕ) (xs : List (Listed ℕ)) → Spares (is_entry node) xs → entry_of node (live xs) ≡ entry_of node xs
entry_of-spared node [] s = refl
entry_of-spared node (x ∷ xs) s = grind (arith, entry_of-spared node xs s.1)

pub entry_of-live : (node : ℕ) (xs : List (Listed ℕ)) → AreSlots xs → node < nowhere → entry_of node (live xs) ≡ entry_of node xs
entry_of-live node xs s low = entry_of-spared node xs (spares-node node xs s low)

some_suc : (o : Option ℕ) (up : ℕ) → option_map suc o ≡ Some up → (k : ℕ) × (o ≡ Some k) × (up ≡ suc k)
some_suc o up e = grind arith

-- an induction along the items before it
module _ (P : ℕ → List (Listed ℕ) → ℕ → Type 0) (here : (x : Listed ℕ) (xs : List (Listed ℕ)) → is_listed_hole x ≡ false → P 0 (x ∷ xs) 0)
    (past : (n up : ℕ) (x : Listed ℕ) (xs : List (Listed ℕ)) → is_listed_hole x ≡ true → P n xs up → P n (x ∷ xs) (suc up))
    (over : (n up : ℕ) (x : Listed ℕ) (xs : List (Listed ℕ)) → is_listed_hole x ≡ false → P n xs up → P (suc n) (x ∷ xs) (suc up)) where
  along_nth : (n up : ℕ) (xs : List (Listed ℕ)) → nth_live n xs ≡ Some up → P n xs up
  along_nth n up [] e = cc
  along_nth zero up (x ∷ xs) e = go (is_listed_hole x) refl e (λ k. along_nth zero k xs) where
    go : (v : Bool) → is_listed_hole x ≡ v → (if v then option_map suc (nth_live zero xs) else Some 0) ≡ Some up
        → ((k : ℕ) → nth_live zero xs ≡ Some k → P zero xs k) → P zero (x ∷ xs) up
    go true h e i = let s = some_suc (nth_live zero xs) up e in rw s.2 (past zero s.0 x xs h (i s.0 s.1))
    go false h e i = let first : up ≡ 0 = cc in rw first (here x xs h)
  along_nth (suc n) up (x ∷ xs) e = go (is_listed_hole x) refl e (λ k. along_nth (suc n) k xs) (λ k. along_nth n k xs) where
    go : (v : Bool) → is_listed_hole x ≡ v → (if v then option_map suc (nth_live (suc n) xs) else option_map suc (nth_live n xs)) ≡ Some up
        → ((k : ℕ) → nth_live (suc n) xs ≡ Some k → P (suc n) xs k) → ((k : ℕ) → nth_live n xs ≡ Some k → P n xs k) → P (suc n) (x ∷ xs) up
    go true h e i j = let s = some_suc (nth_live (suc n) xs) up e in rw s.2 (past (suc n) s.0 x xs h (i s.0 s.1))
    go false h e i j = let s = some_suc (nth_live n xs) up e in rw s.2 (over n s.0 x xs h (j s.0 s.1))

pub nth-within : (n up : ℕ) (xs : List (Listed ℕ)) → nth_live n xs ≡ Some up → up < length xs
nth-within = along_nth (λ n xs up. up < length xs) (λ x xs h. omega arith) (λ n up x xs h i. omega arith) (λ n up x xs h i. omega arith)

pub nth-get : (n up : ℕ) (xs : List (Listed ℕ)) → nth_live n xs ≡ Some up → slice_get (live xs) n ≡ slice_get xs up
nth-get = along_nth (λ n xs up. slice_get (live xs) n ≡ slice_get xs up) (λ x xs h. rw h refl) (λ n up x xs h i. rw h i) (λ n up x xs h i. rw h i)

pub nth-real : (n up : ℕ) (xs : List (Listed ℕ)) → nth_live n xs ≡ Some up → (x : Listed ℕ) → slice_get xs up ≡ Some x → is_listed_hole x ≡ false
nth-real = along_nth (λ n xs up. (x : Listed ℕ) → slice_get xs up ≡ Some x → is_listed_hole x ≡ false) (λ x xs h y e. grind arith)
    (λ n up x xs h i. i) (λ n up x xs h i. i)

pub nth-changed : (f : Listed ℕ → Listed ℕ) → ((i : Listed ℕ) → is_listed_hole (f i) ≡ is_listed_hole i) → (n up : ℕ) (xs : List (Listed ℕ))
    → nth_live n xs ≡ Some up → changed_at n f (live xs) ≡ live (changed_at up f xs)
nth-changed f same = along_nth (λ n xs up. changed_at n f (live xs) ≡ live (changed_at up f xs)) (λ x xs h. rw (same x, h) refl) (λ n up x xs h i. rw h i)
    (λ n up x xs h i. rw h (ap (λ l. x ∷ l) i))

none_suc : (o : Option ℕ) → option_map suc o ≡ None → o ≡ None
none_suc o e = grind arith

pub nth-none : (n : ℕ) (xs : List (Listed ℕ)) → nth_live n xs ≡ None → length (live xs) ≤ n
nth-none n [] e = omega arith
nth-none zero (x ∷ xs) e = grind (arith, nth-none zero xs, none_suc)
nth-none (suc n) (x ∷ xs) e = grind (arith, nth-none (suc n) xs, nth-none n xs, none_suc)

-- the first k items are no holes
abbrev pub AllSolid : ℕ → List (Listed ℕ) → Type 0
AllSolid zero xs = Unit {0}
AllSolid (suc k) [] = Unit {0}
AllSolid (suc k) (x ∷ xs) = (is_listed_hole x ≡ false) × AllSolid k xs

pub nth-solid : (k n : ℕ) (xs : List (Listed ℕ)) → AllSolid k xs → n < k → k ≤ length xs → nth_live n xs ≡ Some n
nth-solid zero n xs s below within = absurd (omega arith)
nth-solid (suc k) n [] s below within = absurd (omega arith)
nth-solid (suc k) n (x ∷ xs) s below within = grind (arith, s, nth-solid k (n - 1) xs s.1)

-- Edits of lists with holes: what is left without the holes, and that each item is still a marker, an entry or the hole.
pub live-cons : (x : Listed ℕ) (xs ys : List (Listed ℕ)) → live xs ≡ live ys → live (x ∷ xs) ≡ live (x ∷ ys)
live-cons x xs ys same = ap (λ l. cond (not (is_listed_hole x)) (x ∷ l) l) same

-- up to the last marker
pub cleared-live : (xs : List (Listed ℕ)) → cleared (live xs) ≡ live (cleared xs)
cleared-live [] = refl
cleared-live (x ∷ xs) = grind (arith, cleared-live xs)

-- room for a new entry
module _ (sought : EntryOf ℕ → Bool) (spares : (e : EntryOf ℕ) → is_listed_hole (entry e) ≡ true → sought e ≡ false) where
  pub earliest-live : (xs : List (Listed ℕ)) → without_earliest sought (live xs) ≡ live (without_earliest sought xs)
  earliest-live [] = refl
  earliest-live (x ∷ xs) = grind (arith, earliest-live xs, spares, any_after-live)

pub room-live : (new : EntryOf ℕ) (xs : List (Listed ℕ)) → new.name < nowhere → with_room nat_eq new (live xs) ≡ live (with_room nat_eq new xs)
room-live new xs low = grind (arith, filter_after-live, apart, earliest-live)

-- a hole in an item's place
pub hide-live : (k : ℕ) (xs : List (Listed ℕ)) → live (changed_at k (λ _. hole) xs) ≡ live (remove xs k)
hide-live zero xs = grind arith
hide-live (suc k) [] = refl
hide-live (suc k) (x ∷ xs) = live-cons x (changed_at k (λ _. hole) xs) (remove xs k) (hide-live k xs)

-- edits at the nearest that is sought, where no hole is
module _ (sought : Listed ℕ → Bool) where
  pub changed_spared : (f : Listed ℕ → Listed ℕ) → ((i : Listed ℕ) → is_listed_hole (f i) ≡ is_listed_hole i) → (xs : List (Listed ℕ)) → Spares sought xs
      → changed sought f (live xs) ≡ live (changed sought f xs)
  changed_spared f same [] s = refl
  changed_spared f same (x ∷ xs) s = grind (arith, changed_spared f same xs s.1)

  pub without_spared : (xs : List (Listed ℕ)) → Spares sought xs → without sought (live xs) ≡ live (without sought xs)
  without_spared [] s = refl
  without_spared (x ∷ xs) s = grind (arith, without_spared xs s.1)

  pub put_spared : (new : Listed ℕ) → is_listed_hole new ≡ false → (xs : List (Listed ℕ)) → Spares sought xs
      → item_put_before sought new (live xs) ≡ live (item_put_before sought new xs)
  put_spared new real [] s = refl
  put_spared new real (x ∷ xs) s = grind (arith, put_spared new real xs s.1)

  -- what is found is no hole
  pub found_real : (x : Listed ℕ) (xs : List (Listed ℕ)) → Spares sought xs → find sought xs ≡ Some x → is_listed_hole x ≡ false
  found_real x [] s found = cc
  found_real x (y ∷ xs) s found = grind (arith, found_real x xs s.1)

-- edits at the entry of a node
module _ (old : ℕ) (xs : List (Listed ℕ)) (slots : AreSlots xs) (low : old < nowhere) where
  pub with_node-live : (new : ℕ) → with_node old new (live xs) ≡ live (with_node old new xs)
  with_node-live new = changed_spared (is_entry old) (for_node new) (is_hole-for_node new) xs (spares-node old xs slots low)

  pub without1-live : without (is_entry old) (live xs) ≡ live (without (is_entry old) xs)
  without1-live = without_spared (is_entry old) xs (spares-node old xs slots low)

-- the items stay markers, entries or the hole
slots-either : (v : Bool) (xs ys : List (Listed ℕ)) → AreSlots xs → AreSlots ys → AreSlots (cond v xs ys)
slots-either v xs ys s t = grind arith

pub slots-without : (sought : Listed ℕ → Bool) (xs : List (Listed ℕ)) → AreSlots xs → AreSlots (without sought xs)
slots-without sought [] s = tt
slots-without sought (x ∷ xs) s = slots-either (sought x) xs (x ∷ without sought xs) s.1 (s.0, slots-without sought xs s.1)

-- a bookmark after the entry of a node
abbrev pub IsBookmark : Bookmark → Type 0
IsBookmark InPlace = Unit {0}
IsBookmark (After n) = n < nowhere

pub booked-live : (old new : ℕ) (b : Bookmark) (xs : List (Listed ℕ)) → AreSlots xs → old < nowhere → IsBookmark b
    → booked old new b (live xs) ≡ live (booked old new b xs)
booked-live old new InPlace xs s low in_list = with_node-live old xs s low new
booked-live old new (After n) xs s low in_list = let left = without (is_entry old) xs in
    let real = λ (i : Listed ℕ). found_real (is_entry old) i xs (spares-node old xs s low) in
    let spared = spares-node n left (slots-without (is_entry old) xs s) in_list in let put = λ (i : Listed ℕ). put_spared (is_entry n) (for_node new i) in
    grind (arith, find_is-live old xs s low, without1-live old xs s low, real, put, spared, is_hole-for_node new)

pub has_bookmark-live : (old : ℕ) (b : Bookmark) (xs : List (Listed ℕ)) → AreSlots xs → old < nowhere → IsBookmark b
    → has_bookmark old b (live xs) ≡ has_bookmark old b xs
has_bookmark-live old InPlace xs s low in_list = refl
has_bookmark-live old (After n) xs s low in_list =
    rw (without1-live old xs s low) (any-live n (without (is_entry old) xs) (slots-without (is_entry old) xs s) in_list)
