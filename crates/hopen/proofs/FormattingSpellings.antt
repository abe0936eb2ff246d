-- The list of active formatting elements under other names.
use Rattle.hopen.proofs.Names.{arith, ◌≡◌, ℕ, Bool, not, ◌&&◌, List, [], ◌∷◌, map, length, Option, Some, None, refl, ◌∙◌, ap, bytes_eq, option_map, option_map_or, length-map, any-map, without, item_put_before, EntryOf, Listed, is_of_node, is_entry, entry_at, entry_of, after_marker, cleared, for_node, with_node, booked, without_earliest, same_attribute, are_among, is_equal, pushed, find_entry, Bookmark, InPlace, After, Attribute, filter, find, slice_get-map, without-map, changed-map, put_before-map, filter-map, find-map, all-map, changed_at-map, entries, mapped_entry, mapped_item, mapped_items, FormattingKnowsNoNames, mapped_attribute}

module _ {N M : Type 0} (same : N → N → Bool) (same' : M → M → Bool) (g : N → M) (names : (a b : N) → same' (g a) (g b) ≡ same a b) where
  after_marker-map : (items : List (Listed N)) → after_marker (mapped_items g items) ≡ map (mapped_entry g) (after_marker items)
  after_marker-map [] = refl
  after_marker-map (i ∷ items) = grind (arith, after_marker-map items)

  entries-map : (items : List (Listed N)) → entries (mapped_items g items) ≡ map (mapped_entry g) (entries items)
  entries-map [] = refl
  entries-map (i ∷ items) = grind (arith, entries-map items)

  cleared-map : (items : List (Listed N)) → cleared (mapped_items g items) ≡ mapped_items g (cleared items)
  cleared-map [] = refl
  cleared-map (i ∷ items) = grind (arith, cleared-map items)

  same_attribute-map : (a b : Attribute N) → same_attribute same' (mapped_attribute g a) (mapped_attribute g b) ≡ same_attribute same a b
  same_attribute-map a b = λ i. names a.0 b.0 i && bytes_eq a.1 b.1

  are_among-map : (xs ys : List (Attribute N)) → are_among same' (map (mapped_attribute g) xs) (map (mapped_attribute g) ys) ≡ are_among same xs ys
  are_among-map xs ys = grind (arith, all-map, any-map, same_attribute-map)

  is_equal-map : (new e : EntryOf N) → is_equal same' (mapped_entry g new) (mapped_entry g e) ≡ is_equal same new e
  is_equal-map new e = λ i. names new.name e.name i && (are_among-map new.attrs e.attrs i && are_among-map e.attrs new.attrs i)

  without_earliest-map : (p : EntryOf N → Bool) (q : EntryOf M → Bool) → ((e : EntryOf N) → q (mapped_entry g e) ≡ p e) → (items : List (Listed N))
      → without_earliest q (mapped_items g items) ≡ mapped_items g (without_earliest p items)
  without_earliest-map p q f [] = refl
  without_earliest-map p q f (i ∷ items) =
      grind (arith, without_earliest-map p q f items, f, after_marker-map items, any-map (mapped_entry g) p q f (after_marker items))

  equal-map : (new : EntryOf N) (items : List (Listed N))
      → length (filter (is_equal same' (mapped_entry g new)) (after_marker (mapped_items g items))) ≡ length (filter (is_equal same new) (after_marker items))
  equal-map new items = let p = is_equal same new in
      grind (arith, after_marker-map items, filter-map (mapped_entry g) p (is_equal same' (mapped_entry g new)) (is_equal-map new), length-map)

  pushed-map : (new : EntryOf N) (items : List (Listed N)) → pushed same' (mapped_entry g new) (mapped_items g items) ≡ mapped_items g (pushed same new items)
  pushed-map new items = grind (arith, equal-map, without_earliest-map, is_equal-map)

  find_entry-map : (a : N) (items : List (Listed N)) → find_entry same' (g a) (mapped_items g items) ≡ option_map (mapped_entry g) (find_entry same a items)
  find_entry-map a items = grind (arith, after_marker-map, find-map)

  entry_of-map : (n : ℕ) (items : List (Listed N)) → entry_of n (mapped_items g items) ≡ option_map (mapped_entry g) (entry_of n items)
  entry_of-map n items = ap (find (is_of_node n)) (entries-map items) ∙ find-map (mapped_entry g) (is_of_node n) (is_of_node n) (λ _. refl) (entries items)

  get_entry-map : (back : ℕ) (items : List (Listed N)) → entry_at back (mapped_items g items) ≡ option_map (mapped_entry g) (entry_at back items)
  get_entry-map back items = grind (arith, slice_get-map)

  is_entry-map : (n : ℕ) (i : Listed N) → is_entry n (mapped_item g i) ≡ is_entry n i
  is_entry-map n i = grind arith

  for_node-map : (new : ℕ) (i : Listed N) → for_node new (mapped_item g i) ≡ mapped_item g (for_node new i)
  for_node-map new i = grind arith

  with_node-map : (old new : ℕ) (items : List (Listed N)) → with_node old new (mapped_items g items) ≡ mapped_items g (with_node old new items)
  with_node-map old new items =
      changed-map (mapped_item g) (is_entry old) (is_entry old) (is_entry-map old) (for_node new) (for_node new) (for_node-map new) items

  booked-map : (old new : ℕ) (bookmark : Bookmark) (items : List (Listed N))
      → booked old new bookmark (mapped_items g items) ≡ mapped_items g (booked old new bookmark items)
  booked-map old new InPlace items = with_node-map old new items
  booked-map old new (After n) items =
      (λ i. option_map_or (λ x. item_put_before (is_entry n) (for_node new x) (left i)) (found i) (mapped_items g items)) ∙ go (find (is_entry old) items) where
        left : without (is_entry old) (mapped_items g items) ≡ mapped_items g (without (is_entry old) items)
        left = without-map (mapped_item g) (is_entry old) (is_entry old) (is_entry-map old) items

        found : find (is_entry old) (mapped_items g items) ≡ option_map (mapped_item g) (find (is_entry old) items)
        found = find-map (mapped_item g) (is_entry old) (is_entry old) (is_entry-map old) items

        go : (o : Option (Listed N))
            → option_map_or (λ x. item_put_before (is_entry n) (for_node new x) (mapped_items g (without (is_entry old) items))) (option_map (mapped_item g) o)
            (mapped_items g items) ≡ mapped_items g (option_map_or (λ x. item_put_before (is_entry n) (for_node new x) (without (is_entry old) items)) o items)
        go None = refl
        go (Some x) = ap (λ y. item_put_before (is_entry n) y (mapped_items g (without (is_entry old) items))) (for_node-map new x)
            ∙ put_before-map (mapped_item g) (is_entry n) (is_entry n) (is_entry-map n) (for_node new x) (without (is_entry old) items)

  pub formatting_mapped : FormattingKnowsNoNames same same' g
  formatting_mapped = record {
    push = pushed-map;
    clear = cleared-map;
    find = find_entry-map;
    entry_of_node = entry_of-map;
    get = get_entry-map;
    remove = λ n. filter-map (mapped_item g) (λ i. not (is_entry n i)) (λ i. not (is_entry n i)) (λ i. ap not (is_entry-map n i));
    replace = with_node-map;
    renew = λ back new. changed_at-map (mapped_item g) (for_node new) (for_node new) (for_node-map new) back;
    move_to_bookmark = booked-map;
  }
