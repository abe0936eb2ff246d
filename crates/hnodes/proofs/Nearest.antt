-- A vector whose last member is the nearest, and what an edit of it is in the words on lists.
use Rattle.hnodes.proofs.IndexNames.{◌≡◌, ℕ, zero, suc, ◌+◌, ◌<◌, ◌≤◌, Bool, true, false, cond, not, List, [], ◌∷◌, ◌++◌, Some, None, length, get_or, set, take, drop, map, refl, sym, ◌∙◌, ap, arith, position, position_or_len, list_any, map-append, length-map, length-drop, get_or-map, before, after, without, changed, item_put_before, changed_at, nat_tests}
use Rattle.hnodes.proofs.Names.{ltb, reverse, insert, remove, is_some, ltb-true, reverse-append, append_assoc, length-reverse, take-append-drop, set_split, take_at, drop_at, get_or-reverse, slice_get-get_or, cond_some}
use Rattle.std.specs.List.{find, slice_get}
use Rattle.std.specs.Option.{IfSome}
use Rattle.hnodes.proofs.Images.{position-map}

module _ {Y : Type 0} (sought : Y → Bool) where
  -- the words where the nearest that is sought has this many before it
  pub record Words (ys : List Y) (up : ℕ) : Type 0 where
    pub before_is : before sought ys ≡ take up ys
    pub after_is : after sought ys ≡ drop (suc up) ys
    pub without_is : without sought ys ≡ take up ys ++ drop (suc up) ys
    pub changed_is : (g : Y → Y) → changed sought g ys ≡ changed_at up g ys
    pub put_is : (y : Y) → item_put_before sought y ys ≡ take up ys ++ y ∷ drop up ys
    pub find_is : find sought ys ≡ slice_get ys up

  words_at : (ys : List Y) (up : ℕ) → position_or_len sought ys ≡ up → up < length ys → Words ys up
  words_at [] up e h = absurd (omega arith)
  words_at (y ∷ ys) up e h = go (sought y) refl up (words_at ys) e h where
    go : (v : Bool) → sought y ≡ v → (up : ℕ) → ((n : ℕ) → position_or_len sought ys ≡ n → n < length ys → Words ys n)
        → cond (not v) (1 + position_or_len sought ys) 0 ≡ up → up < suc (length ys) → Words (y ∷ ys) up
    go true s zero i e h = record
        { before_is = rw s refl; after_is = rw s refl; without_is = rw s refl; changed_is = λ g. rw s refl; put_is = λ z. rw s refl; find_is = rw s refl }
    go true s (suc up) i e h = absurd (omega arith)
    go false s zero i e h = absurd (omega arith)
    go false s (suc up) i e h = let w : Words ys up = i up (omega arith) (omega arith) in
        record {
          before_is = rw s (ap (◌∷◌ y) w.before_is);
          after_is = rw s w.after_is;
          without_is = grind arith;
          changed_is = λ g. grind arith;
          put_is = λ z. grind arith;
          find_is = grind arith;
        }

  pub position_is : (ys : List Y) (up : ℕ) → position sought ys ≡ Some up → (up < length ys) × (position_or_len sought ys ≡ up)
  position_is ys up e =
      let s : (ltb (position_or_len sought ys) (length ys) ≡ true) × (position_or_len sought ys ≡ up) =
      cond_some (ltb (position_or_len sought ys) (length ys)) (position_or_len sought ys) up e in
      (omega (arith, ltb-true (position_or_len sought ys) (length ys) s.0), s.1)

  pub words : (ys : List Y) (up : ℕ) → position sought ys ≡ Some up → Words ys up
  words ys up e = let s = position_is ys up e in words_at ys up s.1 s.0

  pub found_within : (ys : List Y) (up : ℕ) → position sought ys ≡ Some up → up < length ys
  found_within ys up e = (position_is ys up e).0

  pub position_within : (ys : List Y) → IfSome (position sought ys) (λ up. up < length ys)
  position_within ys = grind (arith, found_within ys)

  -- one that is sought leaves
  pub length-without : (ys : List Y) → list_any sought ys ≡ true → length (without sought ys) + 1 ≡ length ys
  length-without [] e = cc
  length-without (y ∷ ys) e = grind (arith, length-without ys)

  -- and where none is sought
  pub record NoWords (ys : List Y) : Type 0 where
    pub before_is : before sought ys ≡ ys
    pub after_is : after sought ys ≡ []
    pub without_is : without sought ys ≡ ys
    pub changed_is : (g : Y → Y) → changed sought g ys ≡ ys
    pub put_is : (y : Y) → item_put_before sought y ys ≡ ys
    pub find_is : find sought ys ≡ None

  no_words_at : (ys : List Y) → length ys ≤ position_or_len sought ys → NoWords ys
  no_words_at [] h = record { before_is = refl; after_is = refl; without_is = refl; changed_is = λ g. refl; put_is = λ z. refl; find_is = refl }
  no_words_at (y ∷ ys) h = go (sought y) refl (no_words_at ys) h where
    go : (v : Bool) → sought y ≡ v → (length ys ≤ position_or_len sought ys → NoWords ys) → suc (length ys) ≤ cond (not v) (1 + position_or_len sought ys) 0
        → NoWords (y ∷ ys)
    go true s i h = absurd (omega arith)
    go false s i h = let w : NoWords ys = i (omega arith) in
        record {
          before_is = rw (s, w.before_is) refl;
          after_is = rw s w.after_is;
          without_is = rw (s, w.without_is) refl;
          changed_is = λ g. rw (s, w.changed_is g) refl;
          put_is = λ z. rw (s, w.put_is z) refl;
          find_is = rw s w.find_is;
        }

  past : (ys : List Y) → position sought ys ≡ None → length ys ≤ position_or_len sought ys
  past ys e = grind (arith, nat_tests)

  pub no_words : (ys : List Y) → position sought ys ≡ None → NoWords ys
  no_words ys e = no_words_at ys (past ys e)

  any-position_or_len : (ys : List Y) → list_any sought ys ≡ ltb (position_or_len sought ys) (length ys)
  any-position_or_len [] = refl
  any-position_or_len (y ∷ ys) = grind (arith, any-position_or_len ys, nat_tests)

  -- one that is sought is somewhere
  pub is_some-position : (ys : List Y) → is_some (position sought ys) ≡ list_any sought ys
  is_some-position ys = grind (arith, any-position_or_len ys)

-- a member in the words of a list that is split there
changed_at-split : {Y : Type 0} (g : Y → Y) (ys : List Y) (up : ℕ) (d : Y) → up < length ys
    → changed_at up g ys ≡ take up ys ++ g (get_or ys up d) ∷ drop (suc up) ys
changed_at-split g [] up d h = absurd (omega arith)
changed_at-split g (y ∷ ys) zero d h = refl
changed_at-split g (y ∷ ys) (suc up) d h = ap (λ l. y ∷ l) (changed_at-split g ys up d (omega arith))

module _ {X Y : Type 0} (f : X → Y) where
  pub reverse_split : (xs ys : List X) → reverse (map f (xs ++ ys)) ≡ reverse (map f ys) ++ reverse (map f xs)
  reverse_split xs ys = rw (map-append f xs ys) (reverse-append (map f xs) (map f ys))

  pub reverse_push : (xs : List X) (x : X) → reverse (map f (xs ++ x ∷ [])) ≡ f x ∷ reverse (map f xs)
  reverse_push xs x = reverse_split xs (x ∷ [])

  -- a search from the last member on
  pub reverse-map : (xs : List X) → reverse (map f xs) ≡ map f (reverse xs)
  reverse-map [] = refl
  reverse-map (x ∷ xs) = reverse_split (x ∷ []) xs ∙ ap (λ l. l ++ f x ∷ []) (reverse-map xs) ∙ sym (map-append f (reverse xs) (x ∷ []))
      ∙ ap (λ l. map f l) (sym (reverse-append (x ∷ []) xs))

  pub position_nearest : (sought : Y → Bool) (items : List X) → position sought (reverse (map f items)) ≡ position (λ x. sought (f x)) (reverse items)
  position_nearest sought items = ap (position sought) (reverse-map items) ∙ position-map f (λ x. sought (f x)) sought (λ _. refl) (reverse items)

  reverse_around : (xs ys : List X) (x : X) → reverse (map f (xs ++ x ∷ ys)) ≡ reverse (map f ys) ++ f x ∷ reverse (map f xs)
  reverse_around xs ys x = reverse_split xs (x ∷ ys) ∙ ap (λ l. l ++ reverse (map f xs)) (reverse_split (x ∷ []) ys)
      ∙ append_assoc (reverse (map f ys)) (f x ∷ []) (reverse (map f xs))

  length_nearest : (xs : List X) → length (reverse (map f xs)) ≡ length xs
  length_nearest xs = length-reverse (map f xs) ∙ length-map xs f

  -- the nearest of a vector are its last
  pub take_nearest : (items : List X) (n up : ℕ) → n + up ≡ length items → take up (reverse (map f items)) ≡ reverse (map f (drop n items))
  take_nearest items n up h =
      ap (λ l. take up (reverse (map f l))) (sym (take-append-drop n items)) ∙ ap (λ l. take up l) (reverse_split (take n items) (drop n items))
      ∙ take_at (reverse (map f (drop n items))) (reverse (map f (take n items))) up (length_nearest (drop n items) ∙ (omega (arith, length-drop n items)))

  pub drop_nearest : (items : List X) (n up : ℕ) → n + up ≡ length items → drop up (reverse (map f items)) ≡ reverse (map f (take n items))
  drop_nearest items n up h =
      ap (λ l. drop up (reverse (map f l))) (sym (take-append-drop n items)) ∙ ap (λ l. drop up l) (reverse_split (take n items) (drop n items))
      ∙ drop_at (reverse (map f (drop n items))) (reverse (map f (take n items))) up (length_nearest (drop n items) ∙ (omega (arith, length-drop n items)))

  pub get_nearest : (items : List X) (i up : ℕ) (d : X) (e : Y) → i + suc up ≡ length items → get_or (reverse (map f items)) up e ≡ f (get_or items i d)
  get_nearest items i up d e h = get_or-reverse (map f items) up e (omega (arith, length-map items f))
      ∙ ap (λ n. get_or (map f items) n e) (let l : length (map f items) ≡ length items = length-map items f in omega arith)
      ∙ get_or-map f items i d e (omega arith)

  pub slice_get_nearest : (items : List X) (i up : ℕ) (d : X) → i + suc up ≡ length items → slice_get (reverse (map f items)) up ≡ Some (f (get_or items i d))
  slice_get_nearest items i up d h =
      slice_get-get_or (reverse (map f items)) up (f d) (omega (arith, length_nearest items)) ∙ ap (λ y. Some y) (get_nearest items i up d (f d) h)

  -- a write, where this many are nearer
  pub set_nearest : (g : Y → Y) (items : List X) (i up : ℕ) (d y : X) → i + suc up ≡ length items → f y ≡ g (f (get_or items i d))
      → reverse (map f (set items i y)) ≡ changed_at up g (reverse (map f items))
  set_nearest g items i up d y h e = ap (λ l. reverse (map f l)) (set_split items i y (omega arith)) ∙ reverse_around (take i items) (drop (suc i) items) y
      ∙ rw (e, ← get_nearest items i up d (f d) h, ← take_nearest items (suc i) up (omega arith), ← drop_nearest items i (suc up) (omega arith))
      (sym (changed_at-split g (reverse (map f items)) up (f d) (omega (arith, length_nearest items))))

  -- a member leaves, where this many are nearer
  pub cut_nearest : (items : List X) (i up : ℕ) → i + suc up ≡ length items → reverse (map f (remove items i)) ≡ remove (reverse (map f items)) up
  cut_nearest items i up h =
      reverse_split (take i items) (drop (suc i) items) ∙ rw (← take_nearest items (suc i) up (omega arith), ← drop_nearest items i (suc up) h) refl

  -- edits of a vector at the nearest that is sought, which has this many nearer than it
  module _ (sought : Y → Bool) where
    pub remove_nearest : (items : List X) (i up : ℕ) → position sought (reverse (map f items)) ≡ Some up → i + suc up ≡ length items
        → reverse (map f (remove items i)) ≡ without sought (reverse (map f items))
    remove_nearest items i up s h = cut_nearest items i up h ∙ sym ((words sought (reverse (map f items)) up s).without_is)

    pub change_nearest : (g : Y → Y) (items : List X) (i up : ℕ) (d y : X) → position sought (reverse (map f items)) ≡ Some up → i + suc up ≡ length items
        → f y ≡ g (f (get_or items i d)) → reverse (map f (set items i y)) ≡ changed sought g (reverse (map f items))
    change_nearest g items i up d y s h e = set_nearest g items i up d y h e ∙ sym ((words sought (reverse (map f items)) up s).changed_is g)

    pub insert_nearest : (items : List X) (i up : ℕ) (y : X) → position sought (reverse (map f items)) ≡ Some up → i + suc up ≡ length items
        → reverse (map f (insert items (i + 1) y)) ≡ item_put_before sought (f y) (reverse (map f items))
    insert_nearest items i up y s h = reverse_around (take (i + 1) items) (drop (i + 1) items) y
        ∙ rw (← take_nearest items (i + 1) up (omega arith), ← drop_nearest items (i + 1) up (omega arith))
        (sym ((words sought (reverse (map f items)) up s).put_is (f y)))

-- past the end nothing changes
pub changed_at_past : {X : Type 0} (f : X → X) (n : ℕ) (xs : List X) → length xs ≤ n → changed_at n f xs ≡ xs
changed_at_past f n [] past = refl
changed_at_past f zero (x ∷ xs) past = absurd (omega arith)
changed_at_past f (suc n) (x ∷ xs) past = ap (◌∷◌ x) (changed_at_past f n xs (omega arith))
