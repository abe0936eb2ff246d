-- Slots of a stack that change places, leave and come, in the words on what they hold.
use Rattle.hopen.proofs.Names.{nat_tests, common_steps, ◌≡◌, ◌≢◌, ℕ, zero, suc, ◌+◌, ◌-◌, ◌<◌, ◌≤◌, Bool, List, [], ◌∷◌, ◌++◌, Option, Some, None, length, map, reverse, take, drop, insert, get_or, set, refl, sym, ◌∙◌, ap, arith, cases_eq, cases_lt, append_assoc, append_cancel_left, drop-drop, drop-set-lt, get_or-set_other, get_or-set_same, length-append, length-insert, length-map, length-reverse, length-set, length-take-le, map-id, reverse-append, set-get_or, set-set, set_split, position, insert_nearest, exchanged, holds_one, last_place, last_place-le, opened_by, item_put_before, slots_of, somes, stack_of, EndsOpen, KeptNode, OpenNode, without, changed, position-none, no_words, OpenNodes, open_nodes_of, LastLevels, Inside, LevelsStand, Rests, sum_by-set, true, ltb, ltb-true, is_node, is_open, same_node_of}
use Rattle.hopen.proofs.Projected.{some≢none}
use Rattle.hopen.proofs.OpenLevels.{IsPlaced, set-placed, level-within, node-level, placed}
use Rattle.hopen.proofs.Somes.{put-somes, reverse-somes, somes-append, changed-somes, left-somes, any-somes}
use Rattle.hopen.proofs.Swapped.{exchanged-apart, exchanged-length, exchanged-lower}
use Rattle.hopen.proofs.Trimmed.{gap-live, stack-holes}

module _ {X : Type 0} where
  somes-more : (z : Option X) (xs ys : List (Option X)) → somes xs ≡ somes ys → somes (z ∷ xs) ≡ somes (z ∷ ys)
  somes-more z xs ys e = grind arith

  somes-hole : (z : Option X) (zs : List (Option X)) → somes (z ∷ None ∷ zs) ≡ somes (z ∷ zs)
  somes-hole z zs = somes-more z (None ∷ zs) zs refl

  -- one rises over holes, and leaves one
  somes-risen : (zs : List (Option X)) (j : ℕ) → ((m : ℕ) → m < j → get_or zs m None ≡ None) → somes (get_or zs j None ∷ set zs j None) ≡ somes zs
  somes-risen [] j holes = refl
  somes-risen (z ∷ zs) zero holes = somes-hole z zs
  somes-risen (z ∷ zs) (suc j) holes = let rest = somes-risen zs j (λ m h. holes (suc m) (omega arith)) in
      grind (arith, holes zero, somes-hole (get_or zs j None) (set zs j None), rest)

  somes-left : (zs : List (Option X)) (i j : ℕ) → i < j → ((m : ℕ) → i < m → m < j → get_or zs m None ≡ None)
      → somes (set (set zs i (get_or zs j None)) j None) ≡ somes (set zs i None)
  somes-left [] i j less holes = refl
  somes-left (z ∷ zs) i zero less holes = absurd (omega arith)
  somes-left (z ∷ zs) zero (suc j) less holes = somes-risen zs j (λ m h. holes (suc m) (omega arith) (omega arith))
  somes-left (z ∷ zs) (suc i) (suc j) less holes = somes-more z (set (set zs i (get_or zs j None)) j None) (set zs i None)
      (somes-left zs i j (omega arith) (λ m a b. holes (suc m) (omega arith) (omega arith)))

  -- what is below both is as it was
  pub drop-exchanged : (i j : ℕ) (zs : List (Option X)) → i < j → drop (j + 1) (exchanged i j None zs) ≡ drop (j + 1) zs
  drop-exchanged i j zs less = grind (arith, drop-set-lt)

  pub drop-later : (m n : ℕ) (xs ys : List (Option X)) → m ≤ n → drop m xs ≡ drop m ys → drop n xs ≡ drop n ys
  drop-later m n xs ys h e = grind (arith, drop-drop (n - m) m xs, drop-drop (n - m) m ys)

  -- without the one that has passed another, all are as they were
  pub rest-exchanged : (zs : List (Option X)) (i j : ℕ) → i < j → ((m : ℕ) → i < m → m < j → get_or zs m None ≡ None)
      → somes (reverse (set (exchanged i j None zs) j None)) ≡ somes (reverse (set zs i None))
  rest-exchanged zs i j less holes = ap (λ l. somes (reverse l)) (set-set (set zs i (get_or zs j None)) j (get_or zs i None) None)
      ∙ reverse-somes (set (set zs i (get_or zs j None)) j None) ∙ ap reverse (somes-left zs i j less holes) ∙ sym (reverse-somes (set zs i None))

-- a slot is written, as the nearest first
module _ {X : Type 0} where
  pub reverse-set : (zs : List X) (i : ℕ) (z : X) → i < length zs → reverse (set zs i z) ≡ reverse (drop (suc i) zs) ++ z ∷ reverse (take i zs)
  reverse-set zs i z h = grind (arith, common_steps, nat_tests, append_assoc, reverse-append, set_split)

  -- what is not nearer than the ordinal of one that is sought
  put-at : (s : X → Bool) (n : X) (xs : List X) (y : X) (us vs : List X) → last_place s (xs ++ y ∷ us) ≡ suc (length us)
      → item_put_before s n (xs ++ y ∷ vs) ≡ xs ++ n ∷ y ∷ vs
  put-at s n [] y us vs e = grind (arith, last_place-le s us)
  put-at s n (x ∷ xs) y us vs e = grind (arith, length-append xs (y ∷ us), put-at s n xs y us vs)

module _ {X : Type 0} where
  pub somes-set : (zs : List (Option X)) (i : ℕ) (z : Option X) → i < length zs
      → somes (reverse (set zs i z)) ≡ somes (reverse (drop (suc i) zs)) ++ somes (z ∷ reverse (take i zs))
  somes-set zs i z h = ap somes (reverse-set zs i z h) ∙ somes-append (reverse (drop (suc i) zs)) (z ∷ reverse (take i zs))

  -- one that left sank to the slot of the one that is sought, and a new one takes its place there
  module _ (s : X → Bool) (zs sunk : List (Option X)) (from to : ℕ) (x : X) (order : from < to) (within : to < length zs) (long : length sunk ≡ length zs)
      (ordinal : last_place (holds_one s) (reverse zs) ≡ suc to) (below : drop (suc to) sunk ≡ drop (suc to) zs)
      (rest : somes (reverse (set sunk to None)) ≡ somes (reverse (set zs from None))) where
    pub put-sunk : somes (reverse (set sunk to (Some x))) ≡ item_put_before s x (somes (reverse (set zs from None)))
    put-sunk = let left = set zs from None in let y = get_or zs to None in let low = reverse (drop (suc to) zs) in let high = reverse (take to left) in
        let other = get_or-set_other zs from to None None in let after = drop-set-lt (suc to) zs from None in let turned = reverse-set left to in
        let split : reverse left ≡ low ++ y ∷ high = grind (arith, set-get_or left to None, turned (get_or left to None), after, other, length-set) in
        let was : reverse zs ≡ low ++ y ∷ reverse (take to zs) = grind (arith, set-get_or zs to None, reverse-set zs to y within) in
        let at : last_place (holds_one s) (low ++ y ∷ reverse (take to zs)) ≡ suc (length (reverse (take to zs))) = grind
        (arith, was, ordinal, length-reverse (take to zs), length-take-le to zs) in
        let put : item_put_before s x (somes (reverse left)) ≡ somes low ++ x ∷ somes (y ∷ high) = grind
        (arith, put-somes s x (reverse left), split, put-at (holds_one s) (Some x) low y _ high at, somes-append low (Some x ∷ y ∷ high)) in
        let same : somes (reverse (take to sunk)) ≡ somes (y ∷ high) = append_cancel_left (somes low) (somes (reverse (take to sunk))) (somes (y ∷ high)) (grind
        (arith, somes-set sunk to None, below, rest, split, somes-append low (y ∷ high))) in
        grind (arith, somes-set sunk to (Some x), below, same, put)

-- the last slot still is no hole
pub ends-exchanged : (ys : List (Option (OpenNode ℕ))) (i j : ℕ) → i < j → j < length ys → get_or ys i None ≢ None → EndsOpen ys
    → EndsOpen (exchanged i j None ys)
ends-exchanged ys i j less within live ends = grind (arith, common_steps, nat_tests, cases_lt, exchanged-apart, exchanged-length, exchanged-lower)

pub ends-set : (ys : List (Option (OpenNode ℕ))) (i : ℕ) (x : OpenNode ℕ) → i < length ys → EndsOpen ys → EndsOpen (set ys i (Some x))
ends-set ys i x within ends = grind (arith, common_steps, nat_tests, cases_eq, get_or-set_other, get_or-set_same, length-set, some≢none)

-- where one comes
module _ {X : Type 0} (x : X) where
  last-live : (ys : List (Option X)) (i : ℕ) → i ≤ length ys → ((k : ℕ) → length ys ≡ suc k → get_or ys k None ≢ None)
      → get_or (insert ys i (Some x)) (length ys) None ≢ None
  last-live [] zero h ends = some≢none x (Some x) refl
  last-live [] (suc i) h ends = absurd (omega arith)
  last-live (y ∷ ys) zero h ends = ends (length ys) refl
  last-live (y ∷ ys) (suc i) h ends = last-live ys i (omega arith) (λ k e. ends (suc k) (ap suc e))

pub ends-insert : (ys : List (Option (OpenNode ℕ))) (i : ℕ) (x : OpenNode ℕ) → i ≤ length ys → EndsOpen ys → EndsOpen (insert ys i (Some x))
ends-insert ys i x within ends k many none =
    let at : length ys ≡ k = omega (arith, length-insert ys i (Some x) within) in last-live x ys i within ends (rw at none)

-- a new node right below the one that is sought
pub put-placed : (s : OpenNode ℕ → Bool) (items : List KeptNode) (i : ℕ) (x : OpenNode ℕ) → IsPlaced s items i
    → somes (reverse (insert (map opened_by items) (i + 1) (Some x))) ≡ item_put_before s x (stack_of items)
put-placed s items i x p = let ys = map opened_by items in let put = insert_nearest (λ o. o) (holds_one s) ys i p.up (Some x) in
    grind (arith, map-id ys, map-id (insert ys (i + 1) (Some x)), put, p.position_is, p.sum, length-map items opened_by, put-somes s x (slots_of items))

-- what the table says of a node's level
module _ (last : LastLevels) (items : List KeptNode) (s : LevelsStand last items) (n p : ℕ) (is : p ≡ get_or last.nodes.items n 0) where
  pub level-of : p ≡ last_place (holds_one (is_node n)) (slots_of items)
  level-of = is ∙ node-level last.nodes.items (map same_node_of items) items s.nodes n

  pub level-le : p ≤ length items
  level-le = level-within (is_node n) items p level-of

  pub node-placed : 0 < p → IsPlaced (is_node n) items (p - 1)
  node-placed some = placed (is_node n) items p level-of some

  -- it is not open, so nothing comes below it
  pub put-none : p ≡ 0 → (x : OpenNode ℕ) → stack_of items ≡ item_put_before (is_node n) x (stack_of items)
  put-none none x = let s = holds_one (is_node n) in let words = no_words s (slots_of items) (position-none s (slots_of items) (sym level-of ∙ none)) in
      grind (arith, words.put_is (Some x), put-somes (is_node n) x (slots_of items))

  -- it is open
  module _ (here : is_open n (stack_of items) ≡ true) where
    pub open-level : 0 < p
    open-level = ltb-true 0 p (ap (λ k. ltb 0 k) level-of ∙ any-somes (is_node n) (slots_of items) ∙ here)

    pub open-here : get_or (map opened_by items) (p - 1) None ≢ None
    open-here = (node-placed open-level).live

    -- what is left without it
    pub left-is : somes (reverse (set (map opened_by items) (p - 1) None)) ≡ without (is_node n) (stack_of items)
    left-is = ap somes (set-placed (is_node n) items (p - 1) None (node-placed open-level)) ∙ left-somes (is_node n) (slots_of items)

-- what is seen of the open nodes after an edit of their vector
pub seen : (s : Inside) (n : OpenNodes ℕ) (word : List (OpenNode ℕ) → List (OpenNode ℕ)) (items : List KeptNode) → open_nodes_of s ≡ n
    → stack_of items ≡ word (stack_of s.items.items)
    → ◌≡◌ {A = OpenNodes ℕ} (record { limit = s.limit; stack = stack_of items }) (record { limit = n.limit; stack = word n.stack })
seen s n word items e h = grind (arith, common_steps, nat_tests)

-- an edit that finds nothing leaves all as it is
pub kept : (s : Inside) (n : OpenNodes ℕ) (word : List (OpenNode ℕ) → List (OpenNode ℕ)) → open_nodes_of s ≡ n
    → word (stack_of s.items.items) ≡ stack_of s.items.items → n ≡ record { limit = n.limit; stack = word n.stack }
kept s n word e h = grind (arith, common_steps)

module _ (s : OpenNode ℕ → Bool) (items : List KeptNode) (level : ℕ) (at : level ≡ last_place (holds_one s) (slots_of items)) (none : level ≡ 0) where
  absent : position (holds_one s) (slots_of items) ≡ None
  absent = position-none (holds_one s) (slots_of items) (sym at ∙ none)

  pub none-left : without s (stack_of items) ≡ stack_of items
  none-left = sym (left-somes s (slots_of items)) ∙ ap somes ((no_words (holds_one s) (slots_of items) absent).changed_is (λ _. None))

  pub none-replaced : (y : OpenNode ℕ) → changed s (λ _. y) (stack_of items) ≡ stack_of items
  none-replaced y = sym (changed-somes s y (slots_of items)) ∙ ap somes ((no_words (holds_one s) (slots_of items) absent).changed_is (λ _. Some y))

module _ {X : Type 0} (s : X → Bool) where
  pub length-changed : (g : X → X) (xs : List X) → length (changed s g xs) ≡ length xs
  length-changed g [] = refl
  length-changed g (x ∷ xs) = grind (arith, length-changed g xs)

  pub length-without-le : (xs : List X) → length (without s xs) ≤ length xs
  length-without-le [] = omega arith
  length-without-le (x ∷ xs) = grind (arith, length-without-le xs)

  pub length-put-le : (y : X) (xs : List X) → length (item_put_before s y xs) ≤ suc (length xs)
  length-put-le y [] = omega arith
  length-put-le y (x ∷ xs) = grind (arith, length-put-le y xs)

-- a slot's node leaves, or another takes its place
module _ (s : OpenNode ℕ → Bool) (items : List KeptNode) (i : ℕ) (p : IsPlaced s items i) where
  pub stack-left : somes (reverse (set (map opened_by items) i None)) ≡ without s (stack_of items)
  stack-left = ap somes (set-placed s items i None p) ∙ left-somes s (slots_of items)

  module _ (new : List KeptNode) (y : OpenNode ℕ) (is : map opened_by new ≡ set (map opened_by items) i (Some y)) where
    pub stack-replaced : stack_of new ≡ changed s (λ _. y) (stack_of items)
    stack-replaced = ap (λ l. somes (reverse l)) is ∙ ap somes (set-placed s items i (Some y) p) ∙ changed-somes s y (slots_of items)

-- what is kept is right after it
pub rests-replaced : (items new : List KeptNode) (i : ℕ) (y : OpenNode ℕ) (last next : LastLevels) → Rests last items → i < length items
    → get_or (map opened_by items) i None ≢ None → map opened_by new ≡ set (map opened_by items) i (Some y) → LevelsStand next new → next.holes ≡ last.holes
    → Rests next new
rests-replaced items new i y last next r within live is stands holes = grind
    (arith, common_steps, nat_tests, ends-set, gap-live, length-map, length-set, stack-holes, sum_by-set)
