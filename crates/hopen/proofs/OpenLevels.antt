-- Levels of slots, and what is open there.
use Rattle.hopen.proofs.Names.{◌≡◌, ◌≢◌, ℕ, suc, ◌+◌, ◌-◌, ◌<◌, ◌≤◌, eqb, Bool, true, false, cond, List, [], ◌∷◌, Option, Some, None, length, map, reverse, take, take-suc, get_or, set, sym, ◌∙◌, ap, arith, eqb-zero-suc, find, position, slice_get, length-map, length-reverse, map-id, take_all, nat_tests, last_place, last_place-le, position-some, position-none, words, no_words, reverse_push, slice_get_nearest, change_nearest, changed, holds_one, opened_by, open_of, slots_of, stack_of, open_node, open_name, slot_names, slot_nodes, is_node, is_named, nat_eq, IsLinked, EndsOpen, current, get_or_from_slice_get, slice_get_past, KeptNode, OpenNode}
use Rattle.hopen.proofs.Projected.{held, is-held, seen-at}
use Rattle.hopen.proofs.Linked.{says-levels}
use Rattle.hopen.proofs.Somes.{find-somes, none-somes}

-- one slot more
pub slots-more : (items : List KeptNode) (p k : ℕ) (d : KeptNode) → p ≡ suc k → k < length items
    → slots_of (take p items) ≡ opened_by (get_or items k d) ∷ slots_of (take k items)
slots-more items p k d next within = grind (arith, take-suc items k d within, reverse_push opened_by (take k items) (get_or items k d))

pub length-slots : (items : List KeptNode) → length (slots_of items) ≡ length items
length-slots items = length-reverse (map opened_by items) ∙ length-map items opened_by

-- the last slot, which is no hole, holds the current node
pub current-last : (items : List KeptNode) (x : KeptNode) → EndsOpen (map opened_by items) → slice_get items (length items - 1) ≡ Some x
    → current (stack_of items) ≡ Some (open_of x.opened)
current-last items x ends there = let n = length items - 1 in let past = slice_get_past items n in
    let is = get_or_from_slice_get items n x x in let seen = seen-at items n x in let more = slots-more items (length items) n x in
    grind (arith, is, seen, is-held x, held x, ends n, length-map items opened_by, past, more, take_all (length items) items)

module _ {X : Type 0} (s : X → Bool) where
  -- the ordinal where the nearest is sought, or is not
  pub ordinal-here : (z : X) (zs : List X) → s z ≡ true → last_place s (z ∷ zs) ≡ suc (length zs)
  ordinal-here z zs e = ap (λ v. cond v (suc (length zs)) (last_place s zs)) e

  pub ordinal-past : (z : X) (zs : List X) → s z ≡ false → last_place s (z ∷ zs) ≡ last_place s zs
  ordinal-past z zs e = ap (λ v. cond v (suc (length zs)) (last_place s zs)) e

-- what is found in the slots is no hole
found-open : {X : Type 0} (s : X → Bool) (zs : List (Option X)) (z : Option X) → find (holds_one s) zs ≡ Some z → z ≢ None
found-open s [] z e f = absurd (grind arith)
found-open s (x ∷ zs) z e f = grind (arith, found-open s zs z)

-- a slot that is nearest of those sought
pub record IsPlaced (s : OpenNode ℕ → Bool) (items : List KeptNode) (i : ℕ) : Type 0 where
  pub up : ℕ
  pub sum : i + suc up ≡ length items
  pub position_is : position (holds_one s) (slots_of items) ≡ Some up
  pub find_is : (d : KeptNode) → find s (stack_of items) ≡ Some (open_of (KeptNode.opened (get_or items i d)))
  pub live : get_or (map opened_by items) i None ≢ None

module _ (s : OpenNode ℕ → Bool) (items : List KeptNode) (level : ℕ) (at : level ≡ last_place (holds_one s) (slots_of items)) where
  pub level-within : level ≤ length items
  level-within = omega (arith, at, last_place-le (holds_one s) (slots_of items), length-slots items)

  pub not-placed : level ≡ 0 → find s (stack_of items) ≡ None
  not-placed none =
      none-somes s (slots_of items) ((no_words (holds_one s) (slots_of items) (position-none (holds_one s) (slots_of items) (sym at ∙ none))).find_is)

  pub placed : 0 < level → IsPlaced s items (level - 1)
  placed some = record {
    up = up;
    sum = sum;
    position_is = there;
    find_is = λ d. find-somes s (slots_of items) (open_of (KeptNode.opened (get_or items i d)))
        (found d ∙ ap (λ o. Some o) (held (get_or items i d) (is-held (get_or items i d) (open-there d))));
    live = λ e. none e;
  } where
    i : ℕ
    i = level - 1

    up : ℕ
    up = length (slots_of items) - 1 - i

    sum : i + suc up ≡ length items
    sum = omega (arith, level-within, some, length-slots items)

    there : position (holds_one s) (slots_of items) ≡ Some up
    there = position-some (holds_one s) (slots_of items) i (sym at ∙ (omega arith))

    found : (d : KeptNode) → find (holds_one s) (slots_of items) ≡ Some (opened_by (get_or items i d))
    found d = (words (holds_one s) (slots_of items) up there).find_is ∙ slice_get_nearest opened_by items i up d sum

    open-there : (d : KeptNode) → opened_by (get_or items i d) ≢ None
    open-there d = found-open s (slots_of items) (opened_by (get_or items i d)) (found d)

    found-slot : find (holds_one s) (slots_of items) ≡ Some (get_or (map opened_by items) i None)
    found-slot = (words (holds_one s) (slots_of items) up there).find_is ∙ ap (λ l. slice_get (reverse l) up) (sym (map-id (map opened_by items)))
        ∙ slice_get_nearest (λ x. x) (map opened_by items) i up None (sum ∙ sym (length-map items opened_by))

    none : get_or (map opened_by items) i None ≢ None
    none = found-open s (slots_of items) (get_or (map opened_by items) i None) found-slot

-- one slot becomes another
pub set-placed : (s : OpenNode ℕ → Bool) (items : List KeptNode) (i : ℕ) (z : Option (OpenNode ℕ)) → IsPlaced s items i
    → reverse (set (map opened_by items) i z) ≡ changed (holds_one s) (λ _. z) (slots_of items)
set-placed s items i z p = let ys = map opened_by items in let change = change_nearest (λ x. x) (holds_one s) (λ _. z) ys i p.up None z in
    grind (arith, map-id ys, map-id (set ys i z), change, p.position_is, p.sum, length-map items opened_by)

-- a number and the node or the name that has it
node-sought : (k : ℕ) (z : Option (OpenNode ℕ)) → eqb (open_node z) (suc k) ≡ holds_one (is_node k) z
node-sought k None = eqb-zero-suc k
node-sought k (Some y) = grind (arith, nat_tests)

name-sought : (k : ℕ) (z : Option (OpenNode ℕ)) → eqb (open_name z) (suc k) ≡ holds_one (is_named nat_eq k) z
name-sought k None = eqb-zero-suc k
name-sought k (Some y) = grind (arith, nat_tests)

-- what the tables say
pub node-level : (t bs : List ℕ) (items : List KeptNode) → IsLinked t (slot_nodes (map opened_by items)) bs → (k : ℕ)
    → get_or t k 0 ≡ last_place (holds_one (is_node k)) (slots_of items)
node-level t bs items l k = says-levels open_node t bs (map opened_by items) l k ∙ (λ i. last_place (λ z. node-sought k z i) (slots_of items))

pub name-level : (t bs : List ℕ) (items : List KeptNode) → IsLinked t (slot_names (map opened_by items)) bs → (k : ℕ)
    → get_or t k 0 ≡ last_place (holds_one (is_named nat_eq k)) (slots_of items)
name-level t bs items l k = says-levels open_name t bs (map opened_by items) l k ∙ (λ i. last_place (λ z. name-sought k z i) (slots_of items))
