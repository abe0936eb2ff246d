use Rattle.hopen.proofs.Names.{common_steps, ◌<◌, ◌≤◌, ◌∙◌, length, arith, nat_tests, ◌≡◌, ℕ, zero, suc, ◌-◌, true, cond, List, Option, None, map, reverse, take, get_or, refl, sym, ap, cases_Bool, cases_lt, eqb-true, get_or-map, get_or_default, get_or_past, length-map, reverse-map, take-map, take_all, last_up, last_place, up-within, up-found, up-least, up-past, LevelsStand, slot_nodes, open_node, opened_by, slots_of, holds_one, is_in, nearest_in, nearest_up, same_node_of, KeptNode, LastLevels, NameSet, OpenNode}
use Rattle.hopen.proofs.sought.set_level.Goals as goal
use Rattle.hopen.proofs.sought.set_level.Goals.{After-index-level}
use Rattle.std.proofs.Math.ListN.{get_or-map as map-at}
use Rattle.hopen.proofs.Listed.{last_up-is}
use Rattle.hopen.proofs.Linked.{eqb-same, kept-member, numbered, ordinal-map}

-- The level of the nearest node of a set, by the node that is kept.

-- a slot that holds a node of a set, as a number
abbrev member : NameSet → Option (OpenNode ℕ) → ℕ
member set z = cond (holds_one (is_in set) z) 1 0

member-sought : (set : NameSet) (z : Option (OpenNode ℕ)) → numbered 0 (member set z) ≡ holds_one (is_in set) z
member-sought set z = grind (arith, common_steps, nat_tests, numbered)

nearest-cond : (set : NameSet) (z : Option (OpenNode ℕ)) (above : ℕ) → nearest_in set z above ≡ cond (holds_one (is_in set) z) (open_node z) above
nearest-cond set z above = grind arith

open-some : (set : NameSet) (z : Option (OpenNode ℕ)) → holds_one (is_in set) z ≡ true → 0 < open_node z
open-some set z e = grind arith

module _ (set : NameSet) (ys : List (Option (OpenNode ℕ))) where
  -- the ordinal of the nearest of the first slots that holds one of the set, and the node there
  abbrev ordinal : ℕ → ℕ
  ordinal n = last_up (numbered 0) (map (member set) ys) n

  abbrev node-of : ℕ → ℕ
  node-of zero = 0
  node-of (suc p) = open_node (get_or ys p None)

  sought-at : (k : ℕ) → numbered 0 (get_or (map (member set) ys) k 0) ≡ holds_one (is_in set) (get_or ys k None)
  sought-at k = ap (numbered 0) (map-at (member set) ys k None) ∙ member-sought set (get_or ys k None)

  nearest-is : (n : ℕ) → nearest_up set ys n ≡ node-of (ordinal n)
  nearest-is zero = refl
  nearest-is (suc n) = grind (arith, common_steps, nat_tests, nearest-cond, sought-at, nearest-is n)

  ordinal-slots : (n : ℕ) → n ≤ length ys → ordinal n ≡ last_place (holds_one (is_in set)) (reverse (take n ys))
  ordinal-slots n h = grind (arith, common_steps, nat_tests, last_up-is, length-map, member-sought, numbered, ordinal-map, reverse-map, take-map)

module _ (last : LastLevels) (items : List KeptNode) (s : LevelsStand last items) (set : NameSet) (n : ℕ)
    (kept : n ≡ nearest_up set (map opened_by items) (length items)) where
  abbrev ys : List (Option (OpenNode ℕ))
  ys = map opened_by items

  abbrev ns : List ℕ
  ns = slot_nodes ys

  abbrev p : ℕ
  p = ordinal set ys (length items)

  long : length ys ≡ length items
  long = length-map items opened_by

  long-nodes : length ns ≡ length items
  long-nodes = length-map ys open_node ∙ long

  whole : p ≡ last_place (holds_one (is_in set)) (slots_of items)
  whole = grind (arith, ordinal-slots set ys (length items), long, take_all (length items) ys)

  node-at : 0 < p → n ≡ open_node (get_or ys (p - 1) None)
  node-at h = let next : p ≡ suc (p - 1) = omega arith in kept ∙ nearest-is set ys (length items) ∙ ap (node-of set ys) next

  -- none is open where none is kept
  none-open : n ≡ 0 → 0 ≡ last_place (holds_one (is_in set)) (slots_of items)
  none-open e = grind (arith, common_steps, nat_tests, cases_lt, node-at, numbered, open-some, sought-at, up-found, whole)

  module _ (some : 0 < n) where
    -- it is the node of the nearest slot of the set
    found : 0 < p
    found = grind (arith, common_steps, nat_tests, cases_lt, nearest-is)

    ordinal-within : p ≤ length items
    ordinal-within = up-within (numbered 0) (map (member set) ys) (length items)

    number : n ≡ suc (n - 1)
    number = omega arith

    here : numbered (n - 1) (get_or ns (p - 1) 0) ≡ true
    here = ap (numbered (n - 1)) (map-at open_node ys (p - 1) None ∙ sym (node-at found) ∙ number) ∙ eqb-same (suc (n - 1))

    down : p ≤ last_up (numbered (n - 1)) ns (length ns)
    down = omega (arith, found, up-least (numbered (n - 1)) ns (length ns) (p - 1) (omega (arith, found, ordinal-within, long-nodes)) here)

    node-in : n - 1 < length last.nodes.items
    node-in = grind (arith, cases_lt (n - 1) (length last.nodes.items), found, down, s.nodes.says (n - 1), get_or_past last.nodes.items (n - 1) 0)

    -- the level of that node
    module _ (level : ℕ) (at : level ≡ get_or last.nodes.items (n - 1) level) where
      level-is : level ≡ last_up (numbered (n - 1)) ns (length ns)
      level-is = at ∙ get_or_default last.nodes.items (n - 1) level 0 node-in ∙ s.nodes.says (n - 1)

      level-within : (0 < level) × (level ≤ length items) × (p ≤ level)
      level-within = grind (arith, found, down, level-is, long-nodes, up-within (numbered (n - 1)) ns (length ns))

      -- the nearest of the set is there or above
      nearest-from : last_place (holds_one (is_in set)) (slots_of (take level items)) ≡ last_place (holds_one (is_in set)) (slots_of items)
      nearest-from = let test = map (member set) ys in let none = λ (j : ℕ). up-least (numbered 0) test (length items) j in
          let up = up-past (numbered 0) test level (length items) level-within.1 (λ j a b. grind
          (arith, none j, level-within, cases_Bool (numbered 0 (get_or test j 0)))) in
          grind (arith, take-map opened_by level items, ordinal-slots set ys level, level-within, long, up, whole)

      -- and it is there where the node is open once
      nearest-at : (d : KeptNode) → KeptNode.same_node (get_or items (level - 1) d) ≡ 0 → level ≡ last_place (holds_one (is_in set)) (slots_of items)
      nearest-at d once = let up = up-found (numbered (n - 1)) ns (length ns) in let least = up-least (numbered (n - 1)) ns (level - 1) (p - 1) in
          let kept = kept-member last.nodes.items ns (map same_node_of items) s.nodes (level - 1) in
          let here' = get_or-map same_node_of items (level - 1) d 0 in
          grind (arith, level-is, eqb-true, up, level-within, found, kept, long-nodes, here', once, least, here, whole, cases_lt p level)

pub returns-then-node-eq0 : goal.returns-then-node-eq0
returns-then-node-eq0 c = none-open c.args.last.now c.args.items.now c.requires.stands c.args.set c.of-node.result
    (c.of-node.ensures ∙ c.sets_at_end.ensures c.args.set) c.if-node-eq0.true

pub index-level-requires : goal.index-level-requires
index-level-requires c = grind (arith, common_steps, node-in)

within : (c : After-index-level) → (0 < c.index-level.result.now) × (c.index-level.result.now ≤ length c.args.items.now)
within c =
    let w = level-within c.args.last.now c.args.items.now c.requires.stands c.args.set c.of-node.result (c.of-node.ensures ∙ c.sets_at_end.ensures c.args.set)
    (omega arith) c.index-level.result.now c.index-level.ensures in
    (w.0, w.1)

pub overflow_sub-level : goal.overflow_sub-level
overflow_sub-level c = omega (arith, within (goal.at.overflow_sub-level c).After-index-level)

pub bounds-items-level : goal.bounds-items-level
bounds-items-level c = omega (arith, within (goal.at.bounds-items-level c).After-index-level)

pub bounds-items-level-else-node-eq0 : goal.bounds-items-level-else-node-eq0
bounds-items-level-else-node-eq0 c = omega (arith, within (goal.at.bounds-items-level-else-node-eq0 c).After-index-level)

pub search-requires : goal.search-requires
search-requires c = (within (goal.at.search-requires c).After-index-level).1

pub returns-then-items-level-gt0 : goal.returns-then-items-level-gt0
returns-then-items-level-gt0 c = c.search.ensures ∙ nearest-from c.args.last.now c.args.items.now c.requires.stands c.args.set c.of-node.result
    (c.of-node.ensures ∙ c.sets_at_end.ensures c.args.set) (omega arith) c.index-level.result.now c.index-level.ensures

pub returns : goal.returns
returns c = grind (arith, common_steps, nearest-at)
