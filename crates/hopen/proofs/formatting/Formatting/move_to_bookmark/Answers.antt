use Rattle.hopen.proofs.Names.{◌≡◌, ◌<◌, true, ◌∙◌, sym, ap, arith, list_any, booked, has_bookmark, is_entry, listed_items, live, nowhere, After, Bookmark, List, Stored, ℕ, suc, ◌+◌, ◌-◌, Some, length, get_or, All, position, remove, get_or_default, for_node, AreSlots, IsStored, item_of, stored_entry, by_node, item_put_before, without, is_some, remove_nearest}
use Rattle.hopen.proofs.Holes.{node_ordinal, placed, node-at, node-some, ordinal-stored_entry, slots-are}
use Rattle.hopen.proofs.formatting.Formatting.move_to_bookmark.Goals as goal
use Rattle.hopen.proofs.formatting.Formatting.move_to_bookmark.Goals.{After-last-index}
use Rattle.hopen.specs.declared.entry.Slot.TheVariants as stored
use Rattle.hopen.proofs.Listed.{found_at, length-items_of, ordinal-le}
use Rattle.hopen.proofs.Live.{any-live, booked-live, has_bookmark-live}

-- An entry that moves to a bookmark.
module _ (items : List Stored) (all : All IsStored items) (node p : ℕ) (low : node < nowhere) (ordinal : p ≡ node_ordinal node (listed_items items))
    (there : list_any (is_entry node) (live (listed_items items)) ≡ true) where
  slots : AreSlots (listed_items items)
  slots = slots-are items all

  entry-some : 0 < p
  entry-some = omega (arith, ordinal, node-some node low (listed_items items) slots (sym (any-live node (listed_items items) slots low) ∙ there))

  abbrev up : ℕ
  up = length (listed_items items) - p

  at : (p - 1) + suc up ≡ length items
  at = omega (arith, entry-some, ordinal, ordinal-le by_node (suc (suc node)) (listed_items items), length-items_of items)

  entry-within : p - 1 < length items
  entry-within = omega (arith, at)

  entry-stored_entry : is_some (stored_entry (get_or items (p - 1) stored.Hole)) ≡ true
  entry-stored_entry = ordinal-stored_entry (λ e. e.node) items node p (get_or items (p - 1) stored.Hole) entry-some (sym ordinal)
      (get_or_default items (p - 1) stored.Hole (get_or items (p - 1) stored.Hole) entry-within)

  first : position (is_entry node) (listed_items items) ≡ Some up
  first = node-at node low (listed_items items) slots (omega (arith, entry-some, ordinal)) ∙ ap (λ k. Some (length (listed_items items) - k)) (sym ordinal)

  rest : listed_items (remove items (p - 1)) ≡ without (is_entry node) (listed_items items)
  rest = remove_nearest item_of (is_entry node) items (p - 1) up first at

  module _ (mark : ℕ) (mark_low : mark < nowhere) where
    mark-there : has_bookmark node (After mark) (live (listed_items items)) ≡ true → list_any (is_entry mark) (listed_items (remove items (p - 1))) ≡ true
    mark-there booked_there = grind (arith, rest, has_bookmark-live node (After mark) (listed_items items) slots low mark_low)

    moved-is : (new : ℕ)
        → live (item_put_before (is_entry mark) (for_node new (item_of (get_or items (p - 1) stored.Hole))) (listed_items (remove items (p - 1))))
        ≡ booked node new (After mark) (live (listed_items items))
    moved-is new = let view = listed_items items in let x = get_or items (p - 1) stored.Hole in
        let is : x ≡ get_or items (p - 1) x = get_or_default items (p - 1) stored.Hole x entry-within in
        grind (arith, rest, found_at node items up (p - 1) x first at is, booked-live node new (After mark) view slots low mark_low)

-- the entry that moves
module _ (c : After-last-index) where
  abbrev items : List Stored
  items = c.self.inside.slots.items.items

  low : c.args.from < nowhere
  low = omega arith

  ordinal : c.last-index.result ≡ node_ordinal c.args.from (listed_items items)
  ordinal = placed c.self.inside.slots c.node_number.ensures c.last-index.ensures

  there : list_any (is_entry c.args.from) (live (listed_items items)) ≡ true
  there = ap (list_any (is_entry c.args.from)) c.self.view_is ∙ c.requires.entry

pub overflow_sub-index : goal.overflow_sub-index
overflow_sub-index c = let s = (goal.at.overflow_sub-index c).After-last-index in
    omega (arith, entry-some (items s) c.self.inside.slots.listed.stored c.args.from c.last-index.result (low s) (ordinal s) (there s))

pub move_after-requires-clause-within : goal.move_after-requires-clause-within
move_after-requires-clause-within c = let s = (goal.at.move_after-requires-clause-within c).After-last-index in
    entry-within (items s) c.self.inside.slots.listed.stored c.args.from c.last-index.result (low s) (ordinal s) (there s)

pub move_after-requires-clause-entry : goal.move_after-requires-clause-entry
move_after-requires-clause-entry c = let s = (goal.at.move_after-requires-clause-entry c).After-last-index in
    entry-stored_entry (items s) c.self.inside.slots.listed.stored c.args.from c.last-index.result (low s) (ordinal s) (there s)

pub move_after-requires-clause-mark : goal.move_after-requires-clause-mark
move_after-requires-clause-mark c = let s = (goal.at.move_after-requires-clause-mark c).After-last-index in
    mark-there (items s) c.self.inside.slots.listed.stored c.args.from c.last-index.result (low s) (ordinal s) (there s) c.in-After.mark (omega arith)
    (ap (has_bookmark c.args.from (After c.in-After.mark)) c.self.view_is
    ∙ ap (λ (b : Bookmark). has_bookmark c.args.from b c.args.self.now) (sym c.in-After.is) ∙ c.requires.bookmark)

pub returns-in-After : goal.returns-in-After
returns-in-After c = let s = (goal.at.returns-in-After c).After-last-index in
    let moved = moved-is (items s) c.self.inside.slots.listed.stored c.args.from _ (low s) (ordinal s) (there s) c.in-After.mark (omega arith) in
    grind (arith, c.move_after.ensures.items, moved c.args.to, c.self.view_is, c.in-After.is)
