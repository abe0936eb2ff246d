use Rattle.hopen.proofs.Names.{common_steps, ◌≡◌, suc, ◌+◌, ◌-◌, ◌<◌, length, refl, sym, ◌∙◌, ap, arith, list_any, remove, is_entry, hole, item_of, listed_items, live, by_node, without, drop_nearest, no_words, set_nearest, words, up-within, ℕ, List, Bool, Listed, Stored, AreSlots, nowhere, position, Some}
use Rattle.hopen.specs.declared.entry.Slot.TheVariants as stored
use Rattle.hopen.proofs.Holes.{before-any, number-placed, no-position, node-at, node-none, node_ordinal, placed, placed-within, slots-are}
use Rattle.hopen.proofs.Listed.{length-items_of, any-without, ordinal-le}
use Rattle.hopen.proofs.Live.{any-live, hide-live, slots-without, without1-live}
use Rattle.hopen.proofs.formatting.Formatting.hide.Goals as goal
use Rattle.hopen.proofs.formatting.Formatting.hide.Goals.{then-ordinal-len, else-ordinal-len}

pub returns-then-ordinal-eq0 : goal.returns-then-ordinal-eq0
returns-then-ordinal-eq0 c = let view = listed_items c.self.inside.slots.items.items in let node = c.args.node in
    let ordinal = placed c.self.inside.slots c.node_number.ensures c.last-ordinal.ensures in
    let slots = slots-are c.self.inside.slots.items.items c.self.inside.slots.listed.stored in
    let none = node-none node (omega arith) view slots (omega arith) in
    let same = (no_words (is_entry node) view (no-position (is_entry node) view none)).without_is in record {
      entry = grind (arith, c.self.view_is, same, without1-live node view slots (omega arith));
      more = grind (arith, c.self.view_is, any-live node view slots (omega arith), none);
    }

pub truncate-requires : goal.truncate-requires
truncate-requires c = omega (arith, placed-within c.self.inside.slots c.node_number.ensures c.last-ordinal.ensures)

pub before-more-requires-clause-within : goal.before-more-requires-clause-within
before-more-requires-clause-within c = grind (arith, common_steps, up-within)

pub before-more-requires-clause-number : goal.before-more-requires-clause-number
before-more-requires-clause-number c =
    let there = number-placed c.args.node c.node_number.result c.last-ordinal.result 0 (omega arith) c.self.inside.slots c.node_number.ensures
    c.last-ordinal.ensures (omega (arith, c.if-ordinal-eq0.false)) in
    λ is. omega (arith, there, is)

-- where the last entry is, and what is left
module _ (c : goal.After-trim) where
  abbrev items : List Stored
  items = c.self.inside.slots.items.items

  abbrev view : List (Listed ℕ)
  view = listed_items items

  abbrev sought : Listed ℕ → Bool
  sought = is_entry c.args.node

  abbrev i : ℕ
  i = c.last-ordinal.result - 1

  abbrev up : ℕ
  up = length view - node_ordinal c.args.node view

  low : c.args.node < nowhere
  low = omega arith

  some : 0 < c.last-ordinal.result
  some = omega (arith, c.if-ordinal-eq0.false)

  ordinal : c.last-ordinal.result ≡ node_ordinal c.args.node view
  ordinal = placed c.self.inside.slots c.node_number.ensures c.last-ordinal.ensures

  slots : AreSlots view
  slots = slots-are items c.self.inside.slots.listed.stored

  at : i + suc up ≡ length items
  at = omega (arith, some, ordinal, ordinal-le by_node (suc (suc c.args.node)) view, length-items_of items)

  first : position sought view ≡ Some up
  first = node-at c.args.node low view slots (omega (arith, some, ordinal))

  without-is : live (without sought view) ≡ without sought c.args.self.now
  without-is = sym (without1-live c.args.node view slots low) ∙ ap (without sought) c.self.view_is

  gone : live (listed_items c.if-ordinal-len.self-inside.slots.items.items) ≡ live (remove view up)
  gone = let last = drop_nearest item_of items i 1 in let put = set_nearest item_of (λ _. hole) items i up stored.Hole stored.Hole at refl in
      elim c.if-ordinal-len.branch [
        | then-ordinal-len w ↦ grind (arith, w.self-inside-is, w.hide.ensures.items, put, hide-live up view)
        | else-ordinal-len w ↦ grind (arith, w.self-inside-is, w.truncate.ensures.items, last, at, w.if-ordinal-len.false)
      ]

pub returns-clause-entry : goal.returns-clause-entry
returns-clause-entry c = c.trim.ensures ∙ gone c ∙ ap live (sym (words (sought c) (view c) (up c) (first c)).without_is) ∙ without-is c

pub returns-clause-more : goal.returns-clause-more
returns-clause-more c = before-any c.args.node c.node_number.result c.last-ordinal.result c.before-more.result (low c) c.self.inside.slots c.node_number.ensures
    c.last-ordinal.ensures (some c) c.before-more.ensures
    ∙ ap (list_any (sought c)) (sym (drop_nearest item_of (items c) (i c) (suc (up c)) (at c)) ∙ sym (words (sought c) (view c) (up c) (first c)).after_is)
    ∙ sym (any-without (sought c) (view c)) ∙ sym (any-live c.args.node (without (sought c) (view c)) (slots-without (sought c) (view c) (slots c)) (low c))
    ∙ ap (list_any (sought c)) (without-is c ∙ sym (returns-clause-entry c))
