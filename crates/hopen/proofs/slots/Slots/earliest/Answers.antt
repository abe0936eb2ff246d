use Rattle.hopen.proofs.Names.{◌≡◌, ℕ, suc, ◌+◌, ◌-◌, ◌<◌, ◌≤◌, None, Some, Option, List, [], IfSome, map, length, get_or, nat_eq, drop, reverse, ap, sym, ◌∙◌, subst, Bool, true, false, arith, if◌then◌else◌, option_map_or, length-map, entry_is, EntryOf, Listed, after_marker, as_entry, is_equal, item_of, listed_items, nowhere, by_hash, number_by, numbers_by, Stored, slice_get_nearest, drop_of_length-le, common_steps}
use Rattle.hopen.proofs.ByHash.{Steps, last-at, length-after, number-at, numbers-before, skips, steps, farthest, farthest-within, room-made, room-there, same-number, stored_entry-equal}
use Rattle.hopen.proofs.Listed.{before-is, last-is, last_of, length-items_of, numbers-back, ordinal, ordinal-le}
use Rattle.hopen.proofs.slots.Slots.earliest.Goals as goal
use Rattle.hopen.proofs.slots.Slots.earliest.Goals.{then-branch, else-branch}

pub loop-ordinal-init : goal.loop-ordinal-init
loop-ordinal-init c = let items = c.args.self.now.items.items in let hashes = c.by_hash-hashes.result.now in let view = listed_items items in
    let of = by_hash c.args.self.now.keys in let new : EntryOf ℕ = entry_is c.args.new.now in let named : c.args.new.now.name < nowhere = omega arith in
    let numbers : reverse hashes ≡ map (number_by of) view = ap reverse c.by_hash-hashes.ensures ∙ numbers-back of items in
    let at : ordinal of c.args.hash view ≡ c.last-ordinal.result = grind (arith, c.last-ordinal.ensures, last-is c.args.hash hashes, numbers) in
    let skipped = skips of (is_equal nat_eq new) c.args.hash (λ e equal. same-number new e equal c.args.self.now.keys named ∙ sym c.requires.hash) view 0 in
    record {
      room = omega (arith, ordinal-le of c.args.hash view, length-items_of items);
      marked = c.last-marker.ensures ∙ last-is 0 hashes ∙ ap (last_of 0) numbers;
      number = λ some. grind (arith, length-map view (number_by of), last-at c.args.hash c.last-ordinal.result (map (number_by of) view) at some);
      count = let same = rw at at skipped.count in omega arith;
      first = grind (arith, at, skipped.first None);
    }

-- the number at the ordinal
number-there : (of : EntryOf ℕ → ℕ) (items : List Stored) (hashes : List ℕ) (number p : ℕ) → hashes ≡ numbers_by of items → 0 < p → p ≤ length items
    → (0 < p → get_or (map (number_by of) (listed_items items)) (length (listed_items items) - p) 0 ≡ number) → get_or hashes (p - 1) 0 ≡ number
number-there of items hashes number p is some within there = grind (arith, number-at of items p some within, length-items_of items, there some)

pub before-ordinal-requires-clause-number : goal.before-ordinal-requires-clause-number
before-ordinal-requires-clause-number c =
    let there : get_or c.by_hash-hashes.result.now (c.loop-ordinal.ordinal - 1) 0 ≡ c.args.hash =
    number-there (by_hash c.args.self.now.keys) c.args.self.now.items.items c.by_hash-hashes.result.now c.args.hash c.loop-ordinal.ordinal
    c.by_hash-hashes.ensures (omega arith) (omega (arith, c.loop-ordinal.invariant.room)) c.loop-ordinal.invariant.number in
    λ is. omega (arith, c.requires.hash, there, is)

-- a step back
module _ (c : goal.After-before-ordinal) where
  abbrev items : List Stored
  items = c.args.self.now.items.items

  abbrev view : List (Listed ℕ)
  view = listed_items items

  abbrev new : EntryOf ℕ
  new = entry_is c.args.new.now

  abbrev sought : EntryOf ℕ → Bool
  sought = is_equal nat_eq new

  abbrev here : Bool
  here = option_map_or sought (as_entry (item_of c.index.result.now)) false

  named : c.args.new.now.name < nowhere
  named = omega arith

  law : (e : EntryOf ℕ) → sought e ≡ true → suc ((by_hash c.args.self.now.keys) e) ≡ c.args.hash
  law e equal = same-number new e equal c.args.self.now.keys named ∙ sym c.requires.hash

  stepped : Steps (by_hash c.args.self.now.keys) sought c.args.hash law view c.loop-ordinal.ordinal c.before-ordinal.result here
  stepped = let hashes = c.by_hash-hashes.result.now in let p = c.loop-ordinal.ordinal in let x = c.index.result.now in let some : 0 < p = omega arith in
      let of = by_hash c.args.self.now.keys in let within : p ≤ length items = omega (arith, c.loop-ordinal.invariant.room) in
      let number = number-there of items hashes c.args.hash p c.by_hash-hashes.ensures some within c.loop-ordinal.invariant.number in
      let size = length-items_of items in let before = before-is (get_or hashes (p - 1) 0) hashes (p - 1) in
      let long : p - 1 ≤ length hashes = grind (arith, c.by_hash-hashes.ensures, length-map items (λ i. number_by of (item_of i))) in
      let at : (p - 1) + suc (length view - p) ≡ length items = omega arith in let got = slice_get_nearest item_of items (p - 1) (length view - p) x at in
      let numbers = numbers-before of items p some within in
      steps of sought c.args.hash law view p c.before-ordinal.result (item_of x) (omega arith) (omega (arith, c.loop-ordinal.invariant.marked))
      (grind (arith, got, c.index.ensures)) (grind (arith, c.before-ordinal.ensures, before, number, numbers, c.by_hash-hashes.ensures, size))

  stored_entry : c.in_ok-is_equal.field-0 ≡ here
  stored_entry = c.in_ok-is_equal.ensures ∙ stored_entry-equal new named c.index.result.now

  more : c.if-branch.equal ≡ c.loop-ordinal.equal + (if here then 1 else 0)
  more = elim c.if-branch.branch
      [ then-branch w ↦ grind (arith, w.equal-is, w.if-branch.true, stored_entry) | else-branch w ↦ grind (arith, w.equal-is, w.if-branch.false, stored_entry) ]

  few : c.if-branch.equal ≤ c.loop-ordinal.equal + 1
  few = elim c.if-branch.branch [ then-branch w ↦ omega (arith, w.equal-is) | else-branch w ↦ omega (arith, w.equal-is) ]

  found : c.if-branch.earliest ≡ (if here then Some (length view - c.loop-ordinal.ordinal) else c.loop-ordinal.earliest)
  found = let size = length-items_of items in elim c.if-branch.branch [
    | then-branch w ↦ grind (arith, w.len.ensures, size, w.earliest-is, w.if-branch.true, stored_entry)
    | else-branch w ↦ grind (arith, w.earliest-is, w.if-branch.false, stored_entry)
  ]

pub loop-ordinal-smaller : goal.loop-ordinal-smaller
loop-ordinal-smaller c = (stepped c).nearer

pub loop-ordinal-preserved : goal.loop-ordinal-preserved
loop-ordinal-preserved c = let s = stepped c in let up = length (view c) - c.before-ordinal.result in
    record {
      room = omega (arith, few c, s.nearer, c.loop-ordinal.invariant.room);
      marked = c.loop-ordinal.invariant.marked;
      number = s.number;
      count = omega (arith, more c, s.count, c.loop-ordinal.invariant.count);
      first = ap (λ o. farthest (sought c) up o (drop up (after_marker (view c)))) (found c) ∙ s.first c.loop-ordinal.earliest ∙ c.loop-ordinal.invariant.first;
    }

-- nothing is left at the end
nothing : (of : EntryOf ℕ → ℕ) (items : List (Listed ℕ)) (p : ℕ) → p ≤ ordinal of 0 items → drop (length items - p) (after_marker items) ≡ []
nothing of items p h = drop_of_length-le (after_marker items) (omega (arith, length-after of items))

pub returns-then-equal-lt-MOST_EQUAL-clause-room : goal.returns-then-equal-lt-MOST_EQUAL-clause-room
returns-then-equal-lt-MOST_EQUAL-clause-room c = let view = listed_items c.args.self.now.items.items in
    let last = nothing (by_hash c.args.self.now.keys) view c.loop-ordinal.ordinal (omega (arith, c.loop-ordinal.invariant.marked)) in
    let count = rw last at c.loop-ordinal.invariant.count in
    room-there nat_eq (entry_is c.args.new.now) view c.loop-ordinal.equal (omega arith) (omega arith)

pub returns-else-equal-lt-MOST_EQUAL-clause-within : goal.returns-else-equal-lt-MOST_EQUAL-clause-within
returns-else-equal-lt-MOST_EQUAL-clause-within c = let items = c.args.self.now.items.items in let view = listed_items items in
    let sought = is_equal nat_eq (entry_is c.args.new.now) in
    let last = nothing (by_hash c.args.self.now.keys) view c.loop-ordinal.ordinal (omega (arith, c.loop-ordinal.invariant.marked)) in
    let first = rw last at c.loop-ordinal.invariant.first in
    subst (λ (o : Option ℕ). IfSome o (λ k. k < length items)) (sym first) (farthest-within sought 0 None (after_marker view) (length items)
    (omega (arith, length-after (by_hash c.args.self.now.keys) view, length-items_of items)) tt)

pub returns-else-equal-lt-MOST_EQUAL-clause-room : goal.returns-else-equal-lt-MOST_EQUAL-clause-room
returns-else-equal-lt-MOST_EQUAL-clause-room c = let view = listed_items c.args.self.now.items.items in let new : EntryOf ℕ = entry_is c.args.new.now in
    let last = nothing (by_hash c.args.self.now.keys) view c.loop-ordinal.ordinal (omega (arith, c.loop-ordinal.invariant.marked)) in
    let count = rw last at c.loop-ordinal.invariant.count in let first = rw last at c.loop-ordinal.invariant.first in
    grind (arith, first, room-made nat_eq new view c.loop-ordinal.equal (omega arith) (omega arith))

pub before-ordinal-requires-clause-within : goal.before-ordinal-requires-clause-within
before-ordinal-requires-clause-within c = grind (arith, common_steps)
