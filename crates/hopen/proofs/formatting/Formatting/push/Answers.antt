use Rattle.hopen.proofs.Holes.{unless, apart}
use Rattle.hopen.proofs.Names.{◌≡◌, ℕ, suc, ◌+◌, ◌-◌, ◌∷◌, None, Some, length, refl, ◌∙◌, ap, nat_eq, arith, EntryOf, entry, pushed, hole, item_of, listed_items, live, changed_at, set_nearest, entry_hash, ◌<◌, cond, not, Bool, List, Option, remove, option_map_or, Listed, with_room, nowhere, common_steps}
use Rattle.hopen.specs.declared.entry.Slot.TheVariants as stored
use Rattle.hopen.proofs.Listed.{items_of_last, length-items_of}
use Rattle.hopen.proofs.formatting.Formatting.push.Goals as goal
use Rattle.hopen.proofs.Live.{hide-live, room-live}

-- A new entry comes last, and what gives way to it leaves a hole.

-- a new entry is no hole
live-new : (new : EntryOf ℕ) → new.name < nowhere → (xs : List (Listed ℕ)) → live (entry new ∷ xs) ≡ entry new ∷ live xs
live-new new low xs = ap (λ (v : Bool). cond (not v) (entry new ∷ live xs) (live xs)) (apart new.name nowhere low)

pushed-live : (new : EntryOf ℕ) → new.name < nowhere → (xs : List (Listed ℕ)) (first : Option ℕ)
    → option_map_or (remove xs) first xs ≡ with_room nat_eq new xs
    → live (option_map_or (λ k. changed_at (suc k) (λ _. hole) (entry new ∷ xs)) first (entry new ∷ xs)) ≡ pushed nat_eq new (live xs)
pushed-live new low xs first room = grind (arith, live-new new low, room, room-live new xs low, hide-live)

pub returns-in-Some-clause-ok : goal.returns-in-Some-clause-ok
returns-in-Some-clause-ok c = let old = c.prepare.new.self.items.items in let items = c.put.new.self.items.items in
    let new : EntryOf ℕ = record { node = c.args.node; name = c.args.name; attrs = c.args.attrs } in
    let room = rw c.in-Some.is at c.in_ok-hash.ensures.room in
    let within = rw c.in-Some.is at c.in_ok-hash.ensures.within in
    let put : listed_items items ≡ entry new ∷ listed_items old =
    items_of_last items old (stored.Entry (record { node = c.args.node; name = c.args.name; attrs = c.args.attrs })) c.in_ok-put.ensures.ok in
    let at : (c.len.result - 2 - c.in-Some.back) + suc (suc c.in-Some.back) ≡ length items = omega
    (arith, ap length put, length-items_of items, length-items_of old, within) in
    ap (λ xs. live (listed_items xs)) c.hide.ensures.items
    ∙ ap live (set_nearest item_of (λ _. hole) items (c.len.result - 2 - c.in-Some.back) (suc c.in-Some.back) stored.Hole stored.Hole at refl)
    ∙ ap (λ xs. live (changed_at (suc c.in-Some.back) (λ _. hole) xs)) put ∙ pushed-live new (omega arith) (listed_items old) (Some c.in-Some.back) room
    ∙ ap (pushed nat_eq new) (ap (λ xs. live (listed_items xs)) c.prepare.ensures.items ∙ c.make_room.ensures ∙ c.self.view_is)

pub returns-in_default-clause-ok : goal.returns-in_default-clause-ok
returns-in_default-clause-ok c = let old = c.prepare.new.self.items.items in let items = c.put.new.self.items.items in
    let new : EntryOf ℕ = record { node = c.args.node; name = c.args.name; attrs = c.args.attrs } in
    let room = rw c.in_default.is at c.in_ok-hash.ensures.room in
    let put : listed_items items ≡ entry new ∷ listed_items old =
    items_of_last items old (stored.Entry (record { node = c.args.node; name = c.args.name; attrs = c.args.attrs })) c.in_ok-put.ensures.ok in
    ap live put ∙ pushed-live new (omega arith) (listed_items old) None room
    ∙ ap (pushed nat_eq new) (ap (λ xs. live (listed_items xs)) c.prepare.ensures.items ∙ c.make_room.ensures ∙ c.self.view_is)

pub put-requires-clause-hash : goal.put-requires-clause-hash
put-requires-clause-hash c = let new : EntryOf ℕ = record { node = c.args.node; name = c.args.name; attrs = c.args.attrs } in
    c.in_ok-hash.ensures.hash ∙ unless c.args.name (entry_hash c.prepare.new.self.keys new) (omega arith)

pub hide-requires : goal.hide-requires
hide-requires c = grind (arith, common_steps)

pub overflow_sub-index : goal.overflow_sub-index
overflow_sub-index c = grind (arith, common_steps)

pub overflow_sub-index-in-Some : goal.overflow_sub-index-in-Some
overflow_sub-index-in-Some c = grind (arith, common_steps)
