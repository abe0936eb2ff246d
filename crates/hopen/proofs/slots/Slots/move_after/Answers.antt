use Rattle.hopen.proofs.Names.{◌≡◌, ℕ, ◌<◌, ◌==◌, suc, true, List, length, set, get_or, reverse, refl, ◌∙◌, ap, arith, is_some, remove, get_or_read, length-reverse, length-set, length-remove, last_up, for_node, is_entry, item_of, item_put_before, listed_items, live, nowhere, moved_entry, stored_entry, last_place, last_place-le, Stored, common_steps}
use Rattle.hopen.specs.declared.entry.Slot.TheVariants as stored
use Rattle.hopen.proofs.Moved.{any-same, put-same, IsPlaceWithout, listed-renewed, mark-ordinal, moved-after}
use Rattle.hopen.proofs.slots.Slots.move_after.Goals as goal
use Rattle.hopen.proofs.slots.Slots.move_after.Goals.{After-set_node, then-ordinal-near, else-ordinal-near}

module _ (c : After-set_node) where
  abbrev items : List Stored
  items = c.approach-near.new.self.items.items

  abbrev i : ℕ
  i = c.approach-near.result

  entry : is_some (stored_entry (get_or items i stored.Hole)) ≡ true
  entry = ap (λ x. is_some (stored_entry x)) c.approach-near.ensures.entry ∙ c.requires.entry

  -- under its new node
  renamed : c.set_node.new.self ≡ moved_entry c.args.node (get_or items i stored.Hole)
  renamed = c.set_node.ensures
      ∙ ap (moved_entry c.args.node) (get_or_read items i c.index_mut.result.now c.approach-near.ensures.within c.index_mut.ensures.value stored.Hole)

  -- the ordinal of the mark, without the entry that moves
  placed : c.if-ordinal-near.to ≡ last_place (λ x. is_entry c.args.mark (item_of x)) (reverse (remove items i))
  placed = let low : c.args.mark < nowhere = omega arith in let listed = c.approach-near.new.self.listed in
      let ordinal : IsPlaceWithout (λ x. is_entry c.args.mark (item_of x)) items i c.last-ordinal.result =
      mark-ordinal c.args.mark low items c.approach-near.new.self.nodes i c.last-ordinal.result c.approach-near.ensures.within listed.stored listed.nodes
      (c.last-ordinal.ensures ∙ ap (λ n. last_up (λ k. k == n) c.clear.new.self (length c.clear.new.self)) c.node_number.ensures
      ∙ ap (λ l. last_up (λ k. k == suc (suc c.args.mark)) l (length l)) c.clear.ensures) in
      elim c.if-ordinal-near.branch
      [ then-ordinal-near w ↦ w.to-is ∙ ordinal.below w.if-ordinal-near.true | else-ordinal-near w ↦ w.to-is ∙ ordinal.above w.if-ordinal-near.false ]

pub invariant_of-self : goal.invariant_of-self
invariant_of-self c = let s = (goal.at.invariant_of-self c).After-set_node in let near = c.approach-near in
    record {
      listed = listed-renewed c.args.node near.result near.new.self refl near.ensures.within (entry s) (omega arith) refl refl (c.set.ensures
          ∙ ap (λ n. set c.clear.new.self near.result n) c.node_number-2.ensures ∙ ap (λ ns. set ns near.result (suc (suc c.args.node))) c.clear.ensures) refl
          (ap (set (items s) near.result) (renamed s));
    }

pub carry-requires-clause-to : goal.carry-requires-clause-to
carry-requires-clause-to c = let s = (goal.at.carry-requires-clause-to c).After-set_node in let rest = remove (items s) (i s) in
    omega (
      arith,
      placed s,
      last_place-le (λ x. is_entry c.args.mark (item_of x)) (reverse rest),
      length-reverse rest,
      length-remove (items s) (i s) c.approach-near.ensures.within,
      length-set (items s) (i s) c.set_node.new.self,
    )

pub returns : goal.returns
returns c = let s = (goal.at.returns c).After-set_node in let near = c.approach-near in let old = c.args.self.now.items.items in
    let there = any-same c.args.mark (omega arith) old (items s) c.args.index near.result c.args.self.now.listed.stored near.new.self.listed.stored
    near.ensures.rest ∙ c.requires.mark in
    record {
      items = ap live (ap listed_items c.carry.ensures.items ∙ moved-after c.args.node c.args.mark (items s) near.result c.if-ordinal-near.to
          c.set_node.new.self near.ensures.within (entry s) (renamed s) (placed s) there ∙ ap
          (λ x. item_put_before (is_entry c.args.mark) (for_node c.args.node (item_of x)) (listed_items (remove (items s) near.result))) near.ensures.entry)
          ∙ put-same c.args.mark (omega arith) old (items s) c.args.index near.result c.args.self.now.listed.stored near.new.self.listed.stored
          near.ensures.rest c.args.node c.requires.entry c.requires.within;
    }

pub set-requires-clause-within : goal.set-requires-clause-within
set-requires-clause-within c = grind (arith, common_steps)

pub set-requires-clause-free : goal.set-requires-clause-free
set-requires-clause-free c = grind (arith, common_steps)

pub clear-requires : goal.clear-requires
clear-requires c = grind (arith, common_steps)
