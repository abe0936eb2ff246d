use Rattle.hopen.proofs.Names.{common_steps, ◌≡◌, suc, get_or, set, refl, ◌∙◌, ap, arith, get_or_read, moved_entry}
use Rattle.hopen.specs.declared.entry.Slot.TheVariants as stored
use Rattle.hopen.proofs.Moved.{listed-renewed, renewed-items}
use Rattle.hopen.proofs.slots.Slots.renew.Goals as goal

pub invariant_of-self : goal.invariant_of-self
invariant_of-self c = let items = c.args.self.now.items.items in
    let read : c.index_mut.result.now ≡ get_or items c.args.index stored.Hole =
    get_or_read items c.args.index c.index_mut.result.now c.requires.within c.index_mut.ensures.value stored.Hole in
    record {
      listed = listed-renewed c.args.node c.args.index c.args.self.now refl c.requires.within c.requires.entry (omega arith) refl refl (c.set.ensures
          ∙ ap (λ n. set c.clear.new.self c.args.index n) c.node_number.ensures ∙ ap (λ ns. set ns c.args.index (suc (suc c.args.node))) c.clear.ensures) refl
          (ap (set items c.args.index) (c.set_node.ensures ∙ ap (moved_entry c.args.node) read));
    }

pub returns : goal.returns
returns c = grind (arith, common_steps, get_or_read, renewed-items)

pub set-requires-clause-within : goal.set-requires-clause-within
set-requires-clause-within c = grind (arith, common_steps)

pub clear-requires : goal.clear-requires
clear-requires c = grind (arith, common_steps)
