use Rattle.hopen.proofs.Holes.{no-position, node-at, node-none, node_ordinal, ordinal-stored_entry, placed, placed-within, slots-are}
use Rattle.hopen.proofs.Names.{◌≡◌, suc, ◌-◌, ◌<◌, length, get_or, sym, ◌∙◌, ap, arith, get_or_default, for_node, is_entry, with_node, listed_items, live, by_node, changed_at, no_words, words}
use Rattle.hopen.specs.declared.entry.Slot.TheVariants as stored
use Rattle.hopen.proofs.Listed.{length-items_of, ordinal-le}
use Rattle.hopen.proofs.Live.{with_node-live}
use Rattle.hopen.proofs.formatting.Formatting.replace.Goals as goal

pub renew-requires-clause-within : goal.renew-requires-clause-within
renew-requires-clause-within c = omega (arith, placed-within c.self.inside.slots c.node_number.ensures c.last-ordinal.ensures)

pub renew-requires-clause-entry : goal.renew-requires-clause-entry
renew-requires-clause-entry c = let items = c.self.inside.slots.items.items in
    let ordinal = placed c.self.inside.slots c.node_number.ensures c.last-ordinal.ensures in
    let slots = slots-are items c.self.inside.slots.listed.stored in
    let i = c.last-ordinal.result - 1 in
    let x = get_or items i stored.Hole in
    let within : i < length items = omega (arith, ordinal-le by_node (suc (suc c.args.from)) (listed_items items), length-items_of items) in
    ordinal-stored_entry (λ e. e.node) items c.args.from c.last-ordinal.result x (omega arith) (sym ordinal) (get_or_default items i stored.Hole x within)

pub returns-then-ordinal-gt0 : goal.returns-then-ordinal-gt0
returns-then-ordinal-gt0 c = let s = c.self.inside.slots in let items = s.items.items in let ordinal = placed s c.node_number.ensures c.last-ordinal.ensures in
    let view = listed_items items in let slots = slots-are items s.listed.stored in let up = length view - node_ordinal c.args.from view in
    let at : length items - 1 - (c.last-ordinal.result - 1) ≡ up = omega (arith, length-items_of items) in
    let found = words (is_entry c.args.from) view up (node-at c.args.from (omega arith) view slots (omega arith)) in
    ap live c.renew.ensures.items ∙ ap (λ k. live (changed_at k (for_node c.args.to) view)) at ∙ ap live (sym (found.changed_is (for_node c.args.to)))
    ∙ sym (with_node-live c.args.from view slots (omega arith) c.args.to) ∙ ap (with_node c.args.from c.args.to) c.self.view_is

pub returns-else-ordinal-gt0 : goal.returns-else-ordinal-gt0
returns-else-ordinal-gt0 c = let s = c.self.inside.slots in let ordinal = placed s c.node_number.ensures c.last-ordinal.ensures in
    let view = listed_items s.items.items in let slots = slots-are s.items.items s.listed.stored in
    let none = no-position (is_entry c.args.from) view (node-none c.args.from (omega arith) view slots (omega arith)) in
    sym c.self.view_is ∙ ap live (sym ((no_words (is_entry c.args.from) view none).changed_is (for_node c.args.to)))
    ∙ sym (with_node-live c.args.from view slots (omega arith) c.args.to) ∙ ap (with_node c.args.from c.args.to) c.self.view_is
