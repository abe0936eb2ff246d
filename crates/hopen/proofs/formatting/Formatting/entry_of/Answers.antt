use Rattle.hopen.proofs.Names.{◌≡◌, suc, ◌+◌, ◌-◌, ◌<◌, length, sym, arith, is_entry, item_of, listed_items, by_node, no_words, slice_get_nearest, words}
use Rattle.hopen.proofs.Holes.{entry_of-is, no-position, node-at, node-none, node_ordinal, ordinal-there, placed, placed-within, slots-are, stored_entry-is}
use Rattle.hopen.proofs.Listed.{length-items_of, ordinal-le}
use Rattle.hopen.proofs.Live.{entry_of-live}
use Rattle.hopen.proofs.formatting.Formatting.entry_of.Goals as goal

pub returns-then-ordinal-eq0 : goal.returns-then-ordinal-eq0
returns-then-ordinal-eq0 c = let view = listed_items c.self.inside.slots.items.items in let node = c.args.node in
    let ordinal = placed c.self.inside.slots c.node_number.ensures c.last-ordinal.ensures in
    let slots = slots-are c.self.inside.slots.items.items c.self.inside.slots.listed.stored in
    let none = no-position (is_entry node) view (node-none node (omega arith) view slots (omega arith)) in
    grind (arith, c.self.view_is, entry_of-live node view slots (omega arith), entry_of-is node view, (no_words (is_entry node) view none).find_is)

pub index-requires : goal.index-requires
index-requires c = omega (arith, c.if-ordinal-eq0.false, placed-within c.self.inside.slots c.node_number.ensures c.last-ordinal.ensures)

pub returns : goal.returns
returns c = let items = c.self.inside.slots.items.items in let ordinal = placed c.self.inside.slots c.node_number.ensures c.last-ordinal.ensures in
    let view = listed_items items in let node = c.args.node in let slots = slots-are items c.self.inside.slots.listed.stored in
    let some : 0 < c.last-ordinal.result = omega (arith, c.if-ordinal-eq0.false) in
    let x = c.index.result.now in let i = c.last-ordinal.result - 1 in let back = length view - node_ordinal node view in
    let at : i + suc back ≡ length items = omega (arith, ordinal-le by_node (suc (suc node)) view, length-items_of items) in
    let is = stored_entry-is x (ordinal-there (λ e. e.node) items node c.last-ordinal.result x some (sym ordinal) c.index.ensures) in
    let found = (words (is_entry node) view back (node-at node (omega arith) view slots (omega arith))).find_is in
    let live = entry_of-live node view slots (omega arith) in
    grind (arith, c.entry.ensures, is, c.index.ensures, slice_get_nearest item_of items i back x at, found, entry_of-is node view, live, c.self.view_is)
