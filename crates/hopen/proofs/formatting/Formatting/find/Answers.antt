use Rattle.hopen.proofs.Names.{◌≡◌, suc, ◌+◌, ◌-◌, length, reverse, sym, ◌∙◌, ap, arith, item_of, listed_items, by_name, slice_get_nearest}
use Rattle.hopen.proofs.Listed.{last-is, last_of, length-items_of, numbers-back, marker_ordinal, name_ordinal, ordinal-le, find-none, find-at}
use Rattle.hopen.proofs.Holes.{ordinal-there, stored_entry-is}
use Rattle.hopen.proofs.Live.{find-live}
use Rattle.hopen.proofs.formatting.Formatting.find.Goals as goal

pub returns-then-ordinal-last : goal.returns-then-ordinal-last
returns-then-ordinal-last c = let items = c.self.inside.slots.items.items in let view = listed_items items in let name = c.args.name in
    let numbers = ap reverse c.self.inside.slots.listed.names ∙ numbers-back by_name items in
    let ordinal : c.last-ordinal.result ≡ name_ordinal name view =
    c.last-ordinal.ensures ∙ last-is c.name_number.result c.self.inside.slots.names ∙ (λ i. last_of (c.name_number.ensures i) (numbers i)) in
    let marker : c.last.result ≡ marker_ordinal view = c.last.ensures ∙ last-is 0 c.self.inside.slots.names ∙ ap (last_of 0) numbers in
    grind (arith, c.self.view_is, find-live name view (omega arith), find-none name (omega arith) view (omega arith))

pub index-requires : goal.index-requires
index-requires c = let items = c.self.inside.slots.items.items in let numbers = ap reverse c.self.inside.slots.listed.names ∙ numbers-back by_name items in
    let ordinal : c.last-ordinal.result ≡ name_ordinal c.args.name (listed_items items) =
    c.last-ordinal.ensures ∙ last-is c.name_number.result c.self.inside.slots.names ∙ (λ i. last_of (c.name_number.ensures i) (numbers i)) in
    omega (arith, ordinal-le by_name (suc (suc c.args.name)) (listed_items items), length-items_of items)

pub returns : goal.returns
returns c = let items = c.self.inside.slots.items.items in let numbers = ap reverse c.self.inside.slots.listed.names ∙ numbers-back by_name items in
    let view = listed_items items in let name = c.args.name in
    let ordinal : c.last-ordinal.result ≡ name_ordinal name view =
    c.last-ordinal.ensures ∙ last-is c.name_number.result c.self.inside.slots.names ∙ (λ i. last_of (c.name_number.ensures i) (numbers i)) in
    let marker : c.last.result ≡ marker_ordinal view = c.last.ensures ∙ last-is 0 c.self.inside.slots.names ∙ ap (last_of 0) numbers in
    let x = c.index.result.now in let i = c.last-ordinal.result - 1 in let back = length view - name_ordinal name view in
    let at : i + suc back ≡ length items = omega (arith, ordinal-le by_name (suc (suc name)) view, length-items_of items) in
    let is = stored_entry-is x (ordinal-there (λ e. e.name) items name c.last-ordinal.result x (omega arith) (sym ordinal) c.index.ensures) in
    let here = slice_get_nearest item_of items i back x at in let found = find-at name (omega arith) view (omega arith) in
    grind (arith, c.entry.ensures, is, c.index.ensures, here, found, find-live name view (omega arith), c.self.view_is)
