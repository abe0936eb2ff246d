use Rattle.hopen.proofs.Names.{◌≡◌, reverse, ◌∙◌, ap, arith, nat_eq, entry_is, listed_items, by_name, common_steps}
use Rattle.hopen.proofs.ByHash.{room-unmet}
use Rattle.hopen.proofs.Listed.{last-is, last_of, numbers-back, marker_ordinal, name_ordinal, find-none}
use Rattle.hopen.proofs.slots.Slots.prepare.Goals as goal

pub returns-then-ordinal-last-clause-room : goal.returns-then-ordinal-last-clause-room
returns-then-ordinal-last-clause-room c = let items = c.args.self.now.items.items in
    let numbers = ap reverse c.args.self.now.listed.names ∙ numbers-back by_name items in
    let ordinal : c.last-ordinal.result ≡ name_ordinal c.args.new.now.name (listed_items items) =
    c.last-ordinal.ensures ∙ last-is c.name_number.result c.args.self.now.names ∙ (λ i. last_of (c.name_number.ensures i) (numbers i)) in
    let marker : c.last.result ≡ marker_ordinal (listed_items items) = c.last.ensures ∙ last-is 0 c.args.self.now.names ∙ ap (last_of 0) numbers in
    room-unmet nat_eq (entry_is c.args.new.now) (listed_items items)
    (find-none c.args.new.now.name (omega arith) (listed_items items) (omega (arith, ordinal, marker, c.if-ordinal-last.true)))

pub returns-clause-within : goal.returns-clause-within
returns-clause-within c = grind (arith, common_steps)

pub returns-clause-room : goal.returns-clause-room
returns-clause-room c = grind (arith, common_steps)

pub returns-clause-hash : goal.returns-clause-hash
returns-clause-hash c = grind (arith, common_steps)
