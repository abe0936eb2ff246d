use Rattle.hnodes.proofs.Names.{arith, common_steps}
use Rattle.hnodes.proofs.IndexNames.{◌≡◌, ◌<◌, length, get_or, sym, ◌∙◌, rules, group_of}
use Rattle.hnodes.proofs.IndexSteps.{last-le, last-walks, last-found}
use Rattle.hnodes.proofs.indexed_list.IndexedList.last.Goals as goal

pub find_down-requires : goal.find_down-requires
find_down-requires c = let last = c.self.inside.last.items in let ordinal = c.index-ordinal.result.now in let wide : 0 < length last = search rules in
    let is : ordinal ≡ get_or last (group_of c.args.number (length last)) ordinal = search rules in
    let from = last-walks c.self.invariant.indexed c.args.number ordinal c.requires wide is in
    let within = last-le c.self.invariant.indexed c.args.number ordinal c.requires wide is in
    rw c.deref.ensures.value (record { within = within; group = (from.width, from.kept, from.group); number = c.requires })

pub returns : goal.returns
returns c = let last = c.self.inside.last.items in let ordinal = c.index-ordinal.result.now in let wide : 0 < length last = search rules in
    let is : ordinal ≡ get_or last (group_of c.args.number (length last)) ordinal = search rules in
    rw (← c.self.view_is) (rw c.deref.ensures.value at c.find_down.ensures ∙ sym (last-found c.self.invariant.indexed c.args.number ordinal c.requires wide is))

pub returns-then-is_empty : goal.returns-then-is_empty
returns-then-is_empty c = grind (arith, common_steps)
