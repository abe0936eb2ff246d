use Rattle.hnodes.proofs.IndexNames.{◌-◌, refl, map-set_same, link_number, before_of}
use Rattle.hnodes.proofs.indexed_list.hint_at.Goals as goal

pub returns-then-ordinal-gt0-clause-numbers : goal.returns-then-ordinal-gt0-clause-numbers
returns-then-ordinal-gt0-clause-numbers c =
    map-set_same link_number c.args.links.now (c.args.ordinal - 1) _ (record { number = 0; before = 0; hint = 0 }) refl

pub returns-then-ordinal-gt0-clause-befores : goal.returns-then-ordinal-gt0-clause-befores
returns-then-ordinal-gt0-clause-befores c =
    map-set_same before_of c.args.links.now (c.args.ordinal - 1) _ (record { number = 0; before = 0; hint = 0 }) refl
