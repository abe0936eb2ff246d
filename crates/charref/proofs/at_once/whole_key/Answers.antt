use Rattle.charref.proofs.Names.{◌≡◌, ◌-◌, length, slice_get, Some, sym, ap, ◌∙◌, subst, arith, some_same, Entry, IsTable}
use Rattle.charref.proofs.AtOnce.{key_settles}
use Rattle.charref.proofs.Naming.{some_key}
use Rattle.charref.proofs.at_once.whole_key.Goals as goal

pub overflow_sub-result : goal.overflow_sub-result
overflow_sub-result c = let e : Entry = c.key.ensures.0 in let is_table = subst IsTable c.table.view_is c.table.invariant.0.sorted.is_table in
    let size : length c.key.result.now ≡ length e.key = ap length c.key.ensures.2 in
    omega (arith, some_key c.args.table.now c.args.index e is_table (ap (λ t. slice_get t c.args.index) (sym c.table.view_is) ∙ c.key.ensures.1))

pub returns : goal.returns
returns c = λ bytes has.
    let stands : slice_get c.table.inside.flat c.args.index ≡ slice_get c.args.table.now c.args.index = ap (λ t. slice_get t c.args.index) c.table.view_is in
    let same : (f : Entry) → slice_get c.table.inside.flat c.args.index ≡ Some f → f ≡ has.entry =
    λ f got. some_same f has.entry (sym got ∙ stands ∙ has.stands) in
    key_settles c.args.table.now bytes c.args.index (length c.key.result.now - 1) c.characters.result has
    (ap (λ key. length key - 1) (c.key.ensures.2 ∙ ap (λ (y : Entry). y.key) (same c.key.ensures.0 c.key.ensures.1)))
    (c.characters.ensures.2 ∙ ap (λ (y : Entry). y.stands_for) (same c.characters.ensures.0 c.characters.ensures.1))
