use Rattle.hnodes.proofs.Names.{◌∙◌, ap, nat_eq, list_any, arith, common_steps}
use Rattle.hnodes.proofs.Indexed.{found_first, found_rest}
use Rattle.hnodes.proofs.attributes.Indexed.has.Goals as goal

pub returns-then-last-gt0 : goal.returns-then-last-gt0
returns-then-last-gt0 c = found_first c.self.inside.names c.self.inside.attrs.items c.name_number.result c.args.name c.last.result c.self.invariant.first
    c.name_number.ensures c.last.ensures c.if-last-gt0.true ∙ ap (list_any (λ a. nat_eq a.0 c.args.name)) c.self.view_is

pub returns-else-last-gt0 : goal.returns-else-last-gt0
returns-else-last-gt0 c = found_rest c.self.inside.names c.self.inside.attrs.items c.deref.result.now c.name_number.result c.args.name c.last.result
    c.len.result c.has_name.result c.self.invariant.first c.name_number.ensures c.last.ensures c.if-last-gt0.false c.deref.ensures.value c.len.ensures
    (c.has_name.ensures ∙ ap (list_any (λ a. nat_eq a.0 c.args.name)) c.listed.ensures) ∙ ap (list_any (λ a. nat_eq a.0 c.args.name)) c.self.view_is

pub offset_bounds-deref-len : goal.offset_bounds-deref-len
offset_bounds-deref-len c = grind (arith, common_steps)
