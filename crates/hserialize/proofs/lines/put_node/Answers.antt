use Rattle.hserialize.proofs.Names.{◌∙◌, ap, map, refl, text_of, pair_of, printed_lines, arith, common_steps}
use Rattle.hserialize.proofs.Output.{first_failed, put_for, then_put}
use Rattle.hserialize.proofs.LineTexts.{element_parts}
use Rattle.hserialize.proofs.lines.put_node.Goals as goal

pub returns-in_err-put_line-in-Element-clause-text : goal.returns-in_err-put_line-in-Element-clause-text
returns-in_err-put_line-in-Element-clause-text g c = put_for _ _ (printed_lines (text_of c.args.names.now) c.args.depth) c.from_residual.result _ _ _
    c.in-Element.is c.of.ensures (first_failed _ _ _ _ _ _ c.from_residual.ensures.1
    (element_parts c.args.depth (text_of c.args.names.now c.in-Element.name) _ _ _ (c.as_bytes.ensures.value ∙ c.text.ensures.text) refl)
    c.in_err-put_line-in-Element.ensures)

pub returns-in_ok-put_line-in-Element-clause-text : goal.returns-in_ok-put_line-in-Element-clause-text
returns-in_ok-put_line-in-Element-clause-text g c = put_for _ _ (printed_lines (text_of c.args.names.now) c.args.depth) c.put_attributes.result _ _ _
    c.in-Element.is c.of.ensures (then_put _ _ _ _ _ _ _ (element_parts c.args.depth (text_of c.args.names.now c.in-Element.name) _ _
    (map pair_of c.deref.result.now) (c.as_bytes.ensures.value ∙ c.text.ensures.text) (ap (map pair_of) c.deref.ensures.value ∙ c.in_order.ensures.pairs))
    c.in_ok-put_line-in-Element.ensures c.put_attributes.ensures)

pub returns-in-Comment-clause-text : goal.returns-in-Comment-clause-text
returns-in-Comment-clause-text g c = grind (arith, common_steps)

pub in_order-requires : goal.in_order-requires
in_order-requires g c = grind (arith, common_steps)

pub as_bytes-requires-in-Comment-text-self : goal.as_bytes-requires-in-Comment-text-self
as_bytes-requires-in-Comment-text-self g c = grind (arith, common_steps)
