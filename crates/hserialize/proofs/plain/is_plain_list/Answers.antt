use Rattle.hserialize.proofs.Names.{◌∙◌, sym, ap, text_of, children_of, mapped, top_content, arith, common_steps}
use Rattle.hserialize.proofs.Regions.{begun, not_plain}
use Rattle.hserialize.proofs.Walks.{fails}
use Rattle.hserialize.proofs.plain.is_plain_list.Goals as goal

pub returns-then-not-is_plain_region : goal.returns-then-not-is_plain_region
returns-then-not-is_plain_region c = not_plain c.args.context.now c.named-tag.result c.in-Some.top
    (mapped (text_of c.args.names.now.table.now) (children_of c.args.root c.args.tree.now.trees)) c.named-tag.ensures
    (sym c.in-Some.is ∙ c.at_top.ensures ∙ ap (λ r. top_content r.1) c.row.ensures) (sym c.if-not-is_plain_region.true ∙ c.is_plain_region.ensures)

pub loop-visit-init : goal.loop-visit-init
loop-visit-init c = begun c.args.names.now.table.now c.args.tree.now.made c.args.tree.now.trees c.args.root c.in-Some.top c.args.context.now c.named-tag.result
    c.is_form_element-in_form.result _ _ c.are_names.ensures.names c.new-visit-items.ensures.nodes.counted c.requires c.named-tag.ensures
    (sym c.in-Some.is ∙ c.at_top.ensures ∙ ap (λ r. top_content r.1) c.row.ensures) (sym c.if-not-is_plain_region.false ∙ c.is_plain_region.ensures)
    c.is_form_element-in_form.ensures c.into_iter-visit-iterator.ensures.into_iter_gives c.new-visit-items.ensures.visits

pub returns-in-None-form_after : goal.returns-in-None-form_after
returns-in-None-form_after c = fails _ _ _ c.in-Some-visit.visit _ _ c.in-Some-visit.ensures.steps c.loop-visit.invariant c.in-None-form_after.ensures

pub returns : goal.returns
returns c = grind (arith, common_steps)
