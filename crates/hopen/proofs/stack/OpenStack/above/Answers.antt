use Rattle.hopen.proofs.Names.{common_steps, ◌-◌, arith, ap, sym, ◌∙◌, length, is_node, length-take-le}
use Rattle.hopen.proofs.OpenLevels.{level-within, node-level}
use Rattle.hopen.proofs.Searches.{above-level}
use Rattle.hopen.proofs.stack.OpenStack.above.Goals as goal

pub slice_bounds-last_open-end : goal.slice_bounds-last_open-end
slice_bounds-last_open-end c = let items = c.self.inside.items.items in
    let level = c.of_node-level.ensures ∙ node-level _ _ items c.self.invariant.rests.stands.nodes c.args.node in
    sym (length-take-le c.saturating_sub.result c.deref.result.now (omega (
      arith,
      level-within (is_node c.args.node) items c.of_node-level.result level,
      c.saturating_sub.ensures,
      c.deref.ensures.len,
      ap length c.deref.ensures.value,
    )))

pub returns : goal.returns
returns c = grind (arith, common_steps, above-level, node-level)
