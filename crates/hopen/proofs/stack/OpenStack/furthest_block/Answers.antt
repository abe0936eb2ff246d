use Rattle.hopen.proofs.Names.{common_steps, length, ap, ◌∙◌, arith, is_node, take_rest}
use Rattle.hopen.proofs.OpenLevels.{level-within, node-level}
use Rattle.hopen.proofs.Searches.{furthest-level}
use Rattle.hopen.proofs.stack.OpenStack.furthest_block.Goals as goal

pub slice_bounds-first_special-count : goal.slice_bounds-first_special-count
slice_bounds-first_special-count c = let items = c.self.inside.items.items in
    let level = c.of_node-level.ensures ∙ node-level _ _ items c.self.invariant.rests.stands.nodes c.args.formatting in
    omega (arith, level-within (is_node c.args.formatting) items c.of_node-level.result level, ap length c.deref.ensures.value)

pub slice_bounds-first_special-start : goal.slice_bounds-first_special-start
slice_bounds-first_special-start c = let items = c.self.inside.items.items in
    let level = c.of_node-level.ensures ∙ node-level _ _ items c.self.invariant.rests.stands.nodes c.args.formatting in
    omega (arith, level-within (is_node c.args.formatting) items c.of_node-level.result level, ap length c.deref.ensures.value)

pub returns : goal.returns
returns c = grind (arith, common_steps, furthest-level, node-level, take_rest)
