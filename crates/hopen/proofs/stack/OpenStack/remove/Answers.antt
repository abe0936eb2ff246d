use Rattle.hopen.proofs.Names.{common_steps, ◌-◌, ◌∙◌, arith, is_node}
use Rattle.hopen.proofs.ExchangedSlots.{node-placed, kept, length-without-le, none-left, seen, stack-left}
use Rattle.hopen.proofs.OpenLevels.{node-level, placed}
use Rattle.hopen.proofs.stack.OpenStack.remove.Goals as goal

pub remove-requires-clause-within : goal.remove-requires-clause-within
remove-requires-clause-within c = omega
    (arith, (node-placed _ _ c.self.invariant.rests.stands c.args.node c.of_node-level.result c.of_node-level.ensures (omega arith)).sum)

pub remove-requires-clause-live : goal.remove-requires-clause-live
remove-requires-clause-live c = (node-placed _ _ c.self.invariant.rests.stands c.args.node c.of_node-level.result c.of_node-level.ensures (omega arith)).live

pub invariant_of-self : goal.invariant_of-self
invariant_of-self c = let items = c.self.inside.items.items in let s = is_node c.args.node in
    let left = c.remove.ensures.items ∙ stack-left s items (c.of_node-level.result - 1)
    (node-placed _ _ c.self.invariant.rests.stands c.args.node c.of_node-level.result c.of_node-level.ensures (omega arith)) in
    grind (arith, common_steps, node-placed, node-level, placed, kept, length-without-le, none-left, seen, stack-left)

pub returns-then-level-gt0 : goal.returns-then-level-gt0
returns-then-level-gt0 c = grind (arith, common_steps, node-level, placed, seen, stack-left)

pub returns-else-level-gt0 : goal.returns-else-level-gt0
returns-else-level-gt0 c = grind (arith, common_steps, kept, node-level, none-left)
