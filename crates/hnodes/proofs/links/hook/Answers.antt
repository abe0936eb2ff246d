use Rattle.hnodes.proofs.Names.{arith, common_steps}
use Rattle.hnodes.proofs.links.hook.Goals as goal

pub set_place-requires : goal.set_place-requires
set_place-requires c = grind (arith, common_steps)

pub link_before-requires-clause-parent_in : goal.link_before-requires-clause-parent_in
link_before-requires-clause-parent_in c = grind (arith, common_steps)

pub link_before-requires-clause-after_in : goal.link_before-requires-clause-after_in
link_before-requires-clause-after_in c = grind (arith, common_steps)
