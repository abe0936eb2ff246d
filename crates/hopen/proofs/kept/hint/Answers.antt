use Rattle.hopen.proofs.Names.{arith, common_steps, ◌-◌, map-set_same}
use Rattle.hopen.proofs.kept.hint.Goals as goal

pub returns-then-level-items : goal.returns-then-level-items
returns-then-level-items c = grind (arith, common_steps, map-set_same)
