use Rattle.charref.proofs.Names.{arith, common_steps}
use Rattle.charref.proofs.entries.add_flat.Goals as goal

pub returns-in_ok-extend_from_slice-in-Two : goal.returns-in_ok-extend_from_slice-in-Two
returns-in_ok-extend_from_slice-in-Two c = grind (arith, common_steps)

pub returns-in_ok-push-in-One : goal.returns-in_ok-push-in-One
returns-in_ok-push-in-One c = grind (arith, common_steps)
