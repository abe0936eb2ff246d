use Rattle.htoken.proofs.Names.{arith, common_steps}
use Rattle.htoken.proofs.gathered_text.make_room.Goals as goal

pub returns-then-len-more-clause-kept : goal.returns-then-len-more-clause-kept
returns-then-len-more-clause-kept c = grind (arith, common_steps)
