use Rattle.hserialize.proofs.Names.{arith, common_steps}
use Rattle.hserialize.proofs.plain.is_plain_node.Goals as goal

pub is_plain_comment-requires-text-text : goal.is_plain_comment-requires-text-text
is_plain_comment-requires-text-text c = grind (arith, common_steps)
