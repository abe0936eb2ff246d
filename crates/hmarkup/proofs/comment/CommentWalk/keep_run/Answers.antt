use Rattle.hmarkup.proofs.Names.{arith, common_steps}
use Rattle.hmarkup.proofs.comment.CommentWalk.keep_run.Goals as goal

pub returns : goal.returns
returns c = grind (arith, common_steps)
