use Rattle.hmarkup.proofs.Walking.{plain_read}
use Rattle.hmarkup.proofs.comment.CommentWalk.bogus_after.Goals as goal

pub returns : goal.returns
returns c = rw (c.with.ensures, c.in_ok-text.ensures) (plain_read c.args.read.now c.requires)
