use Rattle.charref.proofs.Searching.{range_of}
use Rattle.charref.proofs.starts.starting.Goals as goal

pub returns : goal.returns
returns c = λ table sorted index. rw c.from-code.ensures (range_of table c.args.starts.now c.args.byte sorted index c.requires.ascii)
