use Rattle.hnodes.proofs.IndexNames.{length, numbers_of, in_group_of}
use Rattle.hnodes.proofs.Relinked.{Walk}
use Rattle.hnodes.proofs.relink.link_at.Given as goal

abbrev pub invariant-loop-before : goal.invariant-loop-before
invariant-loop-before l = Walk (in_group_of (length l.last) l.number) (numbers_of l.links) l.index l.before l.hint

abbrev pub decreases-loop-before : goal.decreases-loop-before
decreases-loop-before l = l.before
