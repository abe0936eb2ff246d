use Rattle.htag.proofs.Vocabulary.{◌-◌, false, length, Ok, TakesFront}
use Rattle.htag.proofs.walk.TagWalk.take_run.Given as goal

-- This many bytes of the run have been taken.
abbrev pub invariant-loop-count : goal.invariant-loop-count
invariant-loop-count l = TakesFront l.table l.fn.names l.names l.at l.run l.fn.self l.fn.errors.items (Ok (l.count, false)) l.self l.errors.items

abbrev pub decreases-loop-count : goal.decreases-loop-count
decreases-loop-count l = length l.run - l.count
