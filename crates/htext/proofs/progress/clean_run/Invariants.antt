use Rattle.htext.proofs.Names.{length, IsUtf8}
use Rattle.htext.proofs.Clean.{IsLeft}
use Rattle.htext.proofs.progress.clean_run.Given as goal

abbrev pub invariant-loop-ch : goal.invariant-loop-ch
invariant-loop-ch l = record { left : IsLeft l.fn.text l.rest; utf8 : IsUtf8 l.rest }

abbrev pub decreases-loop-ch : goal.decreases-loop-ch
decreases-loop-ch l = length l.rest
