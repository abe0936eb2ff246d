-- What is gone from the bytes was taken, and no call has failed yet.
use Rattle.hserialize.proofs.Names.{◌≡◌, ℕ, List, ◌++◌, length, Appends}
use Rattle.hserialize.proofs.target.write_all.Given as goal

abbrev pub invariant-loop-rest : goal.invariant-loop-rest
invariant-loop-rest g l = (done : List ℕ) × (l.bytes ≡ done ++ l.rest) × Appends (g.W.Target.written l.initial.target) (g.W.Target.written l.target) done
    × (g.W.Target.failed l.target ≡ g.W.Target.failed l.initial.target)

abbrev pub decreases-loop-rest : goal.decreases-loop-rest
decreases-loop-rest g l = length l.rest
