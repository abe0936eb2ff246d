use Rattle.htext.proofs.Names.{◌≤◌, ◌-◌, AreBad}
use Rattle.htext.proofs.run.bad_run.Given as goal

abbrev pub invariant-loop-count : goal.invariant-loop-count
invariant-loop-count l = record { few : l.count ≤ l.most; bad : AreBad l.count l.bytes }

abbrev pub decreases-loop-count : goal.decreases-loop-count
decreases-loop-count l = l.most - l.count
