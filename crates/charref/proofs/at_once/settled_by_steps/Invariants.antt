use Rattle.charref.proofs.Names.{◌-◌, length, HasWalked}
use Rattle.charref.proofs.at_once.settled_by_steps.Given as goal

abbrev pub invariant-loop-count : goal.invariant-loop-count
invariant-loop-count l = HasWalked l.walk l.table l.bytes l.count

abbrev pub decreases-loop-count : goal.decreases-loop-count
decreases-loop-count l = length l.bytes - l.count
