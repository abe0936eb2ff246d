use Rattle.charref.proofs.Names.{◌-◌, length, HasSign}
use Rattle.charref.proofs.WholeNumbers.{HasDigits}
use Rattle.charref.proofs.at_once.whole_number.Given as goal

abbrev pub invariant-loop-count : goal.invariant-loop-count
invariant-loop-count l = HasSign l.base l.bytes l.start × HasDigits l.base l.bytes l.start l.count l.value

abbrev pub decreases-loop-count : goal.decreases-loop-count
decreases-loop-count l = length l.bytes - l.count
