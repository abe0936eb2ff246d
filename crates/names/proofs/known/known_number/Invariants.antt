use Rattle.names.proofs.KnownTexts.{Passed}
use Rattle.names.proofs.known.known_number.Given as goal

abbrev pub invariant-loop-index : goal.invariant-loop-index
invariant-loop-index l = Passed l.letter l.index l.text
