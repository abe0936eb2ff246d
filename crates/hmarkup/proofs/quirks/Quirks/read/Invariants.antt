use Rattle.hmarkup.proofs.Names.{◌≡◌, ℕ, List, ◌++◌, length, IsUtf8, lines, AreQuirkLines}
use Rattle.hmarkup.proofs.quirks.Quirks.read.Given as goal

abbrev pub invariant-loop-rest : goal.invariant-loop-rest
invariant-loop-rest l = record
    { text : IsUtf8 l.rest; before : List (List ℕ); lines_are : lines l.fn.text ≡ before ++ lines l.rest; read : AreQuirkLines before l.lines.items }

abbrev pub decreases-loop-rest : goal.decreases-loop-rest
decreases-loop-rest l = length l.rest
