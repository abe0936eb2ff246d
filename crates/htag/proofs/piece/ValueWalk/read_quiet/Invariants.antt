use Rattle.htag.proofs.Vocabulary.{◌-◌, [], length, string_bytes, IsQuietFront}
use Rattle.htag.proofs.piece.ValueWalk.read_quiet.Given as goal

-- This many bytes have been read.
abbrev pub invariant-loop-count : goal.invariant-loop-count
invariant-loop-count l = IsQuietFront l.table l.run l.count [] (string_bytes l.self.text)

abbrev pub decreases-loop-count : goal.decreases-loop-count
decreases-loop-count l = length l.run - l.count
