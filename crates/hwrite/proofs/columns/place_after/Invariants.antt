use Rattle.hwrite.proofs.Vocabulary.{◌≡◌, column_at, line_at}
use Rattle.hwrite.proofs.columns.place_after.Given as goal

-- the place after the bytes so far
abbrev pub invariant-loop-index : goal.invariant-loop-index
invariant-loop-index l = (l.place.0 ≡ line_at l.text l.index) × (l.place.1 ≡ column_at l.text l.index)
