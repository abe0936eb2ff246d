use Rattle.hwrite.proofs.Vocabulary.{◌≡◌, List, ℕ, column_at, line_at, IndexHasRead}
use Rattle.hwrite.proofs.line_index.LineIndex.place_after.Given as goal

-- the place after the bytes so far
abbrev pub invariant-loop-index : goal.invariant-loop-index
invariant-loop-index l = (bytes : List ℕ) → IndexHasRead l.self bytes → l.initial.place.0 ≡ line_at bytes l.from → l.initial.place.1 ≡ column_at bytes l.from
    → (l.place.0 ≡ line_at bytes l.index) × (l.place.1 ≡ column_at bytes l.index)
