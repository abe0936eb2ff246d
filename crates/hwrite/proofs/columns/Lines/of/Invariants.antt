use Rattle.hwrite.proofs.Vocabulary.{◌≡◌, ◌≤◌, ◌+◌, ◌*◌, ◌-◌, length, AreMarks, column_at, line_at}
use Rattle.hwrite.proofs.columns.Lines.of.Given as goal

-- the marks so far, the last of which is that of the place that was come to
abbrev pub invariant-loop-from : goal.invariant-loop-from
invariant-loop-from l = (l.from ≤ length l.text)
    × ((length l.marks.items * 256 ≡ l.from + 256) × ((l.place ≡ (line_at l.text l.from, column_at l.text l.from)) × AreMarks l.text l.marks.items))

abbrev pub decreases-loop-from : goal.decreases-loop-from
decreases-loop-from l = length l.text - l.from
