use Rattle.charref.proofs.Names.{◌≤◌, length, All, AreEnds, IsOpenKey}
use Rattle.charref.proofs.open_keys.OpenKeys.new.Given as goal

abbrev pub invariant-loop-first : goal.invariant-loop-first
invariant-loop-first l = (l.first ≤ length l.flat) × AreEnds l.flat l.first l.ends.items

abbrev pub decreases-loop-first : goal.decreases-loop-first
decreases-loop-first l = l.first

abbrev pub invariant-loop-index : goal.invariant-loop-index
invariant-loop-index l = All (IsOpenKey l.flat) l.keys.read.items
