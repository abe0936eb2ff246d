use Rattle.charref.proofs.Names.{◌≡◌, ◌-◌, ◌≤◌, ◌<◌, length, slice_get, Some, Entry}
use Rattle.charref.proofs.Searching.{AllBegin}
use Rattle.charref.proofs.open_keys.end_of.Given as goal

abbrev pub invariant-loop-end : goal.invariant-loop-end
invariant-loop-end l = (l.index < l.end) × (l.end ≤ length l.flat) × ((e : Entry) → slice_get l.flat l.index ≡ Some e → AllBegin l.flat e.key l.index l.end)

abbrev pub decreases-loop-end : goal.decreases-loop-end
decreases-loop-end l = length l.flat - l.end
