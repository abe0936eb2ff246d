use Rattle.charref.proofs.Names.{◌≡◌, ◌-◌, ◌<◌, length, IsAfterKey, AreMarked}
use Rattle.charref.proofs.open_keys.open_key.Given as goal

abbrev pub invariant-loop-next : goal.invariant-loop-next
invariant-loop-next l = IsAfterKey l.flat l.search × (l.search.low < l.next) × AreMarked l.flat l.search l.next l.goes_on × (length l.goes_on ≡ 257)

abbrev pub decreases-loop-next : goal.decreases-loop-next
decreases-loop-next l = l.search.high - l.next
