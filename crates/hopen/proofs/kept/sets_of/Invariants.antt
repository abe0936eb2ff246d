use Rattle.hopen.proofs.Names.{◌≡◌, ◌≤◌, map, opened_by, nearest_up, NameSet}
use Rattle.hopen.proofs.kept.sets_of.Given as goal

abbrev pub invariant-loop-index : goal.invariant-loop-index
invariant-loop-index l = record
    { within : l.index ≤ l.from; rest : (set : NameSet) → nearest_up set (map opened_by l.items) l.from ≡ nearest_up set (map opened_by l.items) l.index }

abbrev pub decreases-loop-index : goal.decreases-loop-index
decreases-loop-index l = l.index
