use Rattle.hnodes.proofs.Names.{◌≡◌, ◌<◌, Some, length, ancestors_of, is_among, way_up}
use Rattle.hnodes.proofs.tree.Tree.is_inside.Given as goal

abbrev pub invariant-loop-top : goal.invariant-loop-top
invariant-loop-top l = record
    { within : l.above < l.self.made; same : is_among l.top (way_up (Some l.above) l.self.trees) ≡ is_among l.top (way_up (Some l.fn.node) l.self.trees) }

abbrev pub decreases-loop-top : goal.decreases-loop-top
decreases-loop-top l = length (ancestors_of l.above l.self.trees)
