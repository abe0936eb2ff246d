use Rattle.hnodes.proofs.Names.{◌≡◌, ◌<◌, Some, length, IsTrue, ancestors_of, way_up, after_each, is_among}
use Rattle.hnodes.proofs.tree.Tree.next_outside.Given as goal

abbrev pub invariant-loop-top : goal.invariant-loop-top
invariant-loop-top l = record {
  made : l.above < l.self.made;
  inside : IsTrue (is_among l.top (way_up (Some l.above) l.self.trees));
  same : after_each l.top (way_up (Some l.fn.node) l.self.trees) l.self.trees ≡ after_each l.top (way_up (Some l.above) l.self.trees) l.self.trees;
}

abbrev pub decreases-loop-top : goal.decreases-loop-top
decreases-loop-top l = length (ancestors_of l.above l.self.trees)
