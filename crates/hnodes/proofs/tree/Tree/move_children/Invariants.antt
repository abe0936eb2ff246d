use Rattle.hnodes.proofs.Names.{◌≡◌, size, children_of, IsOutside, AreNodes, move_all}
use Rattle.hnodes.proofs.tree.Tree.move_children.Given as goal

abbrev pub invariant-loop-child : goal.invariant-loop-child
invariant-loop-child l = record {
  limit : l.self.limit ≡ l.initial.self.limit;
  made : l.self.made ≡ l.initial.self.made;
  outside : IsOutside l.to l.from l.self.trees;
  nodes : AreNodes l.initial.self;
  same : move_all l.from l.to l.self.trees ≡ move_all l.from l.to l.initial.self.trees;
}

abbrev pub decreases-loop-child : goal.decreases-loop-child
decreases-loop-child l = size (children_of l.from l.self.trees)
