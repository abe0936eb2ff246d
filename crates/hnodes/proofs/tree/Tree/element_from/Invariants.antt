use Rattle.hnodes.proofs.Names.{◌≡◌, ◌<◌, length, IfSome, elements_among, siblings_from}
use Rattle.hnodes.proofs.tree.Tree.element_from.Given as goal

abbrev pub invariant-loop-next : goal.invariant-loop-next
invariant-loop-next l = record {
  within : IfSome l.next (λ n. n < l.self.made);
  same : elements_among (siblings_from l.fn.first l.self.trees) l.self.trees ≡ elements_among (siblings_from l.next l.self.trees) l.self.trees;
}

abbrev pub decreases-loop-next : goal.decreases-loop-next
decreases-loop-next l = length (siblings_from l.next l.self.trees)
