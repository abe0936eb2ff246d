use Rattle.hnodes.proofs.Names.{◌≡◌, ◌<◌, ◌++◌, string_bytes, flat_map, All, children_of, forest_texts}
use Rattle.hnodes.proofs.Siblings.{text_at}
use Rattle.hnodes.proofs.tree.Tree.text_content.Given as goal

abbrev pub invariant-loop-node : goal.invariant-loop-node
invariant-loop-node l = record {
  within : All (λ n. n < l.self.made) l.node-iterator;
  same : string_bytes l.all ++ flat_map (text_at l.self.trees) l.node-iterator ≡ forest_texts (children_of l.fn.at l.self.trees);
}
