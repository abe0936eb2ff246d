use Rattle.std.specs.Prelude.{◌≡◌, ◌<◌, ◌≤◌, ◌+◌, length}
use Rattle.std.specs.List.{All}
use Rattle.hnodes.specs.Elements.{elements_among}
use Rattle.own_contract.specs.Page.{elements_inside}
use Rattle.own_contract.proofs.page.Page.elements.Given as goal

abbrev pub invariant-loop-node : goal.invariant-loop-node
invariant-loop-node l = record {
  within : All (λ n. n < l.self.made) l.node-iterator;
  counted : l.count + length (elements_among l.node-iterator l.self.trees) ≡ elements_inside 0 l.self.trees;
  few : l.count + length l.node-iterator ≤ l.self.made;
}
