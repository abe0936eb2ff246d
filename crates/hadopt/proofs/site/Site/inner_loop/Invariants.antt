use Rattle.hadopt.proofs.Names.{◌<◌, ◌≤◌, ◌+◌, length, before, is_node, above, InPlace, numbers, option_map, open_of, stack, inner_loop, inner_loop_of}
use Rattle.hadopt.proofs.Ways.{OnWay, from}
use Rattle.hadopt.proofs.site.Site.inner_loop.Given as goal

abbrev pub invariant-loop-next : goal.invariant-loop-next
invariant-loop-next l = record {
  begun : 0 < l.inner.last_node;
  last_in : l.inner.last_node < l.self.nodes.made;
  few : l.passed ≤ 3;
  within : l.self.nodes.made ≤ l.fn.self.nodes.made + l.passed;
  on : OnWay l.formatting_element l.furthest_block l.at l.passed (option_map open_of l.next) (inner_loop_of l.inner l.self)
      (inner_loop numbers l.at l.furthest_block 0 (before (is_node l.formatting_element) (above l.furthest_block l.fn.self.open_nodes.stack))
      (record { last_node = l.furthest_block; bookmark = InPlace; site = l.fn.self }));
}

abbrev pub decreases-loop-next : goal.decreases-loop-next
decreases-loop-next l = length (from (option_map open_of l.next) (stack l.self))
