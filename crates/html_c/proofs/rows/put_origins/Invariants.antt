use Rattle.html_c.proofs.Names.{◌≡◌, ◌++◌, PutsAt, children_of, map, order, origin_at}
use Rattle.html_c.proofs.rows.put_origins.Given as goal

abbrev pub invariant-loop-node : goal.invariant-loop-node
invariant-loop-node l = record {
  rows : PutsAt 0 (map (origin_at l.list.items) l.yielded) l.initial.room l.room l.at;
  nodes : l.yielded ++ l.node-iterator ≡ order (children_of l.parsed.root l.parsed.tree.trees);
}
