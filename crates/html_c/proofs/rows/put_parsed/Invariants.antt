use Rattle.html_c.proofs.Names.{◌≡◌, ◌++◌, PutsAt, children_of, flat_map, order}
use Rattle.html_c.proofs.Listing.{node_bytes, node_row}
use Rattle.html_c.proofs.rows.put_parsed.Given as goal

abbrev pub invariant-loop-node : goal.invariant-loop-node
invariant-loop-node l = let f = l.parsed.tree.trees in
    record {
      rows : PutsAt 0 (flat_map (node_row f) l.yielded) l.initial.rows l.rows l.row_end;
      words : PutsAt 0 (flat_map (node_bytes l.parsed.names f) l.yielded) l.initial.words l.words l.word_end;
      nodes : l.yielded ++ l.node-iterator ≡ order (children_of l.parsed.root f);
    }
