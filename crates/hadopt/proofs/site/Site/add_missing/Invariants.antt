use Rattle.hadopt.proofs.Names.{◌≡◌, ◌<◌, map, ℕ, attribute_of, with_missing, AreMade, numbers, SiteOf, trees, with_trees, into_iter_items, Inside}
use Rattle.hadopt.proofs.site.Site.add_missing.Given as goal

-- the value of a site
abbrev site_of : Inside → SiteOf ℕ
site_of s = record { nodes = s.tree; open_nodes = s.stack; items = s.list; foster = s.foster; errors = s.errors.items; again = s.again.items }

abbrev pub invariant-loop-attr : goal.invariant-loop-attr
invariant-loop-attr l = record {
  node_in : l.node < l.self-inside.tree.made;
  made : AreMade l.self-inside.tree.made l.self-inside.stack.stack;
  same : with_trees (with_missing numbers l.node (map attribute_of l.fn.attrs.items) (trees l.fn.self)) l.fn.self
      ≡ with_trees (with_missing numbers l.node (map attribute_of (into_iter_items l.attr-iterator)) l.self-inside.tree.trees) (site_of l.self-inside);
}
