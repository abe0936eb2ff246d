use Rattle.hserialize.proofs.Names.{◌≡◌, children_of, is_metadata_at, list_all, roots, text_of}
use Rattle.hserialize.proofs.plain_document.is_head.Given as goal

abbrev pub invariant-loop-node : goal.invariant-loop-node
invariant-loop-node l = list_all (λ n. is_metadata_at (text_of l.names.table.now) n l.tree.trees) l.node-iterator
    ≡ list_all (λ n. is_metadata_at (text_of l.names.table.now) n l.tree.trees) (roots (children_of l.fn.head l.tree.trees))
