use Rattle.hserialize.proofs.Names.{◌∙◌, ◌&&◌, ap, is_metadata_at, list_all, sym, text_of, true, false, ℕ}
use Rattle.hserialize.proofs.Documents.{head-is}
use Rattle.hserialize.proofs.KnownNames.{tags-agree}
use Rattle.hserialize.proofs.plain_document.is_head.Goals as goal

pub returns-then-not-is_metadata_node : goal.returns-then-not-is_metadata_node
returns-then-not-is_metadata_node c = let names = c.args.names.now.table.now in let f = c.args.tree.now.trees in
    let are_plain = list_all (λ (n : ℕ). is_metadata_at (text_of names) n f) in
    head-is (text_of names) f c.args.tree.now.made c.are_nodes.ensures.nodes.counted (tags-agree names c.are_names.ensures.names) c.args.head false c.requires
    (sym c.is_named.ensures ∙ c.if-not-is_named.false) (sym c.loop-node.invariant ∙ ap are_plain c.in-Some.ensures.steps
    ∙ ap (λ u. u && are_plain c.next.new.self) (sym c.is_metadata_node.ensures ∙ c.if-not-is_metadata_node.true))

pub returns : goal.returns
returns c = let names = c.args.names.now.table.now in let f = c.args.tree.now.trees in
    head-is (text_of names) f c.args.tree.now.made c.are_nodes.ensures.nodes.counted (tags-agree names c.are_names.ensures.names) c.args.head true c.requires
    (sym c.is_named.ensures ∙ c.if-not-is_named.false)
    (sym c.loop-node.invariant ∙ ap (list_all (λ n. is_metadata_at (text_of names) n f)) c.in-None.ensures.steps.0)
