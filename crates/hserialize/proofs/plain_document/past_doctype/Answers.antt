use Rattle.hserialize.proofs.Names.{◌∙◌, refl}
use Rattle.hserialize.proofs.Documents.{doctype-step}
use Rattle.hserialize.proofs.Following.{first-of}
use Rattle.hserialize.proofs.plain_document.past_doctype.Goals as goal

pub returns-in-Some-clause-passed : goal.returns-in-Some-clause-passed
returns-in-Some-clause-passed c spelling = let f = c.args.tree.now.trees in let node = c.in-Some.node in
    doctype-step spelling f _ node (first-of c.args.tree.now.made f c.are_nodes.ensures.nodes.counted _ node c.in-Some.is c.requires) _ c.in-Some.is
    c.is_plain_doctype.ensures
    ∙ rw (c.if-is_plain_doctype.true, c.next.ensures.sibling) refl
