use Rattle.hserialize.proofs.Names.{◌∙◌, ◌&&◌, None, Some, ap, are_in_html, children_of, mapped, sym, text_of}
use Rattle.hserialize.proofs.Documents.{document-is}
use Rattle.hserialize.proofs.plain_document.is_plain_document.Goals as goal

pub returns-in_default : goal.returns-in_default
returns-in_default c = sym (document-is (text_of c.args.names.now) c.args.tree.now.trees c.args.tree.now.made c.first_child.ensures.nodes.counted c.args.root
    c.first_child.result c.past_leaves-first.result c.past_doctype.result None c.requires c.first_child.ensures.child c.past_leaves-first.ensures.passed
    c.past_doctype.ensures.passed c.in_default.ensures.passed)

pub returns-then-is_last : goal.returns-then-is_last
returns-then-is_last c = let spelling = text_of c.of-names.result.table.now in let html = mapped spelling (children_of c.in-Some.html c.args.tree.now.trees) in
    rw (sym c.of-names.ensures) (c.is_html.ensures
    ∙ sym (document-is spelling c.args.tree.now.trees c.args.tree.now.made c.first_child.ensures.nodes.counted c.args.root c.first_child.result
    c.past_leaves-first.result c.past_doctype.result (Some c.in-Some.html) c.requires c.first_child.ensures.child c.past_leaves-first.ensures.passed
    c.past_doctype.ensures.passed c.in-Some.ensures.passed ∙ c.is_last.ensures are_in_html ∙ ap (λ u. u && are_in_html html) c.if-is_last.true))

pub returns-else-is_last : goal.returns-else-is_last
returns-else-is_last c = let spelling = text_of c.of-names.result.table.now in let html = mapped spelling (children_of c.in-Some.html c.args.tree.now.trees) in
    rw (sym c.of-names.ensures) (c.if-is_last.false
    ∙ sym (document-is spelling c.args.tree.now.trees c.args.tree.now.made c.first_child.ensures.nodes.counted c.args.root c.first_child.result
    c.past_leaves-first.result c.past_doctype.result (Some c.in-Some.html) c.requires c.first_child.ensures.child c.past_leaves-first.ensures.passed
    c.past_doctype.ensures.passed c.in-Some.ensures.passed ∙ c.is_last.ensures are_in_html ∙ ap (λ u. u && are_in_html html) c.if-is_last.false))
