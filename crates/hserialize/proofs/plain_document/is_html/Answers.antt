use Rattle.hserialize.proofs.Names.{◌∙◌, ◌&&◌, None, Some, ap, body_on, children_of, codes, is_plain, leaves_then, mapped, next_of, sym, text_of, trees_from}
use Rattle.hserialize.specs.declared.content.Texts.TheVariants as texts
use Rattle.hserialize.proofs.Documents.{in-html, past}
use Rattle.hserialize.proofs.plain_document.is_html.Goals as goal

pub returns-in_default : goal.returns-in_default
returns-in_default c = sym (in-html (text_of c.args.names.now.table.now) c.args.tree.now.trees c.args.tree.now.made c.first_child.ensures.nodes.counted
    c.args.html c.first_child.result None c.requires c.first_child.ensures.child c.in_default.ensures.passed)

pub returns-then-not-is_head : goal.returns-then-not-is_head
returns-then-not-is_head c = sym (in-html (text_of c.args.names.now.table.now) c.args.tree.now.trees c.args.tree.now.made c.first_child.ensures.nodes.counted
    c.args.html c.first_child.result (Some c.in-Some.head) c.requires c.first_child.ensures.child c.in-Some.ensures.passed ∙ c.is_head.ensures _
    ∙ ap (λ u. u && leaves_then texts.WhiteSpace body_on
    (mapped (text_of c.args.names.now.table.now) (trees_from (next_of c.in-Some.head c.args.tree.now.trees) c.args.tree.now.trees))) c.if-not-is_head.true)

pub returns-in_default-past_leaves : goal.returns-in_default-past_leaves
returns-in_default-past_leaves c = let spelling = text_of c.args.names.now.table.now in let f = c.args.tree.now.trees in
    let none = past spelling f texts.WhiteSpace body_on _ c.next.result None c.next.ensures.sibling c.in_default-past_leaves.ensures.passed in
    sym (in-html spelling f c.args.tree.now.made c.first_child.ensures.nodes.counted c.args.html c.first_child.result (Some c.in-Some.head) c.requires
    c.first_child.ensures.child c.in-Some.ensures.passed ∙ c.is_head.ensures _ ∙ (λ i. c.if-not-is_head.false i && none i))

pub returns-then-is_last : goal.returns-then-is_last
returns-then-is_last c = let spelling = text_of c.args.names.now.table.now in let f = c.args.tree.now.trees in
    let body = past spelling f texts.WhiteSpace body_on _ c.next.result (Some c.in-Some-past_leaves.body) c.next.ensures.sibling
    c.in-Some-past_leaves.ensures.passed ∙ c.is_last.ensures (is_plain (codes "body"))
    ∙ ap (λ u. u && is_plain (codes "body") (mapped spelling (children_of c.in-Some-past_leaves.body f))) c.if-is_last.true in
    c.is_plain_list.ensures ∙ sym (in-html spelling f c.args.tree.now.made c.first_child.ensures.nodes.counted c.args.html c.first_child.result
    (Some c.in-Some.head) c.requires c.first_child.ensures.child c.in-Some.ensures.passed ∙ c.is_head.ensures _ ∙ (λ i. c.if-not-is_head.false i && body i))

pub returns-else-is_last : goal.returns-else-is_last
returns-else-is_last c = let spelling = text_of c.args.names.now.table.now in let f = c.args.tree.now.trees in
    let body = past spelling f texts.WhiteSpace body_on _ c.next.result (Some c.in-Some-past_leaves.body) c.next.ensures.sibling
    c.in-Some-past_leaves.ensures.passed ∙ c.is_last.ensures (is_plain (codes "body"))
    ∙ ap (λ u. u && is_plain (codes "body") (mapped spelling (children_of c.in-Some-past_leaves.body f))) c.if-is_last.false in
    c.if-is_last.false ∙ sym (in-html spelling f c.args.tree.now.made c.first_child.ensures.nodes.counted c.args.html c.first_child.result (Some c.in-Some.head)
    c.requires c.first_child.ensures.child c.in-Some.ensures.passed ∙ c.is_head.ensures _ ∙ (λ i. c.if-not-is_head.false i && body i))
