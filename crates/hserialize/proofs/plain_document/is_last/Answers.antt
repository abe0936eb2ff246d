use Rattle.hserialize.proofs.Names.{◌∙◌, ◌&&◌, children_of, mapped, sym, text_of, refl}
use Rattle.hserialize.proofs.Documents.{last-is}
use Rattle.hserialize.proofs.plain_document.is_last.Goals as goal

pub returns-then-is_none : goal.returns-then-is_none
returns-then-is_none c children = let spelling = text_of c.args.names.now.table.now in let f = c.args.tree.now.trees in
    last-is spelling f c.args.tree.now.made c.next.ensures.nodes.counted c.args.expected.now children c.args.node c.next.result c.past_leaves-after.result
    c.is_none.result c.requires c.next.ensures.sibling c.past_leaves-after.ensures.passed c.past_leaves-after.ensures.within c.is_none.ensures
    ∙ (λ k. (c.if-is_none.true k && sym c.is_named.ensures k) && children (mapped spelling (children_of c.args.node f)))

pub returns-else-is_none : goal.returns-else-is_none
returns-else-is_none c children = let spelling = text_of c.args.names.now.table.now in let f = c.args.tree.now.trees in
    last-is spelling f c.args.tree.now.made c.next.ensures.nodes.counted c.args.expected.now children c.args.node c.next.result c.past_leaves-after.result
    c.is_none.result c.requires c.next.ensures.sibling c.past_leaves-after.ensures.passed c.past_leaves-after.ensures.within c.is_none.ensures
    ∙ rw c.if-is_none.false refl
