use Rattle.hserialize.proofs.Names.{◌∙◌, refl}
use Rattle.hserialize.proofs.Documents.{past-step}
use Rattle.hserialize.proofs.Following.{first-of, shorter}
use Rattle.hserialize.proofs.plain_document.past_leaves.Goals as goal

pub returns-then-not-is_leaf-clause-passed : goal.returns-then-not-is_leaf-clause-passed
returns-then-not-is_leaf-clause-passed c spelling = let f = c.args.tree.now.trees in let node = c.in-Some.node in
    let a = first-of c.args.tree.now.made f c.are_nodes.ensures.nodes.counted _ node c.in-Some.is c.loop-next.invariant.within in
    c.loop-next.invariant.same spelling ∙ past-step spelling f c.args.allowed _ node a _ c.in-Some.is c.is_leaf.ensures
    ∙ rw c.if-not-is_leaf.true refl

pub loop-next-smaller : goal.loop-next-smaller
loop-next-smaller c = shorter c.args.tree.now.made c.args.tree.now.trees c.are_nodes.ensures.nodes.counted c.loop-next.next c.in-Some.node c.next-next.result
    c.in-Some.is c.loop-next.invariant.within c.next-next.ensures.sibling

pub loop-next-preserved : goal.loop-next-preserved
loop-next-preserved c = let f = c.args.tree.now.trees in let node = c.in-Some.node in
    let a = first-of c.args.tree.now.made f c.are_nodes.ensures.nodes.counted _ node c.in-Some.is c.loop-next.invariant.within in
    record {
      within = c.next-next.ensures.within;
      same = λ spelling. c.loop-next.invariant.same spelling ∙ past-step spelling f c.args.allowed _ node a _ c.in-Some.is c.is_leaf.ensures
          ∙ rw (c.if-not-is_leaf.false, c.next-next.ensures.sibling) refl;
    }
