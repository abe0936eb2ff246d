use Rattle.hnodes.proofs.Names.{sym, ◌∙◌}
use Rattle.hnodes.proofs.Outside.{moves, none-left, moved-outside}
use Rattle.hnodes.proofs.tree.Tree.move_children.Goals as goal

pub append-requires-clause-not_document : goal.append-requires-clause-not_document
append-requires-clause-not_document c =
    (moves c.loop-child.self c.args.from c.args.to c.in-Some.child c.in-Some.ensures.nodes (rw c.loop-child.invariant.made c.requires.from_in)
    (rw c.loop-child.invariant.made c.requires.to_in) c.loop-child.invariant.outside (sym c.in-Some.ensures.child)).not_document

pub append-requires-clause-not_inside : goal.append-requires-clause-not_inside
append-requires-clause-not_inside c =
    (moves c.loop-child.self c.args.from c.args.to c.in-Some.child c.in-Some.ensures.nodes (rw c.loop-child.invariant.made c.requires.from_in)
    (rw c.loop-child.invariant.made c.requires.to_in) c.loop-child.invariant.outside (sym c.in-Some.ensures.child)).apart

pub loop-child-smaller : goal.loop-child-smaller
loop-child-smaller c = rw c.append.ensures
    (moves c.loop-child.self c.args.from c.args.to c.in-Some.child c.in-Some.ensures.nodes (rw c.loop-child.invariant.made c.requires.from_in)
    (rw c.loop-child.invariant.made c.requires.to_in) c.loop-child.invariant.outside (sym c.in-Some.ensures.child)).fewer

pub loop-child-preserved : goal.loop-child-preserved
loop-child-preserved c =
    let m = moves c.loop-child.self c.args.from c.args.to c.in-Some.child c.in-Some.ensures.nodes (rw c.loop-child.invariant.made c.requires.from_in)
    (rw c.loop-child.invariant.made c.requires.to_in) c.loop-child.invariant.outside (sym c.in-Some.ensures.child) in
    rw c.append.ensures (record {
      limit = c.loop-child.invariant.limit;
      made = c.loop-child.invariant.made;
      nodes = c.loop-child.invariant.nodes;
      outside = m.outside;
      same = m.same ∙ c.loop-child.invariant.same;
    })

pub returns-clause-moved : goal.returns-clause-moved
returns-clause-moved c =
    let trees = sym (none-left c.loop-child.self c.args.from c.args.to c.in_default.ensures.nodes (rw c.loop-child.invariant.made c.requires.from_in)
    (sym c.in_default.ensures.child)) ∙ c.loop-child.invariant.same in
    λ i. record { limit = c.loop-child.invariant.limit i; made = c.loop-child.invariant.made i; trees = trees i }

pub returns-clause-outside : goal.returns-clause-outside
returns-clause-outside c out = rw (returns-clause-moved c) (moved-outside c.args.self.now.made c.args.self.now.trees c.loop-child.invariant.nodes.counted
    c.args.from c.args.to c.requires.from_in c.requires.to_in c.requires.not_inside out)
