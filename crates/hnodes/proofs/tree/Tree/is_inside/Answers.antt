use Rattle.hnodes.proofs.Names.{◌≡◌, refl, sym, ◌∙◌, arith, eqb, true}
use Rattle.hnodes.proofs.TreeOrder.{differ, on-way, shorter, way-outside}
use Rattle.hnodes.proofs.tree.Tree.is_inside.Goals as goal

pub loop-top-smaller : goal.loop-top-smaller
loop-top-smaller c = shorter c.are_nodes.ensures.nodes.counted c.args.top c.loop-top.above c.in-Some.parent c.loop-top.invariant.within
    (sym c.parent.ensures.parent ∙ c.in-Some.is)

pub loop-top-preserved : goal.loop-top-preserved
loop-top-preserved c = let other = differ c.loop-top.above c.args.top c.loop-top-test.ensures in
    let step = on-way c.are_nodes.ensures.nodes.counted c.args.top c.loop-top.above c.loop-top.invariant.within other in
    record { within = c.in-Some.ensures.within; same = sym (rw (sym c.parent.ensures.parent ∙ c.in-Some.is) at step) ∙ c.loop-top.invariant.same }

pub returns-in-None : goal.returns-in-None
returns-in-None c = let other = differ c.loop-top.above c.args.top c.loop-top-test.ensures in
    let step = on-way c.are_nodes.ensures.nodes.counted c.args.top c.loop-top.above c.loop-top.invariant.within other in
    way-outside c.are_nodes.ensures.nodes.counted c.args.top c.args.node c.requires.node_in c.requires.top_in _
    (sym c.loop-top.invariant.same ∙ (rw (sym c.parent.ensures.parent ∙ c.in-None.is) at step))

pub returns : goal.returns
returns c = let here : eqb c.loop-top.above c.args.top ≡ true = grind arith in
    way-outside c.are_nodes.ensures.nodes.counted c.args.top c.args.node c.requires.node_in c.requires.top_in _
    (sym c.loop-top.invariant.same ∙ rw here refl)
