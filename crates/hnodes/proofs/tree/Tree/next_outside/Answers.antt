use Rattle.hnodes.proofs.Names.{◌∙◌, sym}
use Rattle.hnodes.proofs.TreeOrder.{differ, passes, climbs, shorter, still-inside}
use Rattle.hnodes.proofs.tree.Tree.next_outside.Goals as goal

pub returns-in-Some-clause-next : goal.returns-in-Some-clause-next
returns-in-Some-clause-next c = let other = differ c.loop-top.above c.args.top c.loop-top-test.ensures in
    c.loop-top.invariant.same ∙ (passes c.next.ensures.nodes.counted c.args.top c.loop-top.above c.in-Some.next c.loop-top.invariant.made
    (sym c.next.ensures.sibling ∙ c.in-Some.is) other c.loop-top.invariant.inside).0

pub returns-in-Some-clause-inside : goal.returns-in-Some-clause-inside
returns-in-Some-clause-inside c = let other = differ c.loop-top.above c.args.top c.loop-top-test.ensures in
    (passes c.next.ensures.nodes.counted c.args.top c.loop-top.above c.in-Some.next c.loop-top.invariant.made (sym c.next.ensures.sibling ∙ c.in-Some.is)
    other c.loop-top.invariant.inside).1

pub loop-top-smaller : goal.loop-top-smaller
loop-top-smaller c = shorter c.next.ensures.nodes.counted c.args.top c.loop-top.above c.in-Some-parent.parent c.loop-top.invariant.made
    (sym c.parent.ensures.parent ∙ c.in-Some-parent.is)

pub loop-top-preserved : goal.loop-top-preserved
loop-top-preserved c = let other = differ c.loop-top.above c.args.top c.loop-top-test.ensures in
    let up = sym c.parent.ensures.parent ∙ c.in-Some-parent.is in
    let inside = still-inside c.next.ensures.nodes.counted c.args.top c.loop-top.above c.loop-top.invariant.made other c.loop-top.invariant.inside in
    let on = climbs c.next.ensures.nodes.counted c.args.top c.loop-top.above c.loop-top.invariant.made (sym c.next.ensures.sibling ∙ c.in_default.is) other in
    record { made = c.in-Some-parent.ensures.within; inside = rw up at inside; same = c.loop-top.invariant.same ∙ (rw up at on) }

pub returns-in-None-clause-next : goal.returns-in-None-clause-next
returns-in-None-clause-next c = let other = differ c.loop-top.above c.args.top c.loop-top-test.ensures in
    let on = climbs c.next.ensures.nodes.counted c.args.top c.loop-top.above c.loop-top.invariant.made (sym c.next.ensures.sibling ∙ c.in_default.is) other in
    c.loop-top.invariant.same ∙ (rw (sym c.parent.ensures.parent ∙ c.in-None.is) at on)
