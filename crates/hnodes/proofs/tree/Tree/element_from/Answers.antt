use Rattle.hnodes.proofs.Names.{◌≡◌, ◌∙◌, ap, sym, arith, false, length, elements_among, is_element, siblings_from}
use Rattle.std.specs.Prelude.{is_some}
use Rattle.hnodes.proofs.Siblings.{element-or, siblings-on}
use Rattle.hnodes.proofs.tree.Tree.element_from.Goals as goal

pub loop-next-smaller : goal.loop-next-smaller
loop-next-smaller c = let step = siblings-on c.next-next.ensures.nodes.counted c.in-Some.is c.loop-next.invariant.within c.next-next.ensures.sibling in
    omega (arith, ap length step)

pub loop-next-preserved : goal.loop-next-preserved
loop-next-preserved c = let f = c.args.self.now.trees in
    let step = siblings-on c.next-next.ensures.nodes.counted c.in-Some.is c.loop-next.invariant.within c.next-next.ensures.sibling in
    let other : is_element f c.in-Some.node ≡ false = ap is_some (sym c.name.ensures) ∙ sym c.is_some.ensures ∙ c.if-is_some.false in
    let on = element-or f c.in-Some.node (siblings_from c.next-next.result f) other in
    record { within = c.next-next.ensures.within; same = c.loop-next.invariant.same ∙ ap (λ ns. elements_among ns f) step ∙ on }
