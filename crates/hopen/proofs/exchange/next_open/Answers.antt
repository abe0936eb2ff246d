use Rattle.hopen.proofs.Names.{common_steps, ◌≡◌, true, None, sym, ◌∙◌, ap, arith, cases_lt, length-map, is_hole_kind, opened_by, KeptNode}
use Rattle.hopen.proofs.Projected.{no-node, name-hole, part-at}
use Rattle.hopen.proofs.exchange.next_open.Goals as goal

pub loop-next-preserved : goal.loop-next-preserved
loop-next-preserved c = let items = c.args.items.now in let n = c.loop-next.next in let x = c.index-items-next.result in let is = c.index-items-next.is in
    let w = c.loop-next.invariant in
    let hole : is_hole_kind x.kind ≡ true = ap (λ (z : KeptNode). is_hole_kind z.kind) is ∙ sym c.is_hole.ensures ∙ c.loop-next-test.true in
    let none = part-at opened_by None items n x w.within is ∙ no-node x hole in
    grind (arith, common_steps, cases_lt, length-map, no-node, name-hole, part-at)
