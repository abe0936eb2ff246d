use Rattle.hnodes.proofs.IndexNames.{◌-◌, ◌<◌, ◌≤◌, ℕ, List, length, get_or, sym, ◌∙◌, arith, get_or_default, Link}
use Rattle.hnodes.proofs.IndexSteps.{nothing, IsAt, walk-here, walk-le, walk-on, walk-not}
use Rattle.hnodes.proofs.indexed_list.find_down.Goals as goal

-- the link at an ordinal
at_ordinal : (links : List Link) (ordinal : ℕ) → 0 < ordinal → ordinal ≤ length links → IsAt links ordinal (get_or links (ordinal - 1) nothing)
at_ordinal links ordinal some within = record
    { some = some; within = within; is = get_or_default links (ordinal - 1) nothing (get_or links (ordinal - 1) nothing) (omega arith) }

pub loop-ordinal-smaller : goal.loop-ordinal-smaller
loop-ordinal-smaller c = omega
    (arith, walk-le c.requires.number c.loop-ordinal.invariant.walks (at_ordinal c.args.links.now c.loop-ordinal.ordinal (omega arith) (omega arith)))

pub loop-ordinal-preserved : goal.loop-ordinal-preserved
loop-ordinal-preserved c = let at = at_ordinal c.args.links.now c.loop-ordinal.ordinal (omega arith) (omega arith) in
    record {
      within = omega (arith, walk-le c.requires.number c.loop-ordinal.invariant.walks at, at.within);
      walks = walk-on c.requires.number c.loop-ordinal.invariant.walks at;
      same = c.loop-ordinal.invariant.same ∙ walk-not c.requires.number c.loop-ordinal.invariant.walks at c.if-link-number.false;
    }

pub returns-then-link-number : goal.returns-then-link-number
returns-then-link-number c = let at = at_ordinal c.args.links.now c.loop-ordinal.ordinal (omega arith) (omega arith) in
    sym (c.loop-ordinal.invariant.same ∙ walk-here c.requires.number c.loop-ordinal.invariant.walks at c.if-link-number.true)
