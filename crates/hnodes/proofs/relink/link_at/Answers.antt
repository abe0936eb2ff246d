use Rattle.hnodes.proofs.Names.{common_steps}
use Rattle.hnodes.proofs.IndexNames.{add-one, arith}
use Rattle.hnodes.proofs.Relinked.{walk-before, walk-next, down-within, down-less, down-walk}
use Rattle.hnodes.proofs.relink.link_at.Goals as goal

pub bounds-links-before : goal.bounds-links-before
bounds-links-before c = omega (arith, down-within c.requires.are_indexed.indexed _ c.loop-before.invariant)

pub loop-before-smaller : goal.loop-before-smaller
loop-before-smaller c = down-less c.requires.are_indexed.indexed _ c.loop-before.invariant (omega arith)

pub loop-before-preserved : goal.loop-before-preserved
loop-before-preserved c = down-walk c.requires.are_indexed.indexed _ c.loop-before.invariant (omega arith)

pub returns-clause-fit : goal.returns-clause-fit
returns-clause-fit c =
    record { before = rw (add-one c.args.index) (walk-before c.loop-before.invariant (omega arith)); next = walk-next c.loop-before.invariant (omega arith) }

pub loop-before-init : goal.loop-before-init
loop-before-init c = grind (arith, common_steps)
