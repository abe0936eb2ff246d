use Rattle.hnodes.proofs.Names.{arith, common_steps}
use Rattle.hnodes.proofs.Relinked.{hint-next}
use Rattle.hnodes.proofs.relink.above.Goals as goal

pub returns-then-next-index : goal.returns-then-next-index
returns-then-next-index c =
    hint-next c.requires.are_indexed.indexed c.args.index _ c.if-hint-gt0.true c.if-hint-links.true c.if-next.true c.if-next-index.true

pub returns : goal.returns
returns c = grind (arith, common_steps)
