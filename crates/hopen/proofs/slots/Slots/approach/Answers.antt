use Rattle.hopen.proofs.Names.{common_steps, ap, arith, length}
use Rattle.hopen.proofs.Holes.{placed-within}
use Rattle.hopen.proofs.Moved.{jumped-rest}
use Rattle.hopen.proofs.slots.Slots.approach.Goals as goal

pub last_hole-requires-clause-ordinal : goal.last_hole-requires-clause-ordinal
last_hole-requires-clause-ordinal c = let within = placed-within c.args.self.now c.node_number.ensures c.last-ordinal.ensures in
    omega (arith, within, ap length c.deref.ensures.value)

pub returns-clause-rest : goal.returns-clause-rest
returns-clause-rest c = grind (arith, common_steps, jumped-rest)
