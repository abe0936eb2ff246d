use Rattle.hopen.proofs.Names.{◌+◌, refl, sym, ◌∙◌, arith, false≢true, common_steps}
use Rattle.hopen.proofs.Moved.{listed-exchanged}
use Rattle.hopen.proofs.slots.Slots.swap.Goals as goal

pub invariant_of-self : goal.invariant_of-self
invariant_of-self c = let most = c.max-self.ensures in let within = c.args.self.now.listed.within in
    record {
      listed =
          listed-exchanged c.args.index (c.args.index + 1) c.args.self.now (omega arith) c.requires.within refl c.swap.ensures
          (λ some. c.swap-then-is_some.ensures) c.swap-2.ensures c.swap-3.ensures.items (omega arith, omega arith, omega arith, omega arith);
    }

pub invariant_of-self-else-is_some : goal.invariant_of-self-else-is_some
invariant_of-self-else-is_some c = let most = c.max-self.ensures in let within = c.args.self.now.listed.within in
    record {
      listed =
          listed-exchanged c.args.index (c.args.index + 1) c.args.self.now (omega arith) c.requires.within refl c.swap.ensures
          (λ some. absurd (false≢true (sym c.if-is_some.false ∙ c.is_some.ensures ∙ some))) c.swap-2.ensures c.swap-3.ensures.items
          (omega arith, omega arith, omega arith, omega arith);
    }

pub swap-requires-then-is_some : goal.swap-requires-then-is_some
swap-requires-then-is_some c = grind (arith, common_steps)

pub swap-requires-2 : goal.swap-requires-2
swap-requires-2 c = grind (arith, common_steps)

pub swap-requires : goal.swap-requires
swap-requires c = grind (arith, common_steps)
