use Rattle.hopen.proofs.Names.{refl, sym, ◌∙◌, arith, false≢true, common_steps, elements}
use Rattle.hopen.proofs.Moved.{hole-before, listed-exchanged}
use Rattle.hopen.proofs.slots.Slots.jump.Goals as goal

pub invariant_of-self : goal.invariant_of-self
invariant_of-self c = let s = c.args.self.now in let most = c.max-self.ensures in let within = s.listed.within in
    let before = hole-before s.items.items s.solid c.args.hole s.listed.solid c.requires.hole_within c.requires.hole in
    record {
      listed =
          listed-exchanged c.args.index c.args.hole s c.requires.within c.requires.hole_within refl c.move_number.ensures
          (λ some. c.move_number-then-is_some.ensures) c.move_number-2.ensures c.swap.ensures.items (omega arith, omega arith, omega arith, omega arith);
    }

pub invariant_of-self-else-is_some : goal.invariant_of-self-else-is_some
invariant_of-self-else-is_some c = let s = c.args.self.now in let most = c.max-self.ensures in let within = s.listed.within in
    let before = hole-before s.items.items s.solid c.args.hole s.listed.solid c.requires.hole_within c.requires.hole in
    record {
      listed =
          listed-exchanged c.args.index c.args.hole s c.requires.within c.requires.hole_within refl c.move_number.ensures
          (λ some. absurd (false≢true (sym c.if-is_some.false ∙ c.is_some.ensures ∙ some))) c.move_number-2.ensures c.swap.ensures.items
          (omega arith, omega arith, omega arith, omega arith);
    }

pub move_number-requires-then-is_some-clause-number : goal.move_number-requires-then-is_some-clause-number
move_number-requires-then-is_some-clause-number c = grind (arith, common_steps)

pub move_number-requires-then-is_some-clause-within : goal.move_number-requires-then-is_some-clause-within
move_number-requires-then-is_some-clause-within c = grind (arith, common_steps)

pub move_number-requires-then-is_some-clause-to : goal.move_number-requires-then-is_some-clause-to
move_number-requires-then-is_some-clause-to c = grind (arith, common_steps)

pub move_number-requires-then-is_some-clause-free : goal.move_number-requires-then-is_some-clause-free
move_number-requires-then-is_some-clause-free c = grind (arith, common_steps)

pub move_number-requires-2-clause-within : goal.move_number-requires-2-clause-within
move_number-requires-2-clause-within c = grind (arith, common_steps)

pub move_number-requires-2-clause-to : goal.move_number-requires-2-clause-to
move_number-requires-2-clause-to c = grind (arith, common_steps)

pub move_number-requires-clause-within : goal.move_number-requires-clause-within
move_number-requires-clause-within c = grind (arith, common_steps)

pub move_number-requires-clause-to : goal.move_number-requires-clause-to
move_number-requires-clause-to c = grind (arith, common_steps)

pub move_number-requires-clause-free : goal.move_number-requires-clause-free
move_number-requires-clause-free c = grind (arith, common_steps)

pub move_number-requires-2-clause-free : goal.move_number-requires-2-clause-free
move_number-requires-2-clause-free c = grind (arith, elements)
