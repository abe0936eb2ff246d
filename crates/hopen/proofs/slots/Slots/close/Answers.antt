use Rattle.hopen.proofs.Names.{refl, sym, ◌∙◌, false≢true, arith, common_steps}
use Rattle.hopen.proofs.Closed.{listed-closed}
use Rattle.hopen.proofs.slots.Slots.close.Goals as goal

pub invariant_of-self : goal.invariant_of-self
invariant_of-self c = record {
  listed = listed-closed c.args.from c.args.self.now refl c.requires.within c.compact.ensures (λ some. c.compact-then-is_some.ensures) c.compact-2.ensures refl
      c.take_holes.ensures;
}

pub invariant_of-self-else-is_some : goal.invariant_of-self-else-is_some
invariant_of-self-else-is_some c = record {
  listed = listed-closed c.args.from c.args.self.now refl c.requires.within c.compact.ensures
      (λ some. absurd (false≢true (sym c.if-is_some.false ∙ c.is_some.ensures ∙ some))) c.compact-2.ensures refl c.take_holes.ensures;
}

pub compact-requires-then-is_some : goal.compact-requires-then-is_some
compact-requires-then-is_some c = grind (arith, common_steps)
