use Rattle.charref.proofs.Names.{[], ◌∷◌, ◌++◌, characters, Name, IsHeldReference, arith, common_steps}
use Rattle.charref.proofs.Numbers.{held_name, own, by_own}
use Rattle.charref.proofs.Telling.{held_longer}
use Rattle.charref.proofs.walk.Walk.take.Goals as goal

pub returns-clause-taken : goal.returns-clause-taken
returns-clause-taken c = λ table in_value text p taken is.
    let walk = c.args.self.now in
    let parts = held_name walk.table.now walk.in_value c.in-Name.search text (own walk table in_value text (Name c.in-Name.search) taken c.in-Name.is) in
    record {
      table_is = taken.table_is;
      in_value_is = taken.in_value_is;
      held = by_own walk table in_value text taken (λ t b. IsHeldReference t b (Name c.in-Some.next) (text ++ p ∷ []))
          (held_longer walk.table.now walk.in_value c.in-Some.next text p c.args.ch c.goes_on.ensures.table is
          (c.in-Some.ensures.read (characters text) parts.0) (λ bytes now. c.goes_on.ensures.open bytes now c.if-goes_on.true));
    }

pub returns-in-Goes-clause-taken : goal.returns-in-Goes-clause-taken
returns-in-Goes-clause-taken c = grind (arith, common_steps)
