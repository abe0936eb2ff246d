use Rattle.hnodes.proofs.Names.{◌≡◌, ◌∷◌, subst, rules, IsText, StoredAttr, All-rest, AreLent, arith, common_steps}
use Rattle.hnodes.proofs.attrs_view.AttrsIterator.next.Goals as goal

pub invariant_of-self : goal.invariant_of-self
invariant_of-self c = let front : c.in-Stored.attrs.now ≡ c.in_ok-attr-in-Stored.attr.now ∷ c.in_ok-attr-in-Stored.rest.now = search rules in
    record {
      each = All-rest (λ (a : StoredAttr). IsText a.value c.in-Stored.texts.now) _ c.in_ok-attr-in-Stored.rest.now c.in-Stored.attrs.now front
          (subst AreLent c.in-Stored.is c.self.invariant).each;
    }

pub returns-in_err-attr-in-Listed-clause-steps : goal.returns-in_err-attr-in-Listed-clause-steps
returns-in_err-attr-in-Listed-clause-steps c = grind (arith, common_steps)

pub get-requires : goal.get-requires
get-requires c = grind arith
