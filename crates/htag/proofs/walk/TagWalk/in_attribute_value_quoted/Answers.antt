use Rattle.htag.proofs.Vocabulary.{◌≡◌, true, false, not, eqb, ap, refl, and_both, arith, nat_tests}
use Rattle.htag.proofs.Keeping.{quoted_goes_on}
use Rattle.htag.proofs.Values.{keeps_tag, quote_closes}
use Rattle.htag.proofs.walk.TagWalk.in_attribute_value_quoted.Goals as goal

pub returns-then-next-mark-clause-takes : goal.returns-then-next-mark-clause-takes
returns-then-next-mark-clause-takes c =
    λ names body h. quote_closes h (keeps_tag refl refl refl refl refl) refl refl c.in_ok-end.ensures c.requires refl c.if-next-mark.true

pub returns-clause-takes : goal.returns-clause-takes
returns-clause-takes c = λ names body h.
    let other : eqb c.args.next.ch c.args.mark ≡ false = grind (arith, nat_tests) in let v = c.in_ok-take.ensures in
    quoted_goes_on h v.more (keeps_tag refl refl refl refl refl) refl refl refl v.later_is c.requires v.takes (and_both _ true (ap not other) refl)
