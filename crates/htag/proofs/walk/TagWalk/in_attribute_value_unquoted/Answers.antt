use Rattle.htag.proofs.Vocabulary.{◌≡◌, true, not, and_both, refl, arith, nat_tests, ends_unquoted}
use Rattle.htag.proofs.Keeping.{unquoted_goes_on}
use Rattle.htag.proofs.Values.{keeps_tag, unquoted_ends}
use Rattle.htag.proofs.walk.TagWalk.in_attribute_value_unquoted.Goals as goal

pub returns-then-next-eq62-clause-takes : goal.returns-then-next-eq62-clause-takes
returns-then-next-eq62-clause-takes c = λ names body h after walk later ends.
    unquoted_ends h (keeps_tag refl refl refl refl refl) refl refl c.in_ok-end.ensures c.requires (grind (arith, nat_tests)) ends

pub returns-clause-takes : goal.returns-clause-takes
returns-clause-takes c = λ names body h.
    let stays : not (ends_unquoted c.args.next.ch) ≡ true = grind (arith, nat_tests) in let v = c.in_ok-take.ensures in
    unquoted_goes_on h v.more (keeps_tag refl refl refl refl refl) refl refl refl v.later_is c.requires v.takes (and_both _ true stays refl)
