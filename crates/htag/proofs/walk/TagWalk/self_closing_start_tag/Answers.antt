use Rattle.htag.proofs.Vocabulary.{refl, arith, nat_tests}
use Rattle.htag.proofs.Values.{keeps_tag, closing_ends, solidus_ends}
use Rattle.htag.proofs.walk.TagWalk.self_closing_start_tag.Goals as goal

pub returns-then-next-eq62-clause-takes : goal.returns-then-next-eq62-clause-takes
returns-then-next-eq62-clause-takes c = λ table names body h. closing_ends h c.requires (keeps_tag refl refl refl refl refl) refl c.if-next-eq62.true

pub returns-clause-takes : goal.returns-clause-takes
returns-clause-takes c = λ table names body h. c.before_attribute_name.ensures.takes table names body
    (solidus_ends h c.requires (keeps_tag refl refl refl refl refl) refl c.in_ok-keep_if.ensures (grind (arith, nat_tests)))
