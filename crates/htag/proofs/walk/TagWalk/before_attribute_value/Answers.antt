use Rattle.htag.proofs.Vocabulary.{refl, arith, nat_tests}
use Rattle.htag.proofs.Values.{keeps_tag, space_after_equals, quote_follows, no_value_ends, unquoted_begins}
use Rattle.htag.proofs.walk.TagWalk.before_attribute_value.Goals as goal

pub returns-then-is_ascii_whitespace-clause-takes : goal.returns-then-is_ascii_whitespace-clause-takes
returns-then-is_ascii_whitespace-clause-takes c =
    λ names body h. space_after_equals h (keeps_tag refl refl refl refl refl) refl refl refl c.requires c.requires (grind (arith, nat_tests))

pub returns-then-next-eq34-clause-takes : goal.returns-then-next-eq34-clause-takes
returns-then-next-eq34-clause-takes c =
    λ names body h. quote_follows h (keeps_tag refl refl refl refl refl) refl refl refl c.requires refl (grind (arith, nat_tests))

pub returns-then-next-eq62-clause-takes : goal.returns-then-next-eq62-clause-takes
returns-then-next-eq62-clause-takes c = λ names body h after walk later ends. no_value_ends h c.requires c.in_ok-keep_if.ensures (grind (arith, nat_tests)) ends

pub returns-clause-takes : goal.returns-clause-takes
returns-clause-takes c = λ names body h.
    unquoted_begins h (keeps_tag refl refl refl refl refl) refl refl c.in_ok-take.ensures c.requires refl (grind (arith, nat_tests)) (grind (arith, nat_tests))
