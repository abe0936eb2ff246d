use Rattle.htag.proofs.Vocabulary.{refl, arith, nat_tests}
use Rattle.htag.proofs.Values.{keeps_tag, space_step, tag_ends, solidus_follows, attribute_begins}
use Rattle.htag.proofs.walk.TagWalk.before_attribute_name.Goals as goal

pub returns-then-next-eq62-clause-takes : goal.returns-then-next-eq62-clause-takes
returns-then-next-eq62-clause-takes c = λ table names body h. tag_ends h c.requires (keeps_tag refl refl refl refl refl) refl c.if-next-eq62.true

pub returns-then-is_ascii_whitespace-clause-takes : goal.returns-then-is_ascii_whitespace-clause-takes
returns-then-is_ascii_whitespace-clause-takes c = λ table names body h. space_step h c.requires (grind (arith, nat_tests))

pub returns-then-next-eq47-clause-takes : goal.returns-then-next-eq47-clause-takes
returns-then-next-eq47-clause-takes c = λ table names body h. solidus_follows h c.requires (keeps_tag refl refl refl refl refl) refl c.if-next-eq47.true

pub returns-clause-takes : goal.returns-clause-takes
returns-clause-takes c = λ table names body h. attribute_begins h c.requires c.in_ok-begin_attribute.ensures (grind (arith, nat_tests))
