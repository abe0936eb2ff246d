use Rattle.htag.proofs.Vocabulary.{refl, arith, nat_tests}
use Rattle.htag.proofs.Values.{keeps_tag, bare_ends, name_goes_on, space_follows, equals_follows}
use Rattle.htag.proofs.walk.TagWalk.in_attribute_name.Goals as goal

pub returns-then-is_ascii_whitespace-clause-takes : goal.returns-then-is_ascii_whitespace-clause-takes
returns-then-is_ascii_whitespace-clause-takes c =
    λ table names body h. space_follows h (keeps_tag refl refl refl refl refl) refl refl refl c.args.spaced c.requires refl (grind (arith, nat_tests))

pub returns-then-next-eq61-clause-takes : goal.returns-then-next-eq61-clause-takes
returns-then-next-eq61-clause-takes c =
    λ table names body h. equals_follows h (keeps_tag refl refl refl refl refl) refl refl refl c.args.spaced c.requires refl c.if-next-eq61.true

pub returns-then-spaced-clause-takes : goal.returns-then-spaced-clause-takes
returns-then-spaced-clause-takes c = λ table names body h after walk later ends.
    bare_ends h c.args.spaced c.requires ends (grind (arith, nat_tests)) (grind (arith, nat_tests)) (grind (arith, nat_tests))

pub returns-clause-takes : goal.returns-clause-takes
returns-clause-takes c = λ table names body h. name_goes_on h (rw c.if-spaced.false at c.requires) c.in_ok-push_name.ensures (grind (arith, nat_tests))
