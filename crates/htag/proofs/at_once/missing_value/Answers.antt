use Rattle.htag.proofs.Vocabulary.{sym, subst, arith, nat_tests, IsPlainValue}
use Rattle.htag.proofs.AtOnce.{apart_is, missing_is}
use Rattle.htag.proofs.at_once.missing_value.Goals as goal

pub returns-then-first-eq47 : goal.returns-then-first-eq47
returns-then-first-eq47 c = let run = c.args.run.now in subst (IsPlainValue run) (sym c.value_of.ensures) (missing_is run (grind (arith, nat_tests)))

pub returns-then-next-ne61 : goal.returns-then-next-ne61
returns-then-next-ne61 c = let run = c.args.run.now in
    subst (IsPlainValue run) (sym c.value_of-then-next-ne61.ensures)
    (apart_is run c.if-run-gt1.true (grind (arith, nat_tests)) (grind (arith, nat_tests)) (grind (arith, nat_tests)))
