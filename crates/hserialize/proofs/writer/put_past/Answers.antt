use Rattle.hserialize.proofs.Names.{[], refl}
use Rattle.hserialize.proofs.Output.{none_put, both_added, part_put, part_failed, passed_on, last_put, passed_over}
use Rattle.hserialize.proofs.writer.put_past.Goals as goal

pub returns-in_err-hand_over : goal.returns-in_err-hand_over
returns-in_err-hand_over g c = passed_on _ _ _ _ c.from_residual.ensures.1 (part_failed _ _ _ _ _ [] _ (none_put _ _) refl c.in_err-hand_over.ensures.put)

pub returns-then-bytes-capacity : goal.returns-then-bytes-capacity
returns-then-bytes-capacity g c = let told = c.write_all.ensures in let none = c.in_ok-hand_over.ensures.none in
    last_put _ _ _ _ _ _ _ (part_put _ _ _ _ _ [] _ (none_put _ _) refl c.in_ok-hand_over.ensures.put) refl
    (passed_over _ _ _ c.write_all.result none none refl told.count told.all told.cause told.beginning)

pub returns : goal.returns
returns g c = both_added _ _ _ [] _ c.in_ok-hand_over.ensures.put c.hold.ensures
