use Rattle.hserialize.proofs.Names.{refl}
use Rattle.hserialize.proofs.Output.{not_handed, passed_on}
use Rattle.hserialize.proofs.writer.Writer.hand_over.Goals as goal

pub returns-in_err-write_all-clause-put : goal.returns-in_err-write_all-clause-put
returns-in_err-write_all-clause-put g c = let told = c.in_err-write_all.ensures in
    passed_on _ _ _ _ c.from_residual.ensures.1 (not_handed _ _ _ c.deref.ensures.value refl told.cause told.beginning told.count)
