use Rattle.hmodes.proofs.Vocabulary.{texts}
use Rattle.hmodes.proofs.Between.{texts-all, reached-orderly}
use Rattle.hmodes.proofs.Ends.{some-step}
use Rattle.hmodes.proofs.Single.{step-one}
use Rattle.hmodes.proofs.laws.one_step.Goals as goal

pub returns : goal.returns
returns c = λ at t s r.
    let some = some-step texts texts-all.img at t s (reached-orderly texts texts-all s r).sound in
    (some.0, (some.1, λ other one. step-one texts at t s other some.0 one some.1))
