use Rattle.hmodes.proofs.Vocabulary.{subst, sym, ◌∙◌, Result, Refusal, state_of, token_of, StepGives}
use Rattle.hmodes.proofs.Looping.{stands-after}
use Rattle.hmodes.proofs.TextRun.{ok-of}
use Rattle.hmodes.proofs.builder.Builder.take.Goals as goal

pub invariant_of-self : goal.invariant_of-self
invariant_of-self c = λ none. stands-after c.self.inside.root c.args.at (token_of c.args.token.now) (state_of c.self.inside.state)
    (state_of c.step-answer.new.self) (c.self.invariant c.in_ok-again.ensures) (subst
    (λ (r : Result (Unit {0}) Refusal). StepGives c.args.at (token_of c.args.token.now) (state_of c.self.inside.state) r (state_of c.step-answer.new.self))
    (ok-of c.step-answer.result (sym c.keep.ensures ∙ none)) c.step-answer.ensures)
