use Rattle.hmodes.proofs.Vocabulary.{ℕ, sym, ◌∙◌, subst, numbers, Goes, State, state_of, Step, drops, token_of, ChainGives}
use Rattle.hmodes.proofs.Looping.{step-of}
use Rattle.hmodes.proofs.tree_construction.TreeConstruction.step.Goals as goal

pub returns-then-dropped : goal.returns-then-dropped
returns-then-dropped c = subst (λ (v : State ℕ). Step numbers c.args.at (token_of c.args.token.now) (state_of c.args.self.now) (Goes v)) (sym c.begin.ensures)
    (drops (sym c.is_dropped-dropped.ensures ∙ c.if-dropped.true))

pub returns : goal.returns
returns c = step-of c.args.at (token_of c.args.token.now) (state_of c.args.self.now) c.by_rules.result (state_of c.by_rules.new.self)
    (sym c.is_dropped-dropped.ensures ∙ c.if-dropped.false) (subst
    (λ (v : State ℕ). ChainGives c.args.at (token_of c.args.token.now) v c.by_rules.result (state_of c.by_rules.new.self)) c.begin.ensures c.by_rules.ensures)
