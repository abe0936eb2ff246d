use Rattle.hmodes.proofs.Vocabulary.{ℕ, State, subst, numbers, adopted, with_site, flow_of, StateGives, state_of, token_of}
use Rattle.hmodes.proofs.Flowing.{on-site}
use Rattle.hmodes.proofs.tree_construction.TreeConstruction.adopt.Goals as goal

pub returns : goal.returns
returns c = let s : State ℕ = state_of c.args.self.now in
    c.done.ensures (token_of c.args.token.now) _ _
    (subst (λ (m : ℕ). StateGives c.adopt.result (with_site c.adopt.new.self s) (flow_of s (adopted numbers c.args.at m s.site))) c.token_name.ensures
    (on-site c.adopt.result c.adopt.new.self s (adopted numbers c.args.at c.token_name.result s.site) c.adopt.ensures.done))
