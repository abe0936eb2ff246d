use borrow.Author.Tests.{tests}
use Rattle.hmodes.proofs.Vocabulary.{◌≡◌, ◌⊎◌, Memory, Done, Refused, performed_for, when, ℕ, ap, ◌∙◌, Default, Err, subst, sym, numbers, adopted, reconstructed, StateGives, State, Flow, flow_of, with_site, perform, state_of, end, Do, ◌▸◌, has_in, error, adopt, reconstruct, InBody, rules, Nobr, arith, common_steps}
use Rattle.hmodes.proofs.Flowing.{on-site, goes-on, refused-then, refused-as, err-state}
use Rattle.hmodes.proofs.Ways.{when-so, when-not}
use Rattle.hmodes.proofs.tree_construction.TreeConstruction.close_nobr.Goals as goal

abbrev closes : Do
closes = error InBody ▸ adopt ▸ reconstruct

pub returns-then-not-in_scope : goal.returns-then-not-in_scope
returns-then-not-in_scope c =
    subst (λ (m : ℕ). performed_for m c.args.at (when (has_in Default Nobr) closes) (state_of c.args.self.now) ≡ Done (state_of c.args.self.now))
    c.token_name-name.ensures
    (when-not c.args.at (end c.token_name-name.result) (has_in Default Nobr) closes (state_of c.args.self.now) (search (tests, rules)))

pub returns-in_err-adopt : goal.returns-in_err-adopt
returns-in_err-adopt c = let e = c.in_err-adopt.field-0.0 in let s' = state_of c.error.new.self in
    err-state c.from_residual-in_err-adopt.result e _ _ c.from_residual-in_err-adopt.ensures.1 (subst
    (λ (m : ℕ). (e ≡ Memory) ⊎ (performed_for m c.args.at (when (has_in Default Nobr) closes) (state_of c.args.self.now) ≡ Refused e)) c.token_name-name.ensures
    (refused-as e _ _ (when-so c.args.at (end c.token_name-name.result) (has_in Default Nobr) closes (state_of c.args.self.now) (search (tests, rules))
    ∙ goes-on c.args.at (end c.token_name-name.result) (error InBody) (adopt ▸ reconstruct) (state_of c.args.self.now) s' c.in_ok-error.ensures.done)
    (refused-then e _ (perform numbers c.args.at (end c.token_name-name.result) reconstruct)
    (on-site {A = Unit {0}} (Err e) c.adopt.new.self s' (adopted numbers c.args.at c.token_name-name.result s'.site) c.in_err-adopt.ensures.done))))

pub returns : goal.returns
returns c = let s' = state_of c.error.new.self in let s'' : State ℕ = with_site c.adopt.new.self s' in
    subst (λ (m : ℕ). StateGives c.reconstruct.result (with_site c.reconstruct.new.self s'')
    (performed_for m c.args.at (when (has_in Default Nobr) closes) (state_of c.args.self.now))) c.token_name-name.ensures
    (subst (λ (x : Flow ℕ). StateGives c.reconstruct.result (with_site c.reconstruct.new.self s'') x)
    (sym (when-so c.args.at (end c.token_name-name.result) (has_in Default Nobr) closes (state_of c.args.self.now) (search (tests, rules))
    ∙ goes-on c.args.at (end c.token_name-name.result) (error InBody) (adopt ▸ reconstruct) (state_of c.args.self.now) s' c.in_ok-error.ensures.done
    ∙ goes-on c.args.at (end c.token_name-name.result) adopt reconstruct s' s'' (ap (flow_of s') c.in_ok-adopt.ensures.done)))
    (on-site c.reconstruct.result c.reconstruct.new.self s'' (reconstructed numbers c.args.at s''.site) c.reconstruct.ensures.done))

pub adopt-requires : goal.adopt-requires
adopt-requires c = grind (arith, common_steps)
