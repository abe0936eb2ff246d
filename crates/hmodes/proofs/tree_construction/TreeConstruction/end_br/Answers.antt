use Rattle.hmodes.proofs.Vocabulary.{◌≡◌, ℕ, [], sym, subst, ap, ◌∙◌, numbers, SiteOf, flow_of, with_site, on_site, inserted_here, State, Done, state_of, ◌▸◌, error, reconstruct, insert_named, pop, InBody, Br, arith}
use Rattle.hmodes.proofs.Flowing.{goes-on}
use Rattle.hmodes.proofs.tree_construction.TreeConstruction.end_br.Goals as goal

pub returns : goal.returns
returns c = λ t.
    let s = state_of c.error.new.self in let s' : State ℕ = with_site c.reconstruct.new.self s in let s'' : State ℕ = state_of c.insert_named.new.self in
    goes-on c.args.at t (error InBody) (reconstruct ▸ insert_named Br ▸ pop) (state_of c.args.self.now) s c.in_ok-error.ensures.done
    ∙ goes-on c.args.at t reconstruct (insert_named Br ▸ pop) s s' (ap (flow_of s) c.in_ok-reconstruct.ensures.done) ∙ goes-on c.args.at t (insert_named Br) pop
    s' s'' (subst (λ (m : ℕ). on_site (inserted_here numbers c.args.at m []) s' ≡ Done s'') c.number.ensures.number c.in_ok-insert_named.ensures.done)
    ∙ ap (λ (x : SiteOf ℕ). Done (with_site x s'')) (sym c.pop.ensures.site)

pub returns-in_err-insert_named : goal.returns-in_err-insert_named
returns-in_err-insert_named c = grind arith
