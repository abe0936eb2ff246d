use borrow.Author.Tests.{tests}
use Rattle.hmodes.proofs.Vocabulary.{◌≡◌, ◌⊎◌, Memory, Refused, performed_for, subst, when, ℕ, Some, ap, ◌∙◌, sym, nat_eq, option_map, find_entry, without_entry, TreeInBody, SiteOf, with_items, with_error, with_site, State, Done, state_of, end, Do, ◌▸◌, name_is_listed, error, adopt_listed, InBody, rules, arith, common_steps}
use Rattle.hmodes.proofs.Flowing.{goes-on, refused-as, err-state, listed-refused, listed-done}
use Rattle.hmodes.proofs.Ways.{when-so, when-not}
use Rattle.hmodes.proofs.tree_construction.TreeConstruction.close_listed.Goals as goal

abbrev closes : Do
closes = error InBody ▸ adopt_listed

pub returns-in_default : goal.returns-in_default
returns-in_default c = subst (λ (m : ℕ). performed_for m c.args.at (when name_is_listed closes) (state_of c.args.self.now) ≡ Done (state_of c.args.self.now))
    c.token_name-name.ensures (when-not c.args.at (end c.token_name-name.result) name_is_listed closes (state_of c.args.self.now) (search (tests, rules)))

pub returns-in_err-adopt : goal.returns-in_err-adopt
returns-in_err-adopt c = let s' = state_of c.error.new.self in
    err-state c.from_residual-in_err-adopt.result c.in_err-adopt.field-0.0 _ _ c.from_residual-in_err-adopt.ensures.1
    (subst (λ (m : ℕ). (c.in_err-adopt.field-0.0 ≡ Memory)
    ⊎ (performed_for m c.args.at (when name_is_listed closes) (state_of c.args.self.now) ≡ Refused c.in_err-adopt.field-0.0)) c.token_name-name.ensures
    (refused-as _ _ _ (when-so c.args.at (end c.token_name-name.result) name_is_listed closes (state_of c.args.self.now) (search (tests, rules))
    ∙ goes-on c.args.at (end c.token_name-name.result) (error InBody) adopt_listed (state_of c.args.self.now) s' c.in_ok-error.ensures.done)
    (listed-refused c.args.at c.token_name-name.result s' c.in_err-adopt.field-0.0 c.in_err-adopt.ensures.done)))

pub returns : goal.returns
returns c = let s : State ℕ = state_of c.args.self.now in let s' : State ℕ = state_of c.error.new.self in let erred = c.in_ok-error.ensures.done in
    let same : with_site (with_error TreeInBody c.args.at s.site) s ≡ s' = cc in
    subst (λ (m : ℕ). performed_for m c.args.at (when name_is_listed closes) s ≡ Done (with_site c.remove_entry.new.self s')) c.token_name-name.ensures
    (when-so c.args.at (end c.token_name-name.result) name_is_listed closes s (search (tests, rules))
    ∙ goes-on c.args.at (end c.token_name-name.result) (error InBody) adopt_listed s s' erred
    ∙ listed-done c.args.at c.token_name-name.result s' c.adopt.new.self (Some c.in-Some.node) c.in_ok-adopt.ensures.done
    (sym c.in-Some.is ∙ c.find.ensures ∙ ap (λ (u : State ℕ). option_map (λ e. e.node) (find_entry nat_eq c.token_name-name.result u.site.items)) same)
    ∙ ap (λ (x : SiteOf ℕ). Done (with_site x s'))
    (sym (c.remove_entry.ensures.site ∙ ap (λ (x : SiteOf ℕ). with_items (without_entry c.in-Some.node x.items) x) c.leave.ensures.site)))

pub adopt-requires : goal.adopt-requires
adopt-requires c = grind (arith, common_steps)
