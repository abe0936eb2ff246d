use Rattle.hmodes.proofs.Vocabulary.{◌≡◌, ◌∙◌, ℕ, false, true, ap, sym, TreeInTable, numbers, SiteOf, with_error, character_in_body, perform, with_foster, with_site, character, State, Flow, Done, flow_map, state_of, arith, elements}
use Rattle.hmodes.proofs.tree_construction.TreeConstruction.put_in_table.Goals as goal

pub returns : goal.returns
returns c = let erred = c.in_ok-error.ensures.done in
    let x : with_site (with_error TreeInTable c.args.at c.args.self.now.site) (state_of c.args.self.now) ≡ state_of c.error.new.self = cc in
    let one = ap (λ (w : State ℕ). perform numbers c.args.at (character c.args.ch) character_in_body (with_foster true w)) x in
    let two = ap (λ (t : SiteOf ℕ). perform numbers c.args.at (character c.args.ch) character_in_body (with_site t (state_of c.error.new.self)))
    (sym c.set_foster.ensures.site) in
    let three = ap (λ (t : SiteOf ℕ). Done (with_site t (state_of c.put_in_body.new.self))) (sym c.set_foster-2.ensures.site) in
    ap (λ (f : Flow ℕ). flow_map (with_foster false) f) (one ∙ two ∙ c.in_ok-put_in_body.ensures) ∙ three

pub returns-in_err-put_in_body : goal.returns-in_err-put_in_body
returns-in_err-put_in_body c = grind (arith, elements)
