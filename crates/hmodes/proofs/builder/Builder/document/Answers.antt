use Rattle.hmodes.proofs.Vocabulary.{◌≡◌, ◌∙◌, ℕ, None, ap, sym, subst, arith, Limits, State, document_begins, BuilderStands, common_steps}
use Rattle.hmodes.specs.Reached.{document}
use Rattle.hmodes.proofs.builder.Builder.document.Goals as goal

pub invariant_of-result : goal.invariant_of-result
invariant_of-result c = λ e.
    let limits : ◌≡◌ {A = Limits} (record { nodes = c.nodes.result; depth = c.depth.result }) c.args.limits.tree = λ j. record
    { nodes = c.nodes.ensures.value j; depth = c.depth.ensures.value j } in
    let site = c.in_ok-site.ensures.site ∙ ap (λ (l : Limits). let s : State ℕ = document_begins c.args.quirks.now l in s.site) limits in
    let now : State ℕ = record { site = c.in_ok-site.site; control = c.control_in.result; context = None; quirks_list = c.args.quirks.now } in
    subst (λ (root : ℕ). BuilderStands root now) (sym c.document-root.ensures.number)
    (subst (BuilderStands 0) (λ i. record { site = sym site i; control = sym c.control_in.ensures i; context = None; quirks_list = c.args.quirks.now })
    (record { reached = document c.args.quirks.now c.args.limits.tree; made = omega arith }))

pub returns : goal.returns
returns c = grind (arith, common_steps)
