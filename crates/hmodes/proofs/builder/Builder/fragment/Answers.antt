use Rattle.hmodes.proofs.Vocabulary.{◌∙◌, ℕ, [], Some, ap, ap₂, sym, subst, arith, State, context_mode, fragment, BuilderStands, control_in, form_of, common_steps}
use Rattle.hmodes.proofs.builder.Builder.fragment.Goals as goal

pub invariant_of-result : goal.invariant_of-result
invariant_of-result c = λ e.
    let mode = c.context_mode.ensures ∙ ap context_mode c.tag-tag.ensures in let form = c.form_pointer.ensures ∙ ap form_of c.tag-tag.ensures in
    let now : State ℕ = record { site = c.in_ok-site.site; control = c.control_in.result; context = Some c.args.context; quirks_list = [] } in
    let control = c.control_in.ensures ∙ ap₂ control_in mode form in
    subst (λ (root : ℕ). BuilderStands root now) (sym c.in_ok-site.ensures.1) (subst (BuilderStands 1)
    (λ i. record { site = sym c.in_ok-site.ensures.0 i; control = sym control i; context = Some c.args.context; quirks_list = [] })
    (record { reached = fragment c.args.context c.args.limits.tree; made = omega arith }))

pub returns : goal.returns
returns c = grind (arith, common_steps)
