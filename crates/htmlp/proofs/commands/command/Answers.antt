use Rattle.htmlp.proofs.Names.{◌≡◌, ◌∙◌, ap, ap₂, app_of, with_rule, with_rules, IfOk-weaker, new_app, context_rules, each_rules, file_rule}
use Rattle.htmlp.proofs.Adding.{one_more, stays_local}
use Rattle.htmlp.proofs.commands.command.Goals as goal

pub returns-clause-shape : goal.returns-clause-shape
returns-clause-shape c = let entry = c.args.entry.now in
    let chosen : app_of c.in_ok-chosen.chosen ≡ with_rules (context_rules entry.reads) (with_rule (new_app entry.name.now) file_rule) =
    c.in_ok-chosen.ensures.shape ∙ ap₂ with_rules c.choices-required.ensures c.in_ok-bare.ensures.shape in
    IfOk-weaker c.arg.result _ _ (λ new adds.
    one_more _ new _ _ _ adds c.explain.ensures.local (c.in_ok-with_choices.ensures.shape ∙ ap (with_rules each_rules) chosen) c.explain.ensures.rule)
    c.arg.ensures

pub returns-clause-local : goal.returns-clause-local
returns-clause-local c =
    IfOk-weaker c.arg.result _ _ (λ new adds. stays_local _ new _ adds c.explain.ensures.local c.in_ok-with_choices.ensures.local) c.arg.ensures
