use Rattle.htoken.proofs.Names.{◌≡◌, ◌∙◌, sym, ap, arith, length, drop, drop_at, cut_last, rules}
use Rattle.htoken.proofs.Fronts.{next_last}
use Rattle.htoken.proofs.clean_run.Run.end.Goals as goal

pub returns-in-Some : goal.returns-in-Some
returns-in-Some c = λ before.
    let step = c.in-Some.ensures.steps in let is = sym c.char_indices.ensures.rest ∙ step.1.0 in
    let here : c.in-Some.index ≡ length c.next_back.new.self.rest.now = omega (arith, step.1.1, c.char_indices.ensures.offset) in
    c.after.ensures ∙ next_last before c.args.self.now.at c.in-Some.index c.args.self.now.text.now c.in-Some.field-0-1 (cut_last _ _ _ _ (search rules) is here)
    (ap (drop c.in-Some.index) is ∙ drop_at _ _ c.in-Some.index (sym here))
