use Rattle.htag.proofs.Vocabulary.{ℕ, List, ◌-◌, length, take, drop, sym, ap, ◌∙◌, subst, arith, length-drop, take_all, eqb-true, ends_name, IsPlainValue}
use Rattle.htag.proofs.AtOnce.{quoted_is}
use Rattle.htag.proofs.at_once.quoted_value.Goals as goal

pub returns-then-ends_name : goal.returns-then-ends_name
returns-then-ends_name c = let run = c.args.run.now in let rest : List ℕ = take (length run - 2) (drop 2 run) in
    subst (IsPlainValue run) (sym c.value_of.ensures) (quoted_is run rest c.value_end-value.result _
    (take_all (length run - 2) (drop 2 run) (omega (arith, length-drop 2 run))) c.requires.long c.requires.equals c.requires.quote
    c.value_end-value.ensures.counted c.if-value-rest.true (ap ends_name (sym c.from.ensures) ∙ sym c.ends_name.ensures ∙ c.if-ends_name.true)
    (λ e. sym (eqb-true c.quoted_run-plain.result c.value_end-value.result e) ∙ c.quoted_run-plain.ensures.counted))
