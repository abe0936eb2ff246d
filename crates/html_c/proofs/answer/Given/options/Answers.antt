use Rattle.html_c.proofs.Names.{ap, rules, Bounds}
use Rattle.html_c.proofs.answer.Given.options.Goals as goal

pub returns-clause-told : goal.returns-clause-told
returns-clause-told c = let (settings, has) = c.requires.settings in let lists = c.requires.lists in let input = ap (λ (b : Bounds). b.input) lists.limits in
    let limits = ap (λ (b : Bounds). b.tree) lists.limits in
    search rules
