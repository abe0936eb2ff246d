use Rattle.html_c.proofs.Names.{◌≡◌, Some, ap, rules, subst, sym, AllowsContext, context_told}
use Rattle.html_c.specs.Given.{context_refused}
use Rattle.html_c.specs.declared.fault.CallFault.TheVariants as fault
use Rattle.html_c.proofs.Outcomes.{fails}
use Rattle.html_c.proofs.answer.Given.context.Goals as goal

pub returns-in_err-check_context : goal.returns-in_err-check_context
returns-in_err-check_context c = let (is, refuses) = c.in_err-check_context.ensures in
    let told : Some c.in_ok-name.name.now ≡ context_told c.args.self.now.context.now = search rules in
    fails _ _ _ _ c.from_residual-in_err-check_context.ensures.1
    (context_refused (λ allows. refuses (subst AllowsContext (sym told) allows)) (ap fault.Refused is))
