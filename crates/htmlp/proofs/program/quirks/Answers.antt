use Rattle.htmlp.proofs.Names.{Option, None, Err, List, ℕ, refl, subst, sym, option_map, Bor, FindsQuirks, ReadsQuirks, []}
use Rattle.htmlp.specs.declared.fault.Fault.TheVariants as fault
use Rattle.htmlp.proofs.Outcomes.{fails}
use Rattle.htmlp.proofs.Lists.{list_read, list_refused, no_line_is_bad}
use Rattle.htmlp.proofs.program.quirks.Goals as goal

pub returns-in_err-read-in-None : goal.returns-in_err-read-in-None
returns-in_err-read-in-None g c = let e = c.in_err-read-in-None.field-0.0 in
    fails _ _ _ _ c.from_residual.ensures.1
    (subst
    (λ (name : Option (Bor (List ℕ))). FindsQuirks g.R.Surroundings.world c.args.surroundings.now (option_map (λ s. s.now) name) (Err (fault.Refused e None)))
    (sym c.in-None.is) (no_line_is_bad e c.in_err-read-in-None.ensures, refl))

pub returns-in-Ok : goal.returns-in-Ok
returns-in-Ok g c =
    list_read g.R.Surroundings.world [] ReadsQuirks c.args.surroundings.now c.in-Some.is c.deref.ensures c.in_ok-text-in-Some.ensures.text _ c.in-Ok.ensures

pub returns : goal.returns
returns g c =
    list_refused g.R.Surroundings.world [] ReadsQuirks c.args.surroundings.now c.in-Some.is c.deref.ensures c.in_ok-text-in-Some.ensures.text _ c.in-Err.ensures
