use Rattle.html_c.proofs.Names.{Ok, Err, refl, subst, ReadsQuirks, no_quirks, no_table, quirks_refused}
use Rattle.html_c.proofs.Outcomes.{fails}
use Rattle.html_c.proofs.answer.Given.lists.Goals as goal

pub returns-in_err-table : goal.returns-in_err-table
returns-in_err-table c = fails _ _ _ _ c.from_residual-in_err-table.ensures.1 (no_table c.in_err-table.ensures)

pub returns-in_err-text_of : goal.returns-in_err-text_of
returns-in_err-text_of c = let (none, is) = c.in_err-text_of.ensures in fails _ _ _ _ c.from_residual-in_err-text_of.ensures.1 (no_quirks none is)

pub returns-in_err-quirks : goal.returns-in_err-quirks
returns-in_err-quirks c = fails _ _ _ _ c.from_residual-in_err-quirks.ensures.1
    (quirks_refused _ (subst (λ t. ReadsQuirks t (Err c.in_err-quirks.field-0.0)) c.in_ok-text_of.ensures c.in_err-quirks.ensures) refl)

pub returns : goal.returns
returns c = record {
  table = c.in_ok-table.ensures;
  quirks = subst (λ t. ReadsQuirks t (Ok c.in_ok-quirks.quirks)) c.in_ok-text_of.ensures c.in_ok-quirks.ensures;
  bad_bytes = c.in_ok-bad_bytes.ensures;
  limits = c.in_ok-limits.ensures.1;
  in_range = c.in_ok-limits.ensures.0;
}
