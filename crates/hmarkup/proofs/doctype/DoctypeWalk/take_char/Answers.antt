use Rattle.hmarkup.proofs.Names.{◌≡◌, ℕ, List, [], ◌∷◌, ◌++◌, sym, refl, ap, ◌∙◌, subst, Some, None, err_from_is_err_and, ParseError, Placed, DoctypeState, Step, BeginsSpans, ran_out, sink_refused, goes_on, ended, Found, IsDoctype, step, step_errors, found_by, Reading, HasReadDoctype}
use Rattle.hmarkup.proofs.Reading.{begins_past, read_more, read_whole}
use Rattle.hmarkup.proofs.doctype.DoctypeWalk.take_char.Goals as goal

-- where this step has been taken
module _ (w : Reading) (text : List Placed) (errs : List ParseError) (p : Placed) (s : Step) (is : s ≡ step w.phase p) (h : HasReadDoctype w text errs) where
  begins_so : BeginsSpans IsDoctype (text ++ p ∷ []) (errs ++ step_errors s p)
  begins_so = subst (λ (x : Step). BeginsSpans IsDoctype (text ++ p ∷ []) (errs ++ step_errors x p)) (sym is) (begins_past w text errs p h)

  more_read : (found : Found) → found ≡ found_by s p w.found → (next : DoctypeState) → s.next ≡ Some next
      → HasReadDoctype (record { phase = next; found = found }) (text ++ p ∷ []) (errs ++ step_errors s p)
  more_read found f next e = rw (f, is) (read_more w text errs p h next (ap (λ (x : Step). x.next) (sym is) ∙ e))

  whole_read : (found : Found) → found ≡ found_by s p w.found → s.next ≡ None → (end : ℕ) (rest : List Placed)
      → IsDoctype end rest (text ++ p ∷ []) found (errs ++ step_errors s p)
  whole_read found f e end rest = rw (f, is) (read_whole w text errs p h (ap (λ (x : Step). x.next) (sym is) ∙ e) end rest)

pub returns-in_err-report : goal.returns-in_err-report
returns-in_err-report g c = let e = err_from_is_err_and c.from_residual.result c.from_residual.ensures.1 in
    rw (e.1, e.2) (rw (← c.self.view_is) (λ text raised h. sink_refused _ _ refl c.in_err-report.ensures
    (begins_so _ text raised (record { ch = c.args.ch; at = c.args.at }) c.step-step.result c.step-step.ensures h)))

pub returns-in_err-take : goal.returns-in_err-take
returns-in_err-take g c = let e = err_from_is_err_and c.from_residual-in_err-take.result c.from_residual-in_err-take.ensures.1 in
    rw (e.1, e.2) (rw (← c.self.view_is) (λ text raised h.
    ran_out _ refl c.in_ok-report.ensures (begins_so _ text raised (record { ch = c.args.ch; at = c.args.at }) c.step-step.result c.step-step.ensures h)))

pub returns : goal.returns
returns g c = rw (← c.self.view_is) (λ text raised h. goes_on _ refl c.in_ok-report.ensures (more_read _ text raised (record { ch = c.args.ch; at = c.args.at })
    c.step-step.result c.step-step.ensures h _ (c.in_ok-take.ensures c.args.at) _ c.in-Some.is))

pub returns-in_default : goal.returns-in_default
returns-in_default g c = rw (← c.self.view_is) (λ text raised h. ended _ refl c.in_ok-report.ensures (whole_read _ text raised
    (record { ch = c.args.ch; at = c.args.at }) c.step-step.result c.step-step.ensures h _ (c.in_ok-take.ensures c.args.at) c.in_default.is))
