use Rattle.hmarkup.proofs.Names.{◌≡◌, ℕ, List, [], ◌∷◌, ◌++◌, sym, refl, ◌∙◌, transport, Some, None, ParseError, Placed, DoctypeState, Found, IsDoctype, force, fault_errors, end_fault, found_at_end, Reading, HasReadDoctype}
use Rattle.hmarkup.specs.declared.doctype_state.DoctypeState.TheVariants as phase
use Rattle.hmarkup.proofs.Handing.{hand_one}
use Rattle.hmarkup.proofs.Reading.{read_to_end}
use Rattle.hmarkup.proofs.doctype.DoctypeWalk.end.Goals as goal

forced_at : (phase : DoctypeState) (end : ℕ) (fault : ParseError) → end_fault phase end ≡ Some fault → (known : Found) → found_at_end phase known ≡ force known
forced_at phase.Skipped end fault e known = absurd cc
forced_at _ end fault e known = refl

as_it_was : (phase : DoctypeState) (end : ℕ) → end_fault phase end ≡ None → (known : Found) → found_at_end phase known ≡ known
as_it_was phase.Skipped end e known = refl
as_it_was _ end e known = absurd cc

module _ (w : Reading) (text : List Placed) (errs : List ParseError) (h : HasReadDoctype w text errs) (end : ℕ) where
  faulty_end : (fault : ParseError) (found : Found) → end_fault w.phase end ≡ Some fault → found ≡ force w.found
      → IsDoctype end [] text found (errs ++ fault ∷ [])
  faulty_end fault found e f =
      transport (λ t. IsDoctype end [] text ((forced_at w.phase end fault e w.found ∙ sym f) t) (errs ++ fault_errors (e t))) (read_to_end w text errs end h)

  plain_end : end_fault w.phase end ≡ None → IsDoctype end [] text w.found (errs ++ [])
  plain_end e = transport (λ t. IsDoctype end [] text (as_it_was w.phase end e w.found t) (errs ++ fault_errors (e t))) (read_to_end w text errs end h)

pub returns : goal.returns
returns g c = rw (← c.self.view_is) (λ text raised h. record {
  reported = c.in-Some.fault ∷ [];
  handed = hand_one g.S.ErrorSink.gives _ _ _ _ c.take_error.ensures;
  is_span = faulty_end _ text raised h c.args.end _ _ (sym c.end_fault.ensures ∙ c.in-Some.is) c.force.ensures;
})

pub returns-in_default : goal.returns-in_default
returns-in_default g c = rw (← c.self.view_is) (λ text raised h.
    record { reported = []; handed = (refl, refl); is_span = plain_end _ text raised h c.args.end (sym c.end_fault.ensures ∙ c.in_default.is) })
