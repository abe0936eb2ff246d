-- What a walk has read of a doctype, at one more character, at a run and at the end.
use Rattle.hmarkup.proofs.Names.{◌≡◌, ℕ, false, List, [], ◌∷◌, ◌++◌, sym, refl, ap, ◌∙◌, subst, transport, Option, Some, None, append_assoc, append-nil, append_cancel_left, ParseError, Placed, DoctypeState, Step, BeginsMarkup, BeginsSpans, IsOpenMarkup, IsOneSpan, Found, IsDoctype, step, step_errors, found_by, fault_errors, end_fault, found_at_end, Reading, DoctypeGoesOn, FitsState, HasReadDoctype, nothing, ◌+◌, ◌<◌, true, eqb, length, arith, encode_utf8, encode_utf8_all, list_all, IsUtf8, chars, and_parts, false≢true, nat_tests, to_ascii_lowercase, is_space, is_greater, placed, Identifier, len_utf8, list_all-append, encode_ascii, encodes-chars, len_utf8_bounds, length-encode, with_run, is_data}
use Rattle.hmarkup.proofs.Endings.{Goes}
use Rattle.hmarkup.proofs.Quoting.{from_phase, to_phase, FitsNext, fits_next, end_of, ends_in}
use Rattle.hmarkup.proofs.Characters.{quote_is}
use Rattle.hmarkup.proofs.Parts.{named_not, named-twice, identified_not, identified-twice}
use Rattle.hmarkup.specs.declared.doctype_state.DoctypeState.TheVariants as phase

-- the start
pub read_nothing : HasReadDoctype (record { phase = phase.BeforeName false; found = nothing }) [] []
read_nothing = record {
  fits = tt;
  goes_on = λ end rest more found later h. h;
  no_other = λ end after rest span found all h e. record
      { begins = record { more = span; later = all; span_is = refl; after_is = sym e; all_are = refl }; goes_on = h };
}

-- a doctype begins with the text and goes on there
record Past (text : List Placed) (errors : List ParseError) (next : Option DoctypeState) (known : Found) (end : ℕ) (after rest span : List Placed)
    (found : Found) (all : List ParseError) : Type 0 where
  begins : BeginsMarkup text after rest span errors all
  goes : Goes next known end rest begins.more found begins.later

module _ (w : Reading) (text : List Placed) (errs : List ParseError) (p : Placed) (h : HasReadDoctype w text errs) where
  abbrev its : Step
  its = step w.phase p

  abbrev now : List ParseError
  now = errs ++ step_errors its p

  on_from : (end : ℕ) (rest more : List Placed) (found : Found) (later : List ParseError) → Goes its.next (found_by its p w.found) end rest more found later
      → IsDoctype end rest ((text ++ p ∷ []) ++ more) found (now ++ later)
  on_from end rest more found later g = rw (append_assoc text (p ∷ []) more, append_assoc errs (step_errors its p) later)
      (h.goes_on end rest (p ∷ more) found (step_errors its p ++ later) (to_phase w.found end rest p more found w.phase later h.fits g))

  past_of : (end : ℕ) (after rest span : List Placed) (found : Found) (all : List ParseError) (more : List Placed) (later : List ParseError)
      → span ≡ text ++ more → p ∷ after ≡ more ++ rest → all ≡ errs ++ later → DoctypeGoesOn w.phase w.found end rest more found later
      → Past (text ++ p ∷ []) now its.next (found_by its p w.found) end after rest span found all
  past_of end after rest span found all [] later s a e g = let none : rest ≡ [] = (end_of w.phase w.found end rest found later h.fits g).0 in absurd cc
  past_of end after rest span found all (q ∷ qs) later s a e g = let head : q ≡ p = cc in let tail : after ≡ qs ++ rest = cc in
      let k = from_phase w.found end rest p qs found w.phase later h.fits (subst (λ x. DoctypeGoesOn w.phase w.found end rest (x ∷ qs) found later) head g) in
      record {
        begins = record {
          more = qs;
          later = k.later;
          span_is = s ∙ ap (λ (x : Placed). text ++ (x ∷ qs)) head ∙ sym (append_assoc text (p ∷ []) qs);
          after_is = tail;
          all_are = e ∙ ap (λ (x : List ParseError). errs ++ x) k.errors_are ∙ sym (append_assoc errs (step_errors its p) k.later);
        };
        goes = k.goes;
      }

  past : (end : ℕ) (after rest span : List Placed) (found : Found) (all : List ParseError) → IsDoctype end rest span found all
      → span ++ rest ≡ (text ++ p ∷ []) ++ after → Past (text ++ p ∷ []) now its.next (found_by its p w.found) end after rest span found all
  past end after rest span found all d e = let g = h.no_other end (p ∷ after) rest span found all d (e ∙ append_assoc text (p ∷ []) after) in
      past_of end after rest span found all g.begins.more g.begins.later g.begins.span_is g.begins.after_is g.begins.all_are g.goes_on

  -- the doctype goes on, or has ended
  pub read_more : (next : DoctypeState) → its.next ≡ Some next → HasReadDoctype (record { phase = next; found = found_by its p w.found }) (text ++ p ∷ []) now
  read_more next is = record {
    fits = subst (λ (x : Option DoctypeState). FitsNext x (found_by its p w.found)) is (fits_next w.found p w.phase h.fits);
    goes_on = λ end rest more found later g. on_from end rest more found later (rw is g);
    no_other = λ end after rest span found all d e.
        let k = past end after rest span found all d e in
        record { begins = k.begins; goes_on = subst (λ x. Goes x (found_by its p w.found) end rest k.begins.more found k.begins.later) is k.goes };
  }

  pub read_whole : its.next ≡ None → (end : ℕ) (rest : List Placed) → IsDoctype end rest (text ++ p ∷ []) (found_by its p w.found) now
  read_whole is end rest = transport (λ i. IsDoctype end rest (append-nil (text ++ p ∷ []) i) (found_by its p w.found) (append-nil now i)) (on_from end rest []
      (found_by its p w.found) [] (subst (λ x. Goes x (found_by its p w.found) end rest [] (found_by its p w.found) []) (sym is) (refl, refl, refl)))

  pub begins_past : BeginsSpans IsDoctype (text ++ p ∷ []) now
  begins_past end after rest span found all d e = (past end after rest span found all d e).begins

-- the end
pub read_to_end : (w : Reading) (text : List Placed) (errs : List ParseError) (end : ℕ) → HasReadDoctype w text errs
    → IsDoctype end [] text (found_at_end w.phase w.found) (errs ++ fault_errors (end_fault w.phase end))
read_to_end w text errs end h = subst (λ (x : List Placed). IsDoctype end [] x (found_at_end w.phase w.found) (errs ++ fault_errors (end_fault w.phase end)))
    (append-nil text) (h.goes_on end [] [] (found_at_end w.phase w.found) (fault_errors (end_fault w.phase end)) (ends_in w.phase w.found end h.fits))

-- the laws
pub doctype_begins : (w : Reading) (text : List Placed) (errs : List ParseError) → HasReadDoctype w text errs → BeginsSpans IsDoctype text errs
doctype_begins w text errs h end after rest span found all d e = (h.no_other end after rest span found all d e).begins

pub doctype_open : (w : Reading) (text : List Placed) (errs : List ParseError) → HasReadDoctype w text errs → IsOpenMarkup IsDoctype text
doctype_open w text errs h end rest found errors d = let g = h.no_other end rest rest text found errors d refl in
    let none : g.begins.more ≡ [] = append_cancel_left text g.begins.more [] (sym g.begins.span_is ∙ sym (append-nil text)) in
    (end_of w.phase w.found end rest found g.begins.later h.fits (subst (λ x. DoctypeGoesOn w.phase w.found end rest x found g.begins.later) none g.goes_on)).0

-- one doctype at most
abbrev Same : List Placed → List Placed → List Placed → List Placed → Found → Found → List ParseError → List ParseError → Type 0
Same text text' rest rest' found found' errors errors' = (text ≡ text') × (rest ≡ rest') × (found ≡ found') × (errors ≡ errors')

same_goes : (next : Option DoctypeState) (known : Found) (end : ℕ) (rest rest' : List Placed) (ps qs : List Placed) (found found' : Found)
    (later later' : List ParseError) → FitsNext next known → ((phase : DoctypeState) → FitsState phase known → DoctypeGoesOn phase known end rest ps found later
    → DoctypeGoesOn phase known end rest' qs found' later' → Same ps qs rest rest' found found' later later') → ps ++ rest ≡ qs ++ rest'
    → Goes next known end rest ps found later → Goes next known end rest' qs found' later' → Same ps qs rest rest' found found' later later'
same_goes None known end rest rest' ps qs found found' later later' fits one e (t, f, l) (t', f', l') = (t ∙ sym t', cc, f ∙ sym f', l ∙ sym l')
same_goes (Some phase) known end rest rest' ps qs found found' later later' fits one e g g' = one phase fits g g'

one_from : (text text' : List Placed) (phase : DoctypeState) (known : Found) (end : ℕ) (rest rest' : List Placed) (found found' : Found)
    (errors errors' : List ParseError) → FitsState phase known → text ++ rest ≡ text' ++ rest' → DoctypeGoesOn phase known end rest text found errors
    → DoctypeGoesOn phase known end rest' text' found' errors' → Same text text' rest rest' found found' errors errors'
one_from [] [] phase known end rest rest' found found' errors errors' fits e g g' = let k = end_of phase known end rest found errors fits g in
    let k' = end_of phase known end rest' found' errors' fits g' in
    (refl, e, k.1 ∙ sym k'.1, k.2 ∙ sym k'.2)
one_from [] (q ∷ qs) phase known end rest rest' found found' errors errors' fits e g g' =
    let none : rest ≡ [] = (end_of phase known end rest found errors fits g).0 in absurd cc
one_from (p ∷ ps) [] phase known end rest rest' found found' errors errors' fits e g g' =
    let none : rest' ≡ [] = (end_of phase known end rest' found' errors' fits g').0 in absurd cc
one_from (p ∷ ps) (q ∷ qs) phase known end rest rest' found found' errors errors' fits e g g' =
    let head : q ≡ p = cc in let tail : ps ++ rest ≡ qs ++ rest' = cc in let a = from_phase known end rest p ps found phase errors fits g in
    let b = from_phase known end rest' p qs found' phase errors' fits (subst (λ x. DoctypeGoesOn phase known end rest' (x ∷ qs) found' errors') head g') in
    let k = same_goes (step phase p).next (found_by (step phase p) p known) end rest rest' ps qs found found' a.later b.later (fits_next known p phase fits)
    (λ next fits g g'. one_from ps qs next (found_by (step phase p) p known) end rest rest' found found' a.later b.later fits tail g g') tail a.goes b.goes in
    (ap (λ x. p ∷ x) k.0 ∙ ap (λ (x : Placed). x ∷ qs) (sym head), k.1, k.2, a.errors_are ∙ ap (λ x. step_errors (step phase p) p ++ x) k.3 ∙ sym b.errors_are)

pub one_doctype : IsOneSpan IsDoctype
one_doctype end rest rest' span span' found found' errors errors' d d' e =
    one_from span span' (phase.BeforeName false) nothing end rest rest' found found' errors errors' tt e d d'

-- A run of characters that are only data in a doctype.
none_pass : (bytes : List ℕ) → 0 < length bytes → list_all (λ c. false) bytes ≡ true → ⊥
none_pass [] some h = omega arith
none_pass (b ∷ bytes) some h = false≢true h

-- a character of a run, by its bytes
by_size : (phase : DoctypeState) (known : Found) → FitsState phase known → (c : ℕ) → list_all (is_data phase) (encode_utf8 c) ≡ true → is_data phase c ≡ true
by_size phase.Name known fits c h = grind (arith, nat_tests, encode_ascii c)
by_size (phase.Quoted which mark) known fits c h =
    quote_is mark fits.0 (λ m. list_all (is_data (phase.Quoted which m)) (encode_utf8 c) ≡ true → is_data (phase.Quoted which m) c ≡ true)
    (λ h. grind (arith, nat_tests, encode_ascii c)) (λ h. grind (arith, nat_tests, encode_ascii c)) h
by_size _ known fits c h = absurd (none_pass (encode_utf8 c) (omega (arith, length-encode c, len_utf8_bounds c)) h)

-- what it is not
named : (c : ℕ) → is_data phase.Name c ≡ true → (is_space c ≡ false) × (is_greater c ≡ false) × (eqb c 0 ≡ false) × (to_ascii_lowercase c ≡ c)
named c h = (grind (arith, nat_tests), grind (arith, nat_tests), grind (arith, nat_tests), grind (arith, nat_tests))

inside : (which : Identifier) (mark c : ℕ) → is_data (phase.Quoted which mark) c ≡ true → (eqb c mark ≡ false) × (is_greater c ≡ false) × (eqb c 0 ≡ false)
inside which mark c h = (grind (arith, nat_tests), grind (arith, nat_tests), grind (arith, nat_tests))

-- what it does: the phase stays, no error comes, and it is kept as it is
record Stays (phase : DoctypeState) (p : Placed) : Type 0 where
  next : (step phase p).next ≡ Some phase
  errors : step_errors (step phase p) p ≡ []
  kept : (known : Found) → found_by (step phase p) p known ≡ with_run phase (encode_utf8 p.ch) known

stays : (phase : DoctypeState) (p : Placed) → is_data phase p.ch ≡ true → Stays phase p
stays phase.Name p h = let k = named p.ch h in
    record { next = simp (k.0, k.1); errors = simp (k.0, k.1, k.2); kept = λ known. simp (k.0, k.1, k.2, k.3, append-nil) }
stays (phase.Quoted which mark) p h = let k = inside which mark p.ch h in
    record { next = simp (k.0, k.1); errors = simp (k.0, k.1, k.2); kept = λ known. simp (k.0, k.1, k.2, append-nil) }
stays _ p h = absurd (false≢true h)

-- no run, and one after another
with_none : (phase : DoctypeState) (known : Found) → FitsState phase known → with_run phase [] known ≡ known
with_none phase.Name known fits = named_not known fits
with_none (phase.Quoted which mark) known fits = identified_not which known fits.1
with_none _ known fits = refl

with_two : (phase : DoctypeState) (xs ys : List ℕ) (known : Found) → with_run phase ys (with_run phase xs known) ≡ with_run phase (xs ++ ys) known
with_two phase.Name xs ys known = named-twice xs ys known
with_two (phase.Quoted which mark) xs ys known = identified-twice which xs ys known
with_two _ xs ys known = refl

abbrev pub after_run : Reading → List ℕ → Reading
after_run w run = record { phase = w.phase; found = with_run w.phase run w.found }

first_data : (w : Reading) (text : List Placed) (errs : List ParseError) (p : Placed) → is_data w.phase p.ch ≡ true → HasReadDoctype w text errs
    → HasReadDoctype (after_run w (encode_utf8 p.ch)) (text ++ p ∷ []) errs
first_data w text errs p h k = let s = stays w.phase p h in
    transport (λ t. HasReadDoctype (record { phase = w.phase; found = s.kept w.found t }) (text ++ p ∷ []) (((λ i. errs ++ s.errors i) ∙ append-nil errs) t))
    (read_more w text errs p k w.phase s.next)

run_data : (w : Reading) (text : List Placed) (errs : List ParseError) (at : ℕ) (cs : List ℕ) → list_all (is_data w.phase) (encode_utf8_all cs) ≡ true
    → HasReadDoctype w text errs → HasReadDoctype (after_run w (encode_utf8_all cs)) (text ++ placed at cs) errs
run_data w text errs at [] h k = rw (append-nil text, with_none w.phase w.found k.fits) k
run_data w text errs at (c ∷ cs) h k = let parts = and_parts _ _ (sym (list_all-append (is_data w.phase) (encode_utf8 c) (encode_utf8_all cs)) ∙ h) in
    let p : Placed = record { ch = c; at = at } in
    rw (← append_assoc text (p ∷ []) (placed (at + len_utf8 c) cs), ← with_two w.phase (encode_utf8 c) (encode_utf8_all cs) w.found) (run_data
    (after_run w (encode_utf8 c)) (text ++ p ∷ []) errs (at + len_utf8 c) cs parts.1 (first_data w text errs p (by_size w.phase w.found k.fits c parts.0) k))

pub run_in_doctype : (run : List ℕ) → IsUtf8 run → (w : Reading) → list_all (is_data w.phase) run ≡ true
    → (at : ℕ) (text : List Placed) (errs : List ParseError) → HasReadDoctype w text errs
    → HasReadDoctype (after_run w run) (text ++ placed at (chars run)) errs
run_in_doctype run utf8 w plain at text errs k = subst (λ (x : List ℕ). HasReadDoctype (after_run w x) (text ++ placed at (chars run)) errs)
    (encodes-chars run utf8) (run_data w text errs at (chars run) (ap (list_all (is_data w.phase)) (encodes-chars run utf8) ∙ plain) k)
