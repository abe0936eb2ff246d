-- What a walk has read, and the characters that close it.
use Rattle.hmarkup.proofs.Names.{◌≡◌, ◌<◌, ℕ, arith, true, false, eqb, List, [], ◌∷◌, ◌++◌, refl, ◌∙◌, transport, codes, None, append_assoc, ParseError, Placed, characters, is_quote, CommentKind, Comment, Bogus, Letters, DoctypeState, Ending, Plain, Dashes, IsComment, Progress, HasReadOf, IsInComment, IsCommentSpan, Found, IsDoctype, next_letter, step, Reading, FitsState, HasReadDoctype, next_ending, errors_here, is_whole, next_progress, ne_eqb, closing_mark, ClosedBy}
use Rattle.hmarkup.specs.declared.doctype_state.DoctypeState.TheVariants as phase
use Rattle.hmarkup.proofs.Characters.{quote_is}
use Rattle.hmarkup.proofs.Walking.{bogus_closed, kept_other, closed_now}
use Rattle.hmarkup.proofs.Keywords.{next_is_letter}
use Rattle.hmarkup.proofs.Marks.{first_is}
use Rattle.hmarkup.proofs.Reading.{read_whole}

-- two dashes after any ending
two_dashes : (ending : Ending) → next_ending (next_ending ending 45) 45 ≡ Dashes
two_dashes Plain = refl
two_dashes _ = refl

-- `-->` after a comment's text
module _ (w : Progress) (text : List Placed) (errs : List ParseError) (h : IsInComment w text errs) (x y z : ℕ) where
  abbrev a : Placed
  a = record { ch = 45; at = x }

  abbrev b : Placed
  b = record { ch = 45; at = y }

  abbrev c : Placed
  c = record { ch = 62; at = z }

  closed_by_dashes : ClosedBy IsComment text (record { ch = 45; at = x } ∷ record { ch = 45; at = y } ∷ record { ch = 62; at = z } ∷ [])
  closed_by_dashes = let mid : Progress = next_progress w 45 in let last : Progress = next_progress mid 45 in
      let raised : List ParseError = (errs ++ errors_here (is_whole w.opening) a) ++ errors_here (is_whole mid.opening) b in
      record {
        value = last.data;
        errors = raised ++ [];
        is_span = λ end rest. rw (← (append_assoc (text ++ a ∷ []) (b ∷ []) (c ∷ []) ∙ append_assoc text (a ∷ []) (b ∷ c ∷ []))) (closed_now last
            ((text ++ a ∷ []) ++ b ∷ []) raised z (kept_other mid (text ++ a ∷ []) _ b (kept_other w text errs a h refl) refl) (two_dashes w.ending) end rest);
      }

pub closed_span : (kind : CommentKind) (w : Progress) (text closing : List Placed) (errs : List ParseError) → HasReadOf kind w text errs
    → characters closing ≡ closing_mark kind → ClosedBy (IsCommentSpan kind) text closing
closed_span Comment w text (a ∷ b ∷ c ∷ []) errs h is = let a_is : 45 ≡ a.ch = cc in let b_is : 45 ≡ b.ch = cc in let c_is : 62 ≡ c.ch = cc in
    transport (λ i. ClosedBy IsComment text (record { ch = a_is i; at = a.at } ∷ record { ch = b_is i; at = b.at } ∷ record { ch = c_is i; at = c.at } ∷ []))
    (closed_by_dashes w text errs h a.at b.at c.at)
closed_span Bogus w text (p ∷ []) errs h is = rw (first_is p [] 62 [] is) (record { value = _; errors = _; is_span = bogus_closed w text errs p.at h })
closed_span _ w text _ errs h is = absurd cc

-- `>` ends a doctype in each phase
no_quote : (mark : ℕ) → is_quote mark ≡ true → eqb 62 mark ≡ false
no_quote mark h = quote_is mark h (λ n. eqb 62 n ≡ false) refl refl

no_letter : (letters : Letters) → letters.read < 6 → eqb 62 (next_letter letters) ≡ false
no_letter letters fits = let far = next_is_letter letters fits in ne_eqb 62 (next_letter letters) (λ e. absurd (omega (arith, e)))

ends_doctype : (phase : DoctypeState) (known : Found) (at : ℕ) → FitsState phase known → (step phase (record { ch = 62; at = at })).next ≡ None
ends_doctype (phase.Keyword letters first) known at fits = simp (no_letter letters fits)
ends_doctype (phase.Quoted which mark) known at fits = simp (no_quote mark fits.0)
ends_doctype _ known at fits = refl

pub closed_doctype : (w : Reading) (text closing : List Placed) (errs : List ParseError) → HasReadDoctype w text errs → characters closing ≡ codes ">"
    → ClosedBy IsDoctype text closing
closed_doctype w text [] errs h is = absurd cc
closed_doctype w text (p ∷ []) errs h is = record
    { value = _; errors = _; is_span = read_whole w text errs p h (rw (first_is p [] 62 [] is) (ends_doctype w.phase w.found p.at h.fits)) }
closed_doctype w text (p ∷ q ∷ more) errs h is = absurd cc
