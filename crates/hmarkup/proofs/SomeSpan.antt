-- Every text begins with a comment, with a bogus comment and with a doctype.
use Rattle.hmarkup.proofs.Names.{◌≡◌, ℕ, Bool, true, false, List, [], ◌∷◌, ◌++◌, sym, refl, Option, Some, None, append_assoc, ParseError, ErrorCode, Placed, CommentKind, Comment, Bogus, DoctypeState, IsDoctype, step, found_by, Reading, HasReadDoctype, Progress, comment_begun, HasReadOf, IsCommentSpan, HasMarkupSpan}
use Rattle.hmarkup.proofs.Outcomes.{Outcome, outcome}
use Rattle.hmarkup.proofs.Walking.{comment_begins, unclosed_at, plain_read, bogus_unclosed}
use Rattle.hmarkup.proofs.Reading.{read_nothing, read_more, read_whole, read_to_end}

-- `text` was read, and `p ∷ ps` is left
module _ {V : Type 0} (Spans : ℕ → List Placed → List Placed → V → List ParseError → Type 0) (end : ℕ) (text : List Placed) (p : Placed)
    (ps : List Placed) where
  -- the span ends with `p`, or goes on after it
  abbrev pub ends_now : (value : V) (errors : List ParseError) → Spans end ps (text ++ p ∷ []) value errors → HasMarkupSpan Spans end (text ++ p ∷ ps)
  ends_now value errors h = record
      { span = text ++ p ∷ []; rest = ps; value = value; errors = errors; text_is = sym (append_assoc text (p ∷ []) ps); is_span = h }

  abbrev pub ends_later : HasMarkupSpan Spans end ((text ++ p ∷ []) ++ ps) → HasMarkupSpan Spans end (text ++ p ∷ ps)
  ends_later k = record { span = k.span; rest = k.rest; value = k.value; errors = k.errors; text_is = cc (append_assoc text (p ∷ []) ps); is_span = k.is_span }

-- doctypes
module _ (end : ℕ) where
  abbrev pub doctype_by : (w : Reading) (text : List Placed) (errs : List ParseError) (p : Placed) (ps : List Placed) → HasReadDoctype w text errs
      → ((w' : Reading) (errs' : List ParseError) → HasReadDoctype w' (text ++ p ∷ []) errs' → HasMarkupSpan IsDoctype end ((text ++ p ∷ []) ++ ps))
      → (goes : Option DoctypeState) → (step w.phase p).next ≡ goes → HasMarkupSpan IsDoctype end (text ++ p ∷ ps)
  doctype_by w text errs p ps h from None is = ends_now IsDoctype end text p ps _ _ (read_whole w text errs p h is end ps)
  doctype_by w text errs p ps h from (Some phase) is =
      ends_later IsDoctype end text p ps (from (record { phase = phase; found = found_by (step w.phase p) p w.found }) _ (read_more w text errs p h phase is))

  abbrev pub doctype_from : (w : Reading) (text : List Placed) (errs : List ParseError) (after : List Placed) → HasReadDoctype w text errs
      → HasMarkupSpan IsDoctype end (text ++ after)
  doctype_from w text errs [] h = record { span = text; rest = []; value = _; errors = _; text_is = refl; is_span = read_to_end w text errs end h }
  doctype_from w text errs (p ∷ ps) h = doctype_by w text errs p ps h (λ w' errs' h'. doctype_from w' (text ++ p ∷ []) errs' ps h') (step w.phase p).next refl

  abbrev pub some_doctype : (text : List Placed) → HasMarkupSpan IsDoctype end text
  some_doctype text = doctype_from _ [] [] text read_nothing

-- comments of each kind
module _ (kind : CommentKind) (end : ℕ) where
  span_by : (w : Progress) (text : List Placed) (errs : List ParseError) (p : Placed) (ps : List Placed)
      → ((w' : Progress) (errs' : List ParseError) → HasReadOf kind w' (text ++ p ∷ []) errs' → HasMarkupSpan (IsCommentSpan kind) end ((text ++ p ∷ []) ++ ps))
      → (s : Option ErrorCode × Bool) → Outcome kind w text errs p s → HasMarkupSpan (IsCommentSpan kind) end (text ++ p ∷ ps)
  span_by w text errs p ps from (code, true) o = ends_now (IsCommentSpan kind) end text p ps _ _ (o end ps)
  span_by w text errs p ps from (code, false) o = ends_later (IsCommentSpan kind) end text p ps (from _ _ o)

  span_from : (w : Progress) (text : List Placed) (errs : List ParseError) (after : List Placed) → HasReadOf kind w text errs
      → HasMarkupSpan (IsCommentSpan kind) end (text ++ after)
  span_from w text errs [] h = at_end kind h where
    at_end : (kind : CommentKind) → HasReadOf kind w text errs → HasMarkupSpan (IsCommentSpan kind) end (text ++ [])
    at_end Comment h = record { span = text; rest = []; value = _; errors = _; text_is = refl; is_span = unclosed_at w text errs h end }
    at_end Bogus h = record { span = text; rest = []; value = _; errors = _; text_is = refl; is_span = bogus_unclosed w text errs h }
  span_from w text errs (p ∷ ps) h = span_by w text errs p ps (λ w' errs' h'. span_from w' (text ++ p ∷ []) errs' ps h') _ (outcome kind w text errs p h)

pub some_span : (end : ℕ) (kind : CommentKind) (text : List Placed) → HasMarkupSpan (IsCommentSpan kind) end text
some_span end Comment text = span_from Comment end (comment_begun Comment []) [] [] text comment_begins
some_span end Bogus text = span_from Bogus end (comment_begun Bogus []) [] [] text (plain_read [] refl)
