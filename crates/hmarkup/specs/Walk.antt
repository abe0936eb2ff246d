-- What the calls of a walk do. A walk reads a span of the input after its opening mark, one character at a time.
-- `HasRead walk text errors`: the walk has read this text, its span has not ended, and it has reported these errors.
-- `IsSpan end rest span value errors`: the text `span`, followed by `rest` up to the input's end at `end`, is a span with this
-- value and these errors.
use Rattle.std.specs.Prelude.{◌≡◌, ℕ, Bool, true, false, List, [], ◌∷◌, ◌++◌, Result, Ok, Err}
use Rattle.names.specs.declared.error.ParseError.{ParseError}
use Rattle.names.specs.declared.placed.Placed.{Placed}
use Rattle.names.specs.declared.refusal.Refusal.{Refusal}
use Rattle.names.specs.declared.refusal.Refusal.TheVariants.{Memory}
use Rattle.names.specs.Sink.{Hands}

-- The span begins with this text, and its errors with these.
pub record BeginsMarkup (text after rest span : List Placed) (errors all : List ParseError) : Type 0 where
  pub more : List Placed
  pub later : List ParseError
  pub span_is : span ≡ text ++ more
  pub after_is : after ≡ more ++ rest
  pub all_are : all ≡ errors ++ later

-- Each span at the front of a text that begins with `text` begins with it too, and its errors begin with `errors`.
abbrev pub BeginsSpans : {V : Type 0} → (ℕ → List Placed → List Placed → V → List ParseError → Type 0) → List Placed → List ParseError → Type 0
BeginsSpans {V} IsSpan text errors = (end : ℕ) (after rest span : List Placed) (value : V) (all : List ParseError)
    → IsSpan end rest span value all → span ++ rest ≡ text ++ after → BeginsMarkup text after rest span errors all

-- No span is exactly this text unless the input ends there.
abbrev pub IsOpenMarkup : {V : Type 0} → (ℕ → List Placed → List Placed → V → List ParseError → Type 0) → List Placed → Type 0
IsOpenMarkup {V} IsSpan text = (end : ℕ) (rest : List Placed) (value : V) (errors : List ParseError) → IsSpan end rest text value errors → rest ≡ []

-- Completed by `closing`, the text is a whole span, whatever follows.
pub record ClosedBy {V : Type 0} (IsSpan : ℕ → List Placed → List Placed → V → List ParseError → Type 0) (text closing : List Placed) : Type 0 where
  pub value : V
  pub errors : List ParseError
  pub is_span : (end : ℕ) (rest : List Placed) → IsSpan end rest (text ++ closing) value errors

-- The text, after which the input ends, begins with a span.
pub record HasMarkupSpan {V : Type 0} (IsSpan : ℕ → List Placed → List Placed → V → List ParseError → Type 0) (end : ℕ) (text : List Placed) : Type 0 where
  pub span : List Placed
  pub rest : List Placed
  pub value : V
  pub errors : List ParseError
  pub text_is : text ≡ span ++ rest
  pub is_span : IsSpan end rest span value errors

-- A text begins with at most one span, with one value and one list of errors.
abbrev pub IsOneSpan : {V : Type 0} → (ℕ → List Placed → List Placed → V → List ParseError → Type 0) → Type 0
IsOneSpan {V} IsSpan = (end : ℕ) (rest rest' span span' : List Placed) (value value' : V) (errors errors' : List ParseError)
    → IsSpan end rest span value errors → IsSpan end rest' span' value' errors' → span ++ rest ≡ span' ++ rest'
    → (span ≡ span') × (rest ≡ rest') × (value ≡ value') × (errors ≡ errors')

-- The outcome of reading a character, after this text and these errors: out of memory, the sink refused an error, the span
-- goes on, or the character ended it. In each case the span's errors begin with those reported.
pub data TakesMarkup {S W V : Type 0} (gives : S → ParseError → Result (Unit {0}) Refusal → S → Type 0) (HasRead : W → List Placed → List ParseError → Type 0)
    (IsSpan : ℕ → List Placed → List Placed → V → List ParseError → Type 0) (text : List Placed) (errors : List ParseError) (p : Placed)
    (old : S) (answer : Result Bool Refusal) (walk : W) (value : V) (new : S) : Type 0 where
  ran_out : (reported : List ParseError) → answer ≡ Err Memory → Hands gives old reported (Ok tt) new
      → BeginsSpans IsSpan (text ++ p ∷ []) (errors ++ reported) → TakesMarkup gives HasRead IsSpan text errors p old answer walk value new
  sink_refused : (e : Refusal) (reported : List ParseError) → answer ≡ Err e → Hands gives old reported (Err e) new
      → BeginsSpans IsSpan (text ++ p ∷ []) (errors ++ reported) → TakesMarkup gives HasRead IsSpan text errors p old answer walk value new
  goes_on : (reported : List ParseError) → answer ≡ Ok false → Hands gives old reported (Ok tt) new
      → HasRead walk (text ++ p ∷ []) (errors ++ reported) → TakesMarkup gives HasRead IsSpan text errors p old answer walk value new
  ended : (reported : List ParseError) → answer ≡ Ok true → Hands gives old reported (Ok tt) new
      → ((end : ℕ) (rest : List Placed) → IsSpan end rest (text ++ p ∷ []) value (errors ++ reported))
      → TakesMarkup gives HasRead IsSpan text errors p old answer walk value new

-- The outcome of reading a run of characters, none of which ends the span: the same as reading them one by one.
pub data TakesRun {S W V : Type 0} (gives : S → ParseError → Result (Unit {0}) Refusal → S → Type 0) (HasRead : W → List Placed → List ParseError → Type 0)
    (IsSpan : ℕ → List Placed → List Placed → V → List ParseError → Type 0) (text : List Placed) (errors : List ParseError) (run : List Placed)
    (old : S) (answer : Result (Unit {0}) Refusal) (walk : W) (new : S) : Type 0 where
  run_ran_out : (reported : List ParseError) → answer ≡ Err Memory → Hands gives old reported (Ok tt) new
      → BeginsSpans IsSpan (text ++ run) (errors ++ reported) → TakesRun gives HasRead IsSpan text errors run old answer walk new
  run_refused : (e : Refusal) (reported : List ParseError) → answer ≡ Err e → Hands gives old reported (Err e) new
      → BeginsSpans IsSpan (text ++ run) (errors ++ reported) → TakesRun gives HasRead IsSpan text errors run old answer walk new
  run_goes_on : (reported : List ParseError) → answer ≡ Ok tt → Hands gives old reported (Ok tt) new
      → HasRead walk (text ++ run) (errors ++ reported) → TakesRun gives HasRead IsSpan text errors run old answer walk new

-- The outcome of the input's end: the text is the whole span, and the errors of its end are reported.
pub record EndsMarkup {S V : Type 0} (gives : S → ParseError → Result (Unit {0}) Refusal → S → Type 0)
    (IsSpan : ℕ → List Placed → List Placed → V → List ParseError → Type 0)
    (text : List Placed) (errors : List ParseError) (end : ℕ) (value : V) (old : S) (answer : Result (Unit {0}) Refusal) (new : S) : Type 0 where
  pub reported : List ParseError
  pub handed : Hands gives old reported answer new
  pub is_span : IsSpan end [] text value (errors ++ reported)
