-- Reading a document into a sink.
use Rattle.std.specs.Prelude.{◌≡◌, ℕ, List, [], ◌++◌, Option, Result, Ok, Err}
use Rattle.names.specs.declared.error.ParseError.{ParseError}
use Rattle.names.specs.declared.placed.Placed.{Placed}
use Rattle.names.specs.declared.raw.RawKind.{RawKind}
use Rattle.names.specs.declared.refusal.Refusal.{Refusal}
use Rattle.names.specs.Names.{Texts}
use Rattle.names.specs.Tags.{known}
use Rattle.htext.specs.declared.BadBytes.{BadBytes}
use Rattle.htext.specs.Items.{input_errors}
use Rattle.charref.specs.Reference.{Entities}
use Rattle.htoken.specs.declared.token.Start.TheVariants.{Document}
use Rattle.htoken.specs.Settled.{AreTaken}
use Rattle.htoken.specs.Standing.{at_start, start_kind}
use Rattle.htoken.specs.Token.{Item, Event, Span}
use Rattle.htoken.specs.Tokens.{Cut, spans_text, tokens_of, span_errors, tokens_in, errors_in}
use Rattle.hparse.specs.Input.{Manner, Began, WasHanded, settled_in, IsRefusedFor, IsTaken}
use Rattle.hparse.specs.Reader.{ReadsTo}
use Rattle.hparse.specs.Unrefused.{AreSettledIn, IsUnrefusedText, settled_text}

-- how a document is read
abbrev pub as_document : Entities → BadBytes → ℕ → Manner
as_document table bad limit = record { table = table; start = Document; bad = bad; limit = limit }

-- a sink before it is handed anything: the table has the known names
abbrev pub began_with : {S : Type 0} → S → Began S
began_with sink = record { names = known; sink = sink }

-- These are the events of spans at the front of a text where this follows it, but for errors that come later.
pub record AreOfFront (table : Entities) (start : RawKind) (text more : List Placed) (end : ℕ) (events : List Event) : Type 0 where
  pub spans : List Span
  pub rest : List Placed
  pub later : List ParseError
  pub text_is : text ++ more ≡ spans_text spans ++ rest
  pub cut : Cut table end (at_start start) spans rest
  pub tokens_are : tokens_in events ≡ tokens_of spans
  pub errors_are : errors_in events ++ later ≡ span_errors spans

module _ {S : Type 0} (gives : S → Item → Result (Unit {0}) Refusal → S → Type 0) (m : Manner) where
  -- The sink took what these bytes give whatever follows them, and no more: all spans that are settled, and not the end.
  pub record HasSettled (began : Began S) (bytes : List ℕ) (names : Texts) (now : S) : Type 0 where
    pub unrefused : IsUnrefusedText m bytes
    pub events : List Event
    pub handed : WasHanded gives names began (tokens_in events) (input_errors (settled_in m bytes) ++ errors_in events) (Ok tt) now
    pub no_more : (more : List Placed) (end : ℕ) → AreOfFront m.table (start_kind m.start) (settled_text m bytes) more end events
    pub no_less : (spans : List Span) → AreSettledIn m bytes spans → AreTaken events spans

  -- What an input gives in a sink: it took all of it, and here are the names of its tokens; or the reading is refused.
  abbrev pub ComesInto : S → S → List ℕ → Result Texts Refusal → Type 0
  ComesInto sink now bytes (Ok names) = IsTaken gives m (began_with sink) bytes names now
  ComesInto sink now bytes (Err refusal) = (names : Texts) × IsRefusedFor gives m (began_with sink) bytes names now refusal

  -- What reading an input into a sink does, in pieces of at most this many bytes: the sink is as its calls have left it. Where a read
  -- failed it took what is settled; where memory ran out, that is a refusal.
  abbrev pub ReadsInto : {R : Type 0} → (R → Option (List ℕ)) → (R → ℕ) → S → ℕ → R → R → S → Result Texts Refusal → Type 0
  ReadsInto left failed sink piece old new now answer =
      ReadsTo left failed (ComesInto sink now) (IsUnrefusedText m) (λ bytes. (names : Texts) × HasSettled (began_with sink) bytes names now) ⊥
      piece [] old new answer
