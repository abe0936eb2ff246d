-- The text at the front of a run, and what ends it: contracts of the tokenizer's own functions.
use Rattle.std.specs.Prelude.{◌≡◌, ℕ, ◌+◌, ◌≤◌, ◌<◌, ◌==◌, Bool, true, false, List, [], ◌∷◌, ◌++◌, map, length, take, drop, Result, Ok, Err}
use Rattle.std.specs.Prelude.{IfSome, encode_utf8_all, slice_index}
use Rattle.std.specs.Char.{is_ascii}
use Rattle.std.specs.List.{list_all}
use Rattle.std.specs.Str.{IsUtf8, chars}
use Rattle.names.specs.declared.error.ErrorCode.TheVariants.{UnknownNamedCharacterReference}
use Rattle.names.specs.declared.error.ParseError.{ParseError}
use Rattle.names.specs.declared.placed.Placed.{Placed}
use Rattle.names.specs.declared.raw.RawKind.{RawKind}
use Rattle.names.specs.declared.refusal.Refusal.{Refusal}
use Rattle.names.specs.Names.{Texts}
use Rattle.names.specs.Placed.{characters, placed, error_if, is_alphanumeric}
use Rattle.names.specs.Sink.{Hands}
use Rattle.hmarkup.specs.CommentWalk.{backwards}
use Rattle.htext.specs.Run.{IsCut, is_text_byte}
use Rattle.charref.specs.declared.reference.Reference.{Reference}
use Rattle.charref.specs.Pieces.{IsRead}
use Rattle.charref.specs.Reference.{Entities, IsReference, IsTable, ampersand}
use Rattle.htoken.specs.declared.front.Ampersand.{Ampersand}
use Rattle.htoken.specs.declared.front.Ampersand.TheVariants.{Text, Whole, Open}
use Rattle.htoken.specs.declared.front.Front.{Front}
use Rattle.htoken.specs.declared.with_references.TextWithReferences.{TextWithReferences}
use Rattle.htoken.specs.declared.tokenizer.Tokenizer.{Tokenizer}
use Rattle.htoken.specs.Token.{Item, Event, Reports}
use Rattle.htoken.specs.Handing.{HandsEvents}
use Rattle.htoken.specs.Run.{is_not_null, run_events, StartsAt}
use Rattle.htoken.specs.Spans.{has_references}
use Rattle.htoken.specs.Standing.{Standing}
use Rattle.htoken.specs.Steps.{TakesPart}
use Rattle.htoken.specs.Tokenizing.{Reads, Stands, after_last}

-- the error of an `&` that is text, with these letters and digits after it and this character after those (#ambiguous-ampersand-state)
abbrev pub bare_errors : List ℕ → ℕ → ℕ → List ParseError
bare_errors [] next at = []
bare_errors (letter ∷ letters) next at = error_if (next == 59) UnknownNamedCharacterReference at

-- At the front of this run is an `&` that is text, whatever comes after the run: with the letters and digits after it, it has this length.
pub record IsBare (table : Entities) (kind : RawKind) (run : List ℕ) (count : ℕ) : Type 0 where
  pub may : has_references kind ≡ true
  pub letters : List ℕ
  pub next : ℕ
  pub others : List ℕ
  pub run_is : run ≡ 38 ∷ letters ++ next ∷ others
  pub count_is : count ≡ 1 + length letters
  pub alphanumeric : list_all is_alphanumeric letters ≡ true
  pub ascii : is_ascii next ≡ true
  pub is_text : (at : ℕ) (more : List Placed) → IsReference table false (placed (at + 1) letters ++ record { ch = next; at = at + count } ∷ more)
      (ampersand (record { ch = 38; at = at }) (bare_errors letters next at))

-- At the front of this run is a whole reference, whatever comes after what is shown: its `&`, and this many bytes, the last of which
-- may be a character that it leaves.
pub record IsWhole (table : Entities) (kind : RawKind) (run : List ℕ) (found : Reference) (count : ℕ) : Type 0 where
  pub may : has_references kind ≡ true
  pub is_table : IsTable table
  pub shown : List ℕ
  pub others : List ℕ
  pub run_is : run ≡ 38 ∷ shown ++ others
  pub count_is : count ≡ length shown
  pub ascii : list_all is_ascii shown ≡ true
  pub known : found.is_ambiguous ≡ false
  pub left : found.left ≤ 1
  pub reads : (at : ℕ) (after : List Placed) → IsRead table false (placed at shown) after found

-- what an `&` at the front of this run is, where the run shows it
abbrev pub ShowsAmpersand : Entities → RawKind → List ℕ → Ampersand → Type 0
ShowsAmpersand table kind run (Text size) = IsBare table kind run size
ShowsAmpersand table kind run (Whole whole) = IsWhole table kind run whole.found whole.size
ShowsAmpersand table kind run Open = Unit {0}

-- This much of a run was read, and after it is the run's end, or what is no text; and the whole reference that is said, if one is.
pub record EndsFront (table : Entities) (kind : RawKind) (run : List ℕ) (front : Front) : Type 0 where
  pub cut : IsCut front.count run
  pub ends : front.count < length run → is_text_byte (slice_index run front.count) ≡ false
  pub whole : IfSome front.next (λ it. IsWhole table kind (drop front.count run) it.found it.size)

-- characters that all are at this place
abbrev pub all_at : ℕ → List ℕ → List Placed
all_at at cs = map (λ c. record { ch = c; at = at }) cs

-- the first character of a text, if it has one
abbrev pub first_placed : ℕ → List ℕ → List Placed
first_placed at text = placed at (take 1 (chars text))

-- This many bytes at the front of a run are text and whole references: they have these errors and give these characters, whatever comes after
-- what comes next in the run.
pub record IsFront (table : Entities) (kind : RawKind) (run : List ℕ) (at count : ℕ) (errors : List ParseError) (given : List Placed) : Type 0 where
  pub cut : IsCut count run
  pub stands : (start : RawKind) (text : List Placed) (here : Standing) (taken : List Event) → here.kind ≡ kind
      → ((end : ℕ) (more : List Placed) → Stands table start end text (first_placed at run ++ more) here taken []) → (end : ℕ) (more : List Placed)
      → Stands table start end (text ++ placed at (chars (take count run))) (first_placed (at + count) (drop count run) ++ more)
      (record here { front = backwards here.front (placed at (chars (take count run))) }) (taken ++ (map Reports errors ++ run_events given)) []

-- the text at the front of a run, whose errors were handed over
pub record TellsText {S : Type 0} (gives : S → ParseError → Result (Unit {0}) Refusal → S → Type 0) (table : Entities) (kind : RawKind)
    (run : List ℕ) (at count : ℕ) (old new : S) : Type 0 where
  pub errors : List ParseError
  pub handed : Hands gives old errors (Ok tt) new
  pub front : IsFront table kind run at count errors (placed at (chars (take count run)))

-- the events of a front that is handed over as one text
abbrev pub events_with_references : List Placed → List ParseError → List Event
events_with_references given errors = run_events given ++ map Reports errors

-- What was gathered is handed over, unless the sink does not take it as one run.
abbrev pub GivesTextWithReferences : {S : Type 0} → (S → Item → Result (Unit {0}) Refusal → S → Type 0) → Texts → List Placed → List ParseError
    → S → Result Bool Refusal → S → Type 0
GivesTextWithReferences gives names given errors old (Ok true) new = HandsEvents gives names old (events_with_references given errors) (Ok tt) new
GivesTextWithReferences gives names given errors old (Ok false) new = new ≡ old
GivesTextWithReferences gives names given errors old (Err e) new = HandsEvents gives names old (events_with_references given errors) (Err e) new

-- A front of a run was added to what is gathered: it gives characters other than NUL, the first of which is at `at`.
pub record AddsReferences (table : Entities) (kind : RawKind) (run : List ℕ) (at count : ℕ) (old new : TextWithReferences) : Type 0 where
  pub errors : List ParseError
  pub given : List Placed
  pub front : IsFront table kind run at count errors given
  pub raised_is : new.raised.errors.items ≡ old.raised.errors.items ++ errors
  pub text_is : new.text ≡ old.text ++ encode_utf8_all (characters given)
  pub utf8 : IsUtf8 new.text
  pub not_null : list_all is_not_null (characters given) ≡ true
  pub starts : StartsAt given at
  pub some : given ≡ [] → count ≡ 0

-- This front of a run is what is gathered.
pub record IsGathered (table : Entities) (kind : RawKind) (run : List ℕ) (at count : ℕ) (s : TextWithReferences) : Type 0 where
  pub given : List Placed
  pub front : IsFront table kind run at count s.raised.errors.items given
  pub text_is : s.text ≡ encode_utf8_all (characters given)
  pub utf8 : IsUtf8 s.text
  pub not_null : list_all is_not_null (characters given) ≡ true
  pub starts : StartsAt given at
  pub some : given ≡ [] → count ≡ 0

-- A front of a run has been taken: what it gives was handed over, and what comes next in the run is known to.
pub record IsTakenFront {S : Type 0} (gives : S → Item → Result (Unit {0}) Refusal → S → Type 0) (table : Entities) (start : RawKind)
    (t : Tokenizer) (names : Texts) (text : List Placed) (taken : List Event) (run : List ℕ) (at count : ℕ) (old new : S) : Type 0 where
  pub events : List Event
  pub handed : HandsEvents gives names old events (Ok tt) new
  pub reads : (next : Tokenizer) → next ≡ record t { next = next.next }
      → next.next ≡ after_last ((text ++ placed at (chars (take count run))) ++ first_placed (at + count) (drop count run))
      → Reads table start next names (text ++ placed at (chars (take count run))) (first_placed (at + count) (drop count run)) (taken ++ events)

-- how a run is taken on, of which a front of this length has been taken
abbrev pub TakesOn : {S : Type 0} → (S → Item → Result (Unit {0}) Refusal → S → Type 0) → Tokenizer → List ℕ → ℕ → ℕ → S → Result ℕ Refusal → S
    → Tokenizer → Type 0
TakesOn {S} gives t run at count mid answer new next = (table : Entities) (start : RawKind) (names : Texts) (text : List Placed) (taken : List Event) (old : S)
    → IsTakenFront gives table start t names text taken run at count old mid → TakesPart gives table start text at run taken names old answer new next
