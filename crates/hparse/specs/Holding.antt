-- What a feeding holds, and what its calls do. It began as `began`.
use Rattle.std.specs.Prelude.{◌≡◌, ℕ, true, false, List, [], ◌∷◌, ◌++◌, Some, Result, Ok, Err}
use Rattle.names.specs.declared.error.ParseError.{ParseError}
use Rattle.names.specs.declared.refusal.Refusal.{Refusal}
use Rattle.htext.specs.Items.{CharItem, items, characters_among, errors_among}
use Rattle.htext.specs.Text.{refusal_of}
use Rattle.htoken.specs.Standing.{start_kind}
use Rattle.htoken.specs.Token.{Tok, Event, Item}
use Rattle.htoken.specs.Tokens.{Tokens, tokens_in, errors_in}
use Rattle.htoken.specs.Tokenizing.{HasTaken}
use Rattle.hparse.specs.Input.{Manner, Began, how_of, reads_in, input_text, end_in, WasHanded, IsRefusedFor}
use Rattle.hparse.specs.Intake.{Intake}

-- The tokenizer was fed the characters among these items; the sink was handed the tokens and errors that it gave, and the errors among the items.
pub record WasFed {S : Type 0} (gives : S → Item → Result (Unit {0}) Refusal → S → Type 0) (m : Manner) (began : Began S) (feeding : Intake S)
    (items : List CharItem) : Type 0 where
  pub taken : List Event
  pub has_taken : HasTaken m.table (start_kind m.start) feeding.tokenizer feeding.names (characters_among items) taken
  pub handed : WasHanded gives feeding.names began (tokens_in taken) (errors_among items ++ errors_in taken) (Ok tt) feeding.sink
  pub unstopped : feeding.stopped ≡ false

-- These items were handed over: those that were fed, and the unfed ones of a run.
pub record HoldsItems {S : Type 0} (gives : S → Item → Result (Unit {0}) Refusal → S → Type 0) (m : Manner) (began : Began S) (feeding : Intake S)
    (items : List CharItem) : Type 0 where
  pub fed : List CharItem
  pub items_are : fed ++ feeding.unfed ≡ items
  pub was_fed : WasFed gives m began feeding fed

module _ {S : Type 0} (gives : S → Item → Result (Unit {0}) Refusal → S → Type 0) where
  -- What handing over items does, after others: each input whose text begins so is refused, or they are held too.
  pub data TakesItems (m : Manner) (began : Began S) (before items : List CharItem) (answer : Result (Unit {0}) Refusal) (new : Intake S) : Type 0 where
    items_stopped : (e : Refusal) → answer ≡ Err e → new.stopped ≡ true
        → ((more : List CharItem) (bytes : List ℕ) → characters_among (before ++ (items ++ more)) ≡ input_text m bytes
        → IsRefusedFor gives m began bytes new.names new.sink e) → TakesItems m began before items answer new
    items_taken : answer ≡ Ok tt → HoldsItems gives m began new (before ++ items) → TakesItems m began before items answer new

  -- a step of a feeding
  abbrev pub Proceeds : Intake S → CharItem → Result (Unit {0}) Refusal → Intake S → Type 0
  Proceeds old item answer new = (m : Manner) (began : Began S) (before : List CharItem) → HoldsItems gives m began old before
      → TakesItems m began before (item ∷ []) answer new

  -- What the end of the text does, after these items: each input of this text that is read so far is refused, or the sink took all of it.
  pub data EndsText (m : Manner) (began : Began S) (items : List CharItem) (end : ℕ) (answer : Result (Unit {0}) Refusal) (new : Intake S) : Type 0 where
    text_stopped : (e : Refusal) → answer ≡ Err e → ((bytes : List ℕ) → characters_among items ≡ input_text m bytes → end ≡ end_in m bytes
        → IsRefusedFor gives m began bytes new.names new.sink e) → EndsText m began items end answer new
    text_taken : (tokens : List Tok) (errors : List ParseError) → answer ≡ Ok tt
        → Tokens m.table (start_kind m.start) (characters_among items) end tokens errors
        → WasHanded gives new.names began tokens (errors_among items ++ errors) (Ok tt) new.sink → EndsText m began items end answer new

  -- The answer once a decoder has refused bytes of which these items were read: the bytes are refused for it.
  abbrev pub Refuses : Manner → Began S → List CharItem → Refusal → Refusal → Intake S → Type 0
  Refuses m began held refused answer new = (bytes : List ℕ) → held ≡ items (reads_in m bytes) → refusal_of (how_of m) bytes ≡ Some refused
      → IsRefusedFor gives m began bytes new.names new.sink answer
