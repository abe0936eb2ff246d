-- What a decoder has been fed, and what a call of it does.
use Rattle.std.specs.Prelude.{◌≡◌, ℕ, ◌≤◌, Bool, false, List, ◌++◌, length, take, drop, Option, None, Some, Result, Ok, Err, OnOk, MatchResult, ⊤}
use Rattle.names.specs.Sink.{Hands}
use Rattle.names.specs.declared.refusal.Refusal.{Refusal}
use Rattle.names.specs.declared.refusal.Refusal.TheVariants.{Memory}
use Rattle.htext.specs.Text.{Policy, Read, reads, front_len, settled_len, ends_in_return, refusal_of, DecodingStaysRefused, decoded, settled, text as text_of}
use Rattle.htext.specs.Items.{CharItem, items}

-- what contracts see of a decoder
pub record DecoderState : Type 0 where
  pub how : Policy
  pub read : ℕ
  pub after_return : Bool
  pub undecoded : List ℕ
  pub refused : Option Refusal

-- What is read of the bytes whatever follows them has been read: `read` bytes, with a CR at their end or not.
pub record DecoderHasRead (how : Policy) (read : ℕ) (after_return : Bool) (bytes : List ℕ) : Type 0 where
  pub length_is : read ≡ settled_len how bytes
  pub end_is : after_return ≡ ends_in_return false (reads (take (settled_len how bytes) bytes))

-- what follows the bytes decides whether and why they are refused
abbrev pub IsUndecided : Policy → List ℕ → Type 0
IsUndecided how bytes = (refusal : Refusal) → DecodingStaysRefused how bytes refusal → ⊥

-- A front of the bytes, of characters and bad parts that are settled, has been read: `read` bytes, with a CR at their end or not.
pub record IsReading (how : Policy) (read : ℕ) (after_return : Bool) (bytes : List ℕ) : Type 0 where
  pub within : read ≤ how.limit
  pub parts : front_len false how.bad read bytes ≡ read
  pub end_is : after_return ≡ ends_in_return false (reads (take read bytes))

-- The decoder was fed these bytes, in any pieces, and has refused nothing: it has read what is read of them whatever follows, and holds
-- the at most three bytes after that. What follows decides whether and why the bytes are refused.
pub record HasFed (decoder : DecoderState) (bytes : List ℕ) : Type 0 where
  pub front : DecoderHasRead decoder.how decoder.read decoder.after_return bytes
  pub undecoded : decoder.undecoded ≡ drop decoder.read bytes
  pub few : length decoder.undecoded ≤ 3
  pub undecided : IsUndecided decoder.how bytes
  pub accepts : decoder.refused ≡ None

-- The bytes are refused, whatever comes after them, and no more of them is read then.
abbrev pub DecodingIsRefusedFrom : Policy → List ℕ → Refusal → Type 0
DecodingIsRefusedFrom how bytes refusal = (more : List ℕ)
    → (refusal_of how (bytes ++ more) ≡ Some refusal) × (decoded how (bytes ++ more) ≡ settled how bytes)

-- The sink is handed a text, of which it was handed a front before.
abbrev pub HandsOn : {S : Type 0} → (S → CharItem → Result (Unit {0}) Refusal → S → Type 0) → List Read → List Read
    → S → Result (Unit {0}) Refusal → S → Type 0
HandsOn gives before text old answer new = (more : List Read) × (text ≡ before ++ more) × Hands gives old (items more) answer new

-- What a call that feeds the piece does. Memory ran out, and the sink had taken what is read of a front of the piece whatever follows;
-- or the sink refused an item, whatever comes after the piece, and that is the answer; or the sink took all that is read whatever
-- follows, and the answer is Ok or a refusal that holds whatever comes after.
pub data Feeds {S : Type 0} (gives : S → CharItem → Result (Unit {0}) Refusal → S → Type 0) (how : Policy)
    (fed piece : List ℕ) (old : S) (answer : Result (Unit {0}) Refusal) (new : S) : Type 0 where
  ran_out : (front rest : List ℕ) → answer ≡ Err Memory → piece ≡ front ++ rest
      → HandsOn gives (settled how fed) (settled how (fed ++ front)) old (Ok tt) new
      → Feeds gives how fed piece old answer new
  sink_refused : (e : Refusal) → answer ≡ Err e
      → ((more : List ℕ) → HandsOn gives (settled how fed) (decoded how ((fed ++ piece) ++ more)) old (Err e) new)
      → Feeds gives how fed piece old answer new
  took_all : HandsOn gives (settled how fed) (settled how (fed ++ piece)) old (Ok tt) new
      → MatchResult answer (λ _. ⊤) (DecodingIsRefusedFrom how (fed ++ piece))
      → Feeds gives how fed piece old answer new

-- What reading a piece on does with a decoder that has refused nothing; a refusal is for the caller to keep.
pub record ReadsOn {S : Type 0} (gives : S → CharItem → Result (Unit {0}) Refusal → S → Type 0) (before : DecoderState)
    (piece : List ℕ) (old : S) (answer : Result (Unit {0}) Refusal) (after : DecoderState) (new : S) : Type 0 where
  pub feeds : (fed : List ℕ) → HasFed before fed → Feeds gives before.how fed piece old answer new
  pub fed : OnOk answer ((fed : List ℕ) → HasFed before fed → HasFed after (fed ++ piece))
  pub how : after.how ≡ before.how

-- How reading the bytes stops with an error, after a sink was handed `before`: the sink refused an item, whatever comes after the
-- bytes; or it took all that is read whatever follows, and the error holds whatever comes after.
pub data Stops {S : Type 0} (gives : S → CharItem → Result (Unit {0}) Refusal → S → Type 0) (how : Policy)
    (before : List Read) (bytes : List ℕ) (old : S) (e : Refusal) (new : S) : Type 0 where
  by_sink : ((more : List ℕ) → HandsOn gives before (decoded how (bytes ++ more)) old (Err e) new)
      → Stops gives how before bytes old e new
  by_bytes : HandsOn gives before (settled how bytes) old (Ok tt) new → DecodingIsRefusedFrom how bytes e
      → Stops gives how before bytes old e new

-- What reading on does with bytes that are left of all, of which `read` were read: all are read that are whatever follows, up to `next`.
abbrev pub Advances : {S : Type 0} → (S → CharItem → Result (Unit {0}) Refusal → S → Type 0) → Policy → ℕ → List ℕ → List ℕ
    → S → Result ℕ Refusal → ℕ → Bool → S → Type 0
Advances gives how read all bytes old answer next after_return new =
    let before = text_of how.bom (take read all) in
    MatchResult answer
    (λ count. HandsOn gives before (settled how all) old (Ok tt) new × DecoderHasRead how next after_return all
    × (drop count bytes ≡ drop next all) × IsUndecided how all)
    (λ e. Stops gives how before all old e new)

-- what is answered where nothing more comes
abbrev pub answer_at_end : Option Refusal → Result (Unit {0}) Refusal
answer_at_end None = Ok tt
answer_at_end (Some refusal) = Err refusal

-- What the end of the input does, after these bytes: the sink refused an item of what was held, and that is the answer; or it took
-- all that is read of the bytes, and the answer is theirs.
pub data EndsDecoding {S : Type 0} (gives : S → CharItem → Result (Unit {0}) Refusal → S → Type 0) (how : Policy)
    (fed : List ℕ) (old : S) (answer : Result (Unit {0}) Refusal) (new : S) : Type 0 where
  end_refused : (e : Refusal) → answer ≡ Err e → HandsOn gives (settled how fed) (decoded how fed) old (Err e) new
      → EndsDecoding gives how fed old answer new
  end_reached : HandsOn gives (settled how fed) (decoded how fed) old (Ok tt) new → answer ≡ answer_at_end (refusal_of how fed)
      → EndsDecoding gives how fed old answer new
