-- What writes do to the bytes that a target has taken, where these are known, and to its count of failed calls.
use Rattle.std.specs.Prelude.{◌≡◌, ◌≢◌, ℕ, List, [], ◌++◌, Option, Result, Ok, Err}
use Rattle.std.specs.Io.KnownBytes.{Appends, Keeps}
use Rattle.names.specs.declared.refusal.Refusal.{Refusal}
use Rattle.names.specs.declared.refusal.Refusal.TheVariants.{Memory, Write}
use Rattle.hserialize.specs.Calls.{counted}
use Rattle.hserialize.specs.declared.writer.Writer.{Writer}

-- They grow by a beginning of the bytes, and some bytes are left.
abbrev pub AppendsBeginning : Option (List ℕ) → Option (List ℕ) → List ℕ → Type 0
AppendsBeginning old new bytes = (done : List ℕ) × (rest : List ℕ) × (bytes ≡ done ++ rest) × (rest ≢ []) × Appends old new done

-- What writing a text does by way of a buffer.
pub data WritesText {W : Type 0} (written : W → Option (List ℕ)) (failed : W → ℕ) (text : List ℕ) (old new : W)
    (answer : Result (Unit {0}) Refusal) : Type 0 where
  -- there was no memory for the buffer
  no_buffer : answer ≡ Err Memory → Keeps (written old) (written new) → failed new ≡ failed old → WritesText written failed text old new answer
  -- a call failed after a beginning of the text
  text_cut : (beginning rest : List ℕ) → answer ≡ Err Write → text ≡ beginning ++ rest → Appends (written old) (written new) beginning
      → failed new ≡ counted (failed old)
      → WritesText written failed text old new answer
  -- it was written
  text_written : answer ≡ Ok tt → Appends (written old) (written new) text → failed new ≡ failed old → WritesText written failed text old new answer

-- The last call of a target was a flush that succeeded.
abbrev pub IsFlushed : {W : Type 0} → (W → W → Type 0) → W → Type 0
IsFlushed {W} flushes target = (before : W) × flushes before target

-- what a target says of itself, which one it is, and the bytes that are held for it
pub record Taken : Type 0 where
  pub name : ℕ
  pub bytes : Option (List ℕ)
  pub failures : ℕ
  pub held : List ℕ

abbrev pub written_so_far : {W : Type 0} → (W → Option (List ℕ)) → (W → ℕ) → Writer W → Taken
written_so_far written failed out = record {
  name = out.target.ghost_name;
  bytes = written out.target.now;
  failures = failed out.target.now;
  held = out.held.now.items;
}

-- A writer that holds nothing yet, of the target that has this name and was so.
pub record IsNewWriter {W : Type 0} (name : ℕ) (old : W) (out : Writer W) : Type 0 where
  pub name_is : out.target.ghost_name ≡ name
  pub same : out.target.now ≡ old
  pub none : out.held.now.items ≡ []

-- All of the bytes were taken: what was held and then these were handed over, or are held. No call failed.
pub record AddsBytes (old new : Taken) (bytes : List ℕ) : Type 0 where
  pub name : new.name ≡ old.name
  pub done : List ℕ
  pub split : old.held ++ bytes ≡ done ++ new.held
  pub appended : Appends old.bytes new.bytes done
  pub unfailed : new.failures ≡ old.failures

-- A call failed after a beginning of them, which is the refusal Write.
pub record Fails (refusal : Refusal) (old new : Taken) (bytes : List ℕ) : Type 0 where
  pub why : refusal ≡ Write
  pub name : new.name ≡ old.name
  pub beginning : AppendsBeginning old.bytes new.bytes (old.held ++ bytes)
  pub failed : new.failures ≡ counted old.failures

abbrev pub Puts : Taken → Taken → List ℕ → Result (Unit {0}) Refusal → Type 0
Puts old new bytes (Ok _) = AddsBytes old new bytes
Puts old new bytes (Err refusal) = Fails refusal old new bytes

-- the same of writers
abbrev pub PutsTo : {W : Type 0} → (W → Option (List ℕ)) → (W → ℕ) → Writer W → Writer W → List ℕ → Result (Unit {0}) Refusal → Type 0
PutsTo written failed old new bytes answer = Puts (written_so_far written failed old) (written_so_far written failed new) bytes answer

-- What was held was handed over, or a call failed.
abbrev pub EndsOutput : Taken → Taken → Result (Unit {0}) Refusal → Type 0
EndsOutput old new (Ok _) = (new.name ≡ old.name) × Appends old.bytes new.bytes old.held × (new.failures ≡ old.failures)
EndsOutput old new (Err refusal) = (refusal ≡ Write) × (new.name ≡ old.name)
    × (done : List ℕ) × (rest : List ℕ) × (old.held ≡ done ++ rest) × Appends old.bytes new.bytes done
    × (new.failures ≡ counted old.failures)
