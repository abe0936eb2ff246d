-- What reading an input from a reader does. `left` says the bytes that the reader has left, where it says, and `failed` how many
-- of its calls have failed; `answers` says which are the answers of an input's bytes, and `unrefused` that no run refuses them,
-- whatever follows.
use Rattle.std.specs.Prelude.{◌≡◌, ℕ, ◌≤◌, List, ◌++◌, length, Option, Result, Err}
use Rattle.std.specs.Io.KnownBytes.{Consumes, IsAtEnd}
use Rattle.names.specs.declared.refusal.Refusal.{Refusal}
use Rattle.names.specs.declared.refusal.Refusal.TheVariants.{Memory, Read}
use Rattle.hserialize.specs.Calls.{counted}

-- A reader gave these bytes, the first that it had left, and none of its calls failed.
pub record Gave {S : Type 0} (left : S → Option (List ℕ)) (failed : S → ℕ) (old new : S) (bytes : List ℕ) : Type 0 where
  pub given : Consumes (left old) (left new) bytes
  pub unfailed : failed new ≡ failed old

-- The input is refused, whatever bytes follow these.
abbrev pub IsRefusedFrom : {R : Type 0} → (List ℕ → Result R Refusal → Type 0) → List ℕ → Refusal → Type 0
IsRefusedFrom answers bytes refusal = (more : List ℕ) → answers (bytes ++ more) (Err refusal)

-- What reading an input to its end does, in pieces of at most this many bytes, after the bytes that were fed before. `holds` says what
-- is so where a read failed after these bytes, and `ran_out` what is where memory ran out, if the answers do not say it.
pub data ReadsTo {S R : Type 0} (left : S → Option (List ℕ)) (failed : S → ℕ) (answers : List ℕ → Result R Refusal → Type 0)
    (unrefused holds : List ℕ → Type 0) (ran_out : Type 0) (piece : ℕ) (fed : List ℕ) (old new : S) (answer : Result R Refusal) : Type 0 where
  -- memory ran out
  reading_ran_out : ran_out → failed new ≡ failed old → ReadsTo left failed answers unrefused holds ran_out piece fed old new answer
  -- a read failed, before anything was refused, and none was tried after it
  reading_failed : (bytes : List ℕ) → answer ≡ Err Read → holds (fed ++ bytes) → Consumes (left old) (left new) bytes
      → failed new ≡ counted (failed old) → ReadsTo left failed answers unrefused holds ran_out piece fed old new answer
  -- reading stopped after the piece that brought a refusal
  reading_stopped : (refusal : Refusal) (before last : List ℕ) → answer ≡ Err refusal → unrefused (fed ++ before)
      → Gave left failed old new (before ++ last)
      → IsRefusedFrom answers (fed ++ (before ++ last)) refusal → length last ≤ piece
      → ReadsTo left failed answers unrefused holds ran_out piece fed old new answer
  -- the input was read to its end
  read_to_end : (bytes : List ℕ) → unrefused (fed ++ bytes) → Gave left failed old new bytes → IsAtEnd (left new) → answers (fed ++ bytes) answer
      → ReadsTo left failed answers unrefused holds ran_out piece fed old new answer

-- the same, where no more is said of a failed read, and of memory that ran out, than that it was so
abbrev pub ReadsInput : {S R : Type 0} → (S → Option (List ℕ)) → (S → ℕ) → (List ℕ → Result R Refusal → Type 0) → (List ℕ → Type 0)
    → ℕ → List ℕ → S → S → Result R Refusal → Type 0
ReadsInput left failed answers unrefused piece fed old new answer =
    ReadsTo left failed answers unrefused unrefused (answer ≡ Err Memory) piece fed old new answer
