-- What a run over a reader and a writer does. Of a reader `left` says the bytes that it has left, where it says, and `failed`
-- how many of its calls have failed; of a writer `written` says the bytes that it has taken, where it says. `prints` says what is
-- printed of an input's bytes: a text, or nothing where they are refused; `unrefused` that no run refuses them, whatever follows.
use Rattle.std.specs.Prelude.{◌≡◌, ◌⊎◌, ℕ, ◌≤◌, List, [], ◌++◌, length, Option, Result, Ok, Err}
use Rattle.std.specs.Io.KnownBytes.{Keeps, Appends, Consumes, IsAtEnd}
use Rattle.names.specs.declared.refusal.Refusal.{Refusal}
use Rattle.names.specs.declared.refusal.Refusal.TheVariants.{Memory, Read, Write, BadContext}
use Rattle.hserialize.specs.Calls.{counted}
use Rattle.hparse.specs.Reader.{Gave, IsRefusedFrom}
use Rattle.hparse.specs.Parse.{ParseOptions}
use Rattle.hparse.specs.declared.parser.Parser.{Parser}
use Rattle.hparse.specs.Parsing.{HasParsed}
use Rattle.hwrite.specs.declared.command.Task.{Task}
use Rattle.hserialize.specs.declared.escaping.Escaping.{Escaping}
use Rattle.hwrite.specs.Context.{AllowsContext, case_in}
use Rattle.hwrite.specs.Prints.{prints_of, context_of, unrefused_of}

-- nothing was written, and no call of the writer has failed
pub record WritesNothing {W : Type 0} (written : W → Option (List ℕ)) (failed : W → ℕ) (old new : W) : Type 0 where
  pub kept : Keeps (written old) (written new)
  pub unfailed : failed new ≡ failed old

-- What a run does that reads pieces of at most this many bytes.
pub data Runs {S W : Type 0} (left : S → Option (List ℕ)) (failed_reads : S → ℕ) (written : W → Option (List ℕ)) (failed_writes : W → ℕ)
    (prints : List ℕ → Result (List ℕ) Refusal → Type 0) (unrefused : List ℕ → Type 0) (piece : ℕ) (source source' : S) (target target' : W)
    (answer : Result (Unit {0}) Refusal) : Type 0 where
  -- memory ran out
  run_ran_out : answer ≡ Err Memory → failed_reads source' ≡ failed_reads source → WritesNothing written failed_writes target target'
      → Runs left failed_reads written failed_writes prints unrefused piece source source' target target' answer
  -- a read failed, before anything was refused, and none was tried after it
  read_failed : (bytes : List ℕ) → answer ≡ Err Read → unrefused bytes → Consumes (left source) (left source') bytes
      → failed_reads source' ≡ counted (failed_reads source) → WritesNothing written failed_writes target target'
      → Runs left failed_reads written failed_writes prints unrefused piece source source' target target' answer
  -- reading stopped after the piece that brought a refusal
  stopped : (refusal : Refusal) (before last : List ℕ) → answer ≡ Err refusal → unrefused before
      → Gave left failed_reads source source' (before ++ last)
      → IsRefusedFrom prints (before ++ last) refusal → length last ≤ piece → WritesNothing written failed_writes target target'
      → Runs left failed_reads written failed_writes prints unrefused piece source source' target target' answer
  -- the input was read to its end, and is refused
  refused : (refusal : Refusal) (bytes : List ℕ) → answer ≡ Err refusal → unrefused bytes → Gave left failed_reads source source' bytes
      → IsAtEnd (left source')
      → prints bytes (Err refusal) → WritesNothing written failed_writes target target'
      → Runs left failed_reads written failed_writes prints unrefused piece source source' target target' answer
  -- a write failed, after the input was read to its end and a beginning of its text was written
  write_failed : (bytes beginning rest : List ℕ) → answer ≡ Err Write → Gave left failed_reads source source' bytes → IsAtEnd (left source')
      → prints bytes (Ok (beginning ++ rest)) → Appends (written target) (written target') beginning → failed_writes target' ≡ counted (failed_writes target)
      → Runs left failed_reads written failed_writes prints unrefused piece source source' target target' answer
  -- the input was read to its end, and its text was written
  wrote : (bytes text : List ℕ) → answer ≡ Ok tt → Gave left failed_reads source source' bytes → IsAtEnd (left source')
      → prints bytes (Ok text) → Appends (written target) (written target') text → failed_writes target' ≡ failed_writes target
      → Runs left failed_reads written failed_writes prints unrefused piece source source' target target' answer

-- The same of an input that is in this element, or is a document: an element that is not allowed is refused before anything is read.
pub data RunsIn {S W : Type 0} (left : S → Option (List ℕ)) (failed_reads : S → ℕ) (written : W → Option (List ℕ)) (failed_writes : W → ℕ)
    (context : Option (List ℕ)) (prints : List ℕ → Result (List ℕ) Refusal → Type 0) (unrefused : List ℕ → Type 0) (piece : ℕ)
    (source source' : S) (target target' : W) (answer : Result (Unit {0}) Refusal) : Type 0 where
  context_refused : (AllowsContext context → ⊥) → answer ≡ Err BadContext → source' ≡ source → target' ≡ target
      → RunsIn left failed_reads written failed_writes context prints unrefused piece source source' target target' answer
  ran : AllowsContext context → Runs left failed_reads written failed_writes prints unrefused piece source source' target target' answer
      → RunsIn left failed_reads written failed_writes context prints unrefused piece source source' target target' answer

-- what a run of a task does
abbrev pub RunsTask : {S W : Type 0} → (S → Option (List ℕ)) → (S → ℕ) → (W → Option (List ℕ)) → (W → ℕ) → Escaping → Task → Option (List ℕ)
    → ParseOptions → ℕ → S → S → W → W → Result (Unit {0}) Refusal → Type 0
RunsTask left failed_reads written failed_writes escaping task context opts piece =
    RunsIn left failed_reads written failed_writes (context_of task context) (prints_of escaping task context opts) (unrefused_of task context opts) piece

-- What beginning a parse does in this element, or of a document: memory runs out, where the element is allowed.
abbrev pub ParserBeginsIn : ParseOptions → Option (List ℕ) → Result Parser Refusal → Type 0
ParserBeginsIn opts context (Ok parser) = AllowsContext context × HasParsed opts (case_in context) parser []
ParserBeginsIn opts context (Err e) = (AllowsContext context × (e ≡ Memory)) ⊎ ((AllowsContext context → ⊥) × (e ≡ BadContext))
