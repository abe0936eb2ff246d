-- The table of character references that bytes say.
use Rattle.std.specs.Prelude.{◌≡◌, ◌==◌, if◌then◌else◌, ℕ, List, [], ◌∷◌, length, nat_le, Result, Ok, Err}
use Rattle.std.specs.Str.{IsUtf8}
use Rattle.names.specs.declared.refusal.Refusal.TheVariants.{BadTable, Memory}
use Rattle.names.specs.declared.refusal.TableFault.{TableFault}
use Rattle.names.specs.declared.refusal.TableFault.TheVariants.{Shape}
use Rattle.charref.specs.Flat.{flat_of, IsReadable}
use Rattle.charref.specs.Reading.{table_of_json}
use Rattle.charref.specs.Reference.{Entities, core}
use Rattle.html_c.specs.Room.{fault_answer, put_over, room_answer}
use Rattle.html_c.specs.declared.answer.Answer.{Answer}
use Rattle.html_c.specs.declared.fault.CallFault.{CallFault}
use Rattle.html_c.specs.declared.fault.CallFault.TheVariants as fault

-- The form of a table's bytes: none are the core table, a first byte 1 begins a flat form, and others are JSON.
pub data TableForm : Type 0 where
  Core : TableForm
  Flat : TableForm
  Json : TableForm

abbrev pub table_form : List ℕ → TableForm
table_form [] = Core
table_form (b ∷ bs) = if b == 1 then Flat else Json

-- This is the table that bytes of a form say.
abbrev pub IsTableOf : TableForm → List ℕ → Entities → Type 0
IsTableOf Core bytes table = table ≡ core
IsTableOf Flat bytes table = IsReadable table × (flat_of table ≡ bytes)
IsTableOf Json bytes table = table_of_json bytes ≡ Ok table

-- The outcome of reading them: the table, or why there is none.
pub data ReadsTableBytes (bytes : List ℕ) (answer : Result Entities CallFault) : Type 0 where
  table_read : (table : Entities) → IsTableOf (table_form bytes) bytes table → answer ≡ Ok table → ReadsTableBytes bytes answer
  table_ran_out : answer ≡ Err (fault.Refused Memory) → ReadsTableBytes bytes answer
  no_flat : table_form bytes ≡ Flat → ((table : Entities) → IsReadable table → flat_of table ≡ bytes → ⊥)
      → answer ≡ Err (fault.Refused (BadTable Shape)) → ReadsTableBytes bytes answer
  no_json : (cause : TableFault) → table_form bytes ≡ Json → table_of_json bytes ≡ Err cause → answer ≡ Err (fault.Refused (BadTable cause))
      → ReadsTableBytes bytes answer
  no_text : table_form bytes ≡ Json → (IsUtf8 bytes → ⊥) → answer ≡ Err fault.NotText → ReadsTableBytes bytes answer

-- The flat form of the table is written where it fits, and its length is answered; or why there is no table, and nothing is written.
pub data AnswersTable (bytes : List ℕ) (old new : List ℕ) (answer : Answer) : Type 0 where
  table_answered : (table : Entities) → ReadsTableBytes bytes (Ok table) → IsReadable table
      → new ≡ put_over (nat_le (length (flat_of table)) (length old)) (flat_of table) old
      → answer ≡ room_answer (nat_le (length (flat_of table)) (length old)) (length (flat_of table)) 0 → AnswersTable bytes old new answer
  no_table_answered : (why : CallFault) → ReadsTableBytes bytes (Err why) → new ≡ old → answer ≡ fault_answer why → AnswersTable bytes old new answer
