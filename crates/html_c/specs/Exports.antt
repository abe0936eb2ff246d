-- What the exports promise.
use Rattle.std.specs.Prelude.{◌≡◌, ℕ, Bool, true, ◌&&◌, List, length, nat_le, Some, Result, Ok, Err}
use Rattle.names.specs.declared.refusal.Refusal.{Refusal}
use Rattle.names.specs.declared.refusal.Refusal.TheVariants.{Memory}
use Rattle.hnodes.specs.Forest.{children_of}
use Rattle.hparse.specs.Parse.{Parse, Parses, ParseCase, ParseOptions, root_of}
use Rattle.hwrite.specs.Context.{case_in}
use Rattle.hwrite.specs.Prints.{prints_of}
use Rattle.hwrite.specs.declared.command.Task.{Task}
use Rattle.hserialize.specs.declared.escaping.Escaping.{Escaping}
use Rattle.html_c.specs.Given.{context_told, escaping_told, may_be_in, task_told, GivesNothing, NoCommand, Tells, Unmet}
use Rattle.html_c.specs.Room.{fault_answer, put_over, room_answer}
use Rattle.html_c.specs.Rows.{rows_of, words_of}
use Rattle.html_c.specs.declared.answer.Answer.{Answer}
use Rattle.html_c.specs.declared.answer.Given.{Given}
use Rattle.html_c.specs.declared.answer.NodeRow.{NodeRow}
use Rattle.html_c.specs.declared.fault.CallFault.{CallFault}
use Rattle.html_c.specs.declared.fault.CallFault.TheVariants as fault

-- Why nothing comes of bytes: memory ran out, or they are refused.
pub data ComesToNone {A : Type 0} (answers : List ℕ → Result A Refusal → Type 0) (bytes : List ℕ) (refusal : Refusal) : Type 0 where
  none_for_memory : refusal ≡ Memory → ComesToNone answers bytes refusal
  none_of_bytes : answers bytes (Err refusal) → ComesToNone answers bytes refusal

-- what a task prints of bytes, which is the text that the program prints
abbrev pub prints : Task → Escaping → Given → ParseOptions → List ℕ → Result (List ℕ) Refusal → Type 0
prints task how given opts = prints_of how task (context_told given.context.now) opts

-- What is given is accepted, and this is the text of the task.
pub record GivesText (number : ℕ) (input : List ℕ) (given : Given) (text : List ℕ) : Type 0 where
  pub task : Task
  pub how : Escaping
  pub opts : ParseOptions
  pub task_is : task_told number ≡ Some task
  pub placed : may_be_in number (context_told given.context.now) ≡ true
  pub how_is : escaping_told given.escaping ≡ Some how
  pub tells : Tells given opts
  pub text_is : prints task how given opts input (Ok text)

-- There is no text, for this reason.
pub data GivesNone (number : ℕ) (input : List ℕ) (given : Given) (why : CallFault) : Type 0 where
  no_command : NoCommand number given why → GivesNone number input given why
  comes_to_none : (task : Task) (how : Escaping) (opts : ParseOptions) (refusal : Refusal) → task_told number ≡ Some task
      → may_be_in number (context_told given.context.now) ≡ true → escaping_told given.escaping ≡ Some how → Tells given opts
      → ComesToNone (prints task how given opts) input refusal → why ≡ fault.Refused refusal → GivesNone number input given why

-- The text is written where it fits, and its length is answered; or why there is none, and nothing is written.
pub data AnswersText (number : ℕ) (input : List ℕ) (given : Given) (old new : List ℕ) (answer : Answer) : Type 0 where
  text_answered : (text : List ℕ) → GivesText number input given text → new ≡ put_over (nat_le (length text) (length old)) text old
      → answer ≡ room_answer (nat_le (length text) (length old)) (length text) 0 → AnswersText number input given old new answer
  none_answered : (why : CallFault) → GivesNothing given.size (GivesNone number input given) why → new ≡ old → answer ≡ fault_answer why
      → AnswersText number input given old new answer

-- what the input is: a document, or a fragment in an element of this name
abbrev pub case_given : Given → ParseCase
case_given given = case_in (context_told given.context.now)

-- What is given is accepted, and these are the rows and the words of the tree: of the nodes in the document, or in a fragment's root.
pub record GivesRows (input : List ℕ) (given : Given) (rows : List NodeRow) (words : List ℕ) : Type 0 where
  pub opts : ParseOptions
  pub tells : Tells given opts
  pub parse : Parse
  pub parses : Parses opts (case_given given) input (Ok parse)
  pub rows_are : rows ≡ rows_of (root_of (case_given given)) (children_of (root_of (case_given given)) parse.trees)
  pub words_are : words ≡ words_of (children_of (root_of (case_given given)) parse.trees)

-- There is no tree, for this reason.
pub data GivesNoRows (input : List ℕ) (given : Given) (why : CallFault) : Type 0 where
  unmet_rows : Unmet given why → GivesNoRows input given why
  no_rows : (opts : ParseOptions) (refusal : Refusal) → Tells given opts
      → ComesToNone (Parses opts (case_given given)) input refusal → why ≡ fault.Refused refusal
      → GivesNoRows input given why

-- whether rows and words fit their rooms
abbrev pub fit : List NodeRow → List NodeRow → List ℕ → List ℕ → Bool
fit rows row_room words word_room = nat_le (length rows) (length row_room) && nat_le (length words) (length word_room)

-- The rows and the words are written where all of them fit, and how many there are is answered; or why there are none, and nothing is written.
pub data AnswersTree (input : List ℕ) (given : Given) (rows rows' : List NodeRow) (words words' : List ℕ) (answer : Answer) : Type 0 where
  tree_answered : (its_rows : List NodeRow) (its_words : List ℕ) → GivesRows input given its_rows its_words
      → rows' ≡ put_over (fit its_rows rows its_words words) its_rows rows → words' ≡ put_over (fit its_rows rows its_words words) its_words words
      → answer ≡ room_answer (fit its_rows rows its_words words) (length its_words) (length its_rows) → AnswersTree input given rows rows' words words' answer
  no_tree_answered : (why : CallFault) → GivesNothing given.size (GivesNoRows input given) why → rows' ≡ rows → words' ≡ words
      → answer ≡ fault_answer why → AnswersTree input given rows rows' words words' answer
