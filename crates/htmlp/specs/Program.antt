-- What the program does in its surroundings. Of a reader `left` says the bytes that it has left, where it says, and of a writer `written`
-- those that it has taken; `failed` says how many of their calls have failed.
use Rattle.std.specs.Prelude.{◌≡◌, ◌⊎◌, ◌||◌, ℕ, Bool, List, [], true, false, Option, None, Some, Result, Ok, Err, IfSome, MatchResult, option_map, codes}
use Rattle.std.specs.Prelude.{IsErrAnd}
use Rattle.clap.specs.Words.{Text, takes}
use Rattle.names.specs.declared.refusal.Refusal.{Refusal}
use Rattle.names.specs.declared.refusal.Refusal.TheVariants.{Memory, Read, BadContext}
use Rattle.charref.specs.Reference.{Entities, core}
use Rattle.charref.specs.Reading.{table_of_json, IsRefusedWith}
use Rattle.hmarkup.specs.Quirks.{QuirkLine, ReadsQuirks}
use Rattle.htext.specs.declared.decoder.TheConstants.{MAX_INPUT}
use Rattle.hmodes.specs.Bounds.{AreLimits, Bounds}
use Rattle.hwrite.specs.declared.command.Task.{Task}
use Rattle.hserialize.specs.declared.escaping.Escaping.{Escaping}
use Rattle.hserialize.specs.Output.{WritesText}
use Rattle.hwrite.specs.Calls.{EndsWith}
use Rattle.hwrite.specs.declared.command.Command.{Command}
use Rattle.hparse.specs.declared.options.Options.{Options}
use Rattle.hparse.specs.Parse.{ParseOptions}
use Rattle.hparse.specs.Parsing.{options_of}
use Rattle.hwrite.specs.Context.{AllowsContext}
use Rattle.hwrite.specs.Running.{RunsTask}
use Rattle.htmlp.specs.declared.fault.Fault.{Fault}
use Rattle.htmlp.specs.declared.fault.Fault.TheVariants as fault
use Rattle.htmlp.specs.Ending.{ending_text, exit_status}
use Rattle.htmlp.specs.Fault.{IsLimitFault, IsRefusalOf, IsUnread}
use Rattle.htmlp.specs.Line.{program, task_of, option_value, asks_explanation, asks_version, escaping_of, number_or, bad_bytes_of, AreGood, FaultOf}
use Rattle.htmlp.specs.World.{World}
use Rattle.htmlp.specs.declared.program.TheConstants.{VERSION}

-- what a run of the engine, over what has this name, is for the program
abbrev pub IsOutcome : Option Text → Result (Unit {0}) Refusal → Result (Unit {0}) Fault → Type 0
IsOutcome name (Ok _) outcome = outcome ≡ Ok tt
IsOutcome name (Err refusal) outcome = IsErrAnd outcome (IsRefusalOf name refusal)

-- what the program is to do, with what
pub record CommandOptions : Type 0 where
  pub task : Task
  pub context : Option Text
  pub escaping : Escaping
  pub piece : ℕ
  pub settings : ParseOptions

abbrev pub told_of : Command → Options → CommandOptions
told_of command options = record {
  task = command.task;
  context = option_map (λ s. s.now) command.context;
  escaping = command.escaping;
  piece = command.piece;
  settings = options_of options;
}

-- the most bytes, the most nodes, and the most open elements
abbrev pub limits_of : List Text → Bounds
limits_of words = record {
  input = MAX_INPUT;
  tree = record { nodes = number_or 16777216 (option_value words (codes "nodes")); depth = number_or 1048576 (option_value words (codes "open")) };
}

-- The engine ran over an input of this name.
abbrev pub AnswersInput : {S W : Type 0} → (S → Option (List ℕ)) → (S → ℕ) → (W → Option (List ℕ)) → (W → ℕ) → CommandOptions → Text → S → S → W → W
    → Result (Unit {0}) Fault
    → Type 0
AnswersInput left reads written writes opts name source source' target target' outcome =
    (answer : Result (Unit {0}) Refusal)
    × RunsTask left reads written writes opts.escaping opts.task opts.context opts.settings opts.piece source source' target target' answer
    × IsOutcome (Some name) answer outcome

-- The version was written.
pub record WritesVersion {W : Type 0} (written : W → Option (List ℕ)) (writes : W → ℕ) (target target' : W) (outcome : Result (Unit {0}) Fault) : Type 0 where
  pub answer : Result (Unit {0}) Refusal
  pub writes_text : WritesText written writes VERSION.now target target' answer
  pub outcome_is : IsOutcome None answer outcome

-- what is read of the text of a table of character references
abbrev pub ReadsTable : List ℕ → Result Entities Refusal → Type 0
ReadsTable text answer = MatchResult answer (λ table. table_of_json text ≡ Ok table) (IsRefusedWith (table_of_json text))

module _ {R F : Type 0} (world : World R F) where
  -- What is found of a list: what is read of the text of the named file, or the default, or why there is none.
  abbrev pub FindsFile : {A : Type 0} → A → (List ℕ → Result A Refusal → Type 0) → R → Option Text → Result A Fault → Type 0
  FindsFile default reads surroundings None (Ok found) = found ≡ default
  FindsFile default reads surroundings None (Err why) = IsRefusalOf None Memory why
  FindsFile default reads surroundings (Some name) (Ok found) = (text : List ℕ) × world.has_text surroundings name text × reads text (Ok found)
  FindsFile default reads surroundings (Some name) (Err why) = (world.lacks_text surroundings name why × IsUnread name why)
      ⊎ ((text : List ℕ) × (refusal : Refusal) × world.has_text surroundings name text × reads text (Err refusal) × IsRefusalOf (Some name) refusal why)

  -- the table of character references, or the core table; the quirks list, or the empty one
  abbrev pub FindsTable : R → Option Text → Result Entities Fault → Type 0
  FindsTable = FindsFile core ReadsTable

  abbrev pub FindsQuirks : R → Option Text → Result (List QuirkLine) Fault → Type 0
  FindsQuirks = FindsFile [] ReadsQuirks

  -- What the words say, where all that they name is found and accepted.
  pub record TellsOptions (surroundings : R) (words : List Text) (opts : CommandOptions) : Type 0 where
    pub task : task_of words ≡ Some opts.task
    pub context : opts.context ≡ option_value words (codes "in")
    pub allowed : AllowsContext opts.context
    pub escaping : opts.escaping ≡ escaping_of (number_or 1 (option_value words (codes "escape")))
    pub piece : opts.piece ≡ number_or 65536 (option_value words (codes "piece"))
    pub table : FindsTable surroundings (option_value words (codes "entities")) (Ok opts.settings.table)
    pub quirks : FindsQuirks surroundings (option_value words (codes "quirks")) (Ok opts.settings.quirks)
    pub bad_bytes : bad_bytes_of (option_value words (codes "bad-bytes")) ≡ Some opts.settings.bad
    pub input_limit : opts.settings.input ≡ (limits_of words).input
    pub limits : opts.settings.limits ≡ (limits_of words).tree
    pub in_range : AreLimits (limits_of words)

  -- The first of the things that the words name that is not found or not accepted.
  pub data FirstFault (surroundings : R) (words : List Text) (why : Fault) : Type 0 where
    no_table : FindsTable surroundings (option_value words (codes "entities")) (Err why) → FirstFault surroundings words why
    no_quirks : (table : Entities) → FindsTable surroundings (option_value words (codes "entities")) (Ok table)
        → FindsQuirks surroundings (option_value words (codes "quirks")) (Err why) → FirstFault surroundings words why
    no_limits : (table : Entities) (quirks : List QuirkLine) → FindsTable surroundings (option_value words (codes "entities")) (Ok table)
        → FindsQuirks surroundings (option_value words (codes "quirks")) (Ok quirks)
        → (AreLimits (limits_of words) → ⊥) → IsLimitFault (limits_of words).tree why → FirstFault surroundings words why
    no_context : (table : Entities) (quirks : List QuirkLine) → FindsTable surroundings (option_value words (codes "entities")) (Ok table)
        → FindsQuirks surroundings (option_value words (codes "quirks")) (Ok quirks) → AreLimits (limits_of words)
        → (AllowsContext (option_value words (codes "in")) → ⊥) → IsRefusalOf (option_value words (codes "in")) BadContext why
        → FirstFault surroundings words why

module _ {R F : Type 0} (world : World R F) (left_in_file : F → Option (List ℕ)) (failed_in_file : F → ℕ) where
  -- The engine ran over the file of this name, or that cannot be opened.
  pub data AnswersFile {W : Type 0} (written : W → Option (List ℕ)) (writes : W → ℕ)
      (opts : CommandOptions) (surroundings : R) (name : List ℕ) (output output' : W)
      (outcome : Result (Unit {0}) Fault) : Type 0 where
    file_missing : world.cannot_open surroundings name → IsOutcome (Some name) (Err Read) outcome → output' ≡ output
        → AnswersFile written writes opts surroundings name output output' outcome
    file_answered : (file file' : F) → world.opens surroundings name file
        → AnswersInput left_in_file failed_in_file written writes opts name file file' output output' outcome
        → AnswersFile written writes opts surroundings name output output' outcome

  module _ {S W : Type 0} (left : S → Option (List ℕ)) (reads : S → ℕ) (written : W → Option (List ℕ)) (writes : W → ℕ) where
    -- What these words say is done.
    pub data AnswersWords (surroundings : R) (words : List Text) (input input' : S) (output output' : W)
        (outcome : Result (Unit {0}) Fault) : Type 0 where
      -- the words are wrong or ask for help; where they are right memory ran out
      words_refused : (why : Fault) → outcome ≡ Err why → FaultOf words why
          → (takes program words ≡ true → AreGood (option_value words) → why ≡ fault.Memory) → input' ≡ input → output' ≡ output
          → AnswersWords surroundings words input input' output output' outcome
      -- something that they name is not there, or is refused
      words_without : (why : Fault) → FirstFault world surroundings words why → outcome ≡ Err why → input' ≡ input → output' ≡ output
          → AnswersWords surroundings words input input' output output' outcome
      -- they name a file
      words_with_file : (opts : CommandOptions) (name : Text) → TellsOptions world surroundings words opts
          → option_value words (codes "file") ≡ Some name
          → AnswersFile written writes opts surroundings name output output' outcome → input' ≡ input
          → AnswersWords surroundings words input input' output output' outcome
      -- they name none: the input is the standard input
      words_without_file : (opts : CommandOptions) → TellsOptions world surroundings words opts → option_value words (codes "file") ≡ None
          → AnswersInput left reads written writes opts (codes "standard input") input input' output output' outcome
          → AnswersWords surroundings words input input' output output' outcome

-- A fault is explained where standard error is a terminal, and where the words ask for it.
pub record IsExplained {R F : Type 0} (world : World R F) (surroundings : R) (words : List Text) (explains : Bool) : Type 0 where
  pub terminal : Bool
  pub told : world.is_terminal surroundings terminal
  pub explains_is : explains ≡ (terminal || asks_explanation words)

module _ {R F S W : Type 0} (world : World R F) (left_in_file : F → Option (List ℕ)) (failed_in_file : F → ℕ) (left : S → Option (List ℕ))
    (reads : S → ℕ) (written : W → Option (List ℕ)) (writes : W → ℕ) where
  -- What the command line says is done.
  pub data ProgramAnswers (surroundings : R) (input input' : S) (output output' : W) (outcome : Result (Unit {0}) Fault) : Type 0 where
    line_missing : (why : Fault) → world.cannot_begin surroundings why → outcome ≡ Err why → input' ≡ input → output' ≡ output
        → ProgramAnswers surroundings input input' output output' outcome
    line_for_version : (words : List Text) → world.has_words surroundings words → asks_version words ≡ true
        → WritesVersion written writes output output' outcome → input' ≡ input
        → ProgramAnswers surroundings input input' output output' outcome
    line_answered : (words : List Text) → world.has_words surroundings words → asks_version words ≡ false
        → AnswersWords world left_in_file failed_in_file left reads written writes surroundings words input input' output output' outcome
        → ProgramAnswers surroundings input input' output output' outcome

  -- Whether a fault is explained: not where there are no words.
  pub data Explains (surroundings : R) (outcome : Result (Unit {0}) Fault) (explains : Bool) : Type 0 where
    without_words : (why : Fault) → world.cannot_begin surroundings why → outcome ≡ Err why → explains ≡ false
        → Explains surroundings outcome explains
    with_words : (words : List Text) → world.has_words surroundings words → IsExplained world surroundings words explains
        → Explains surroundings outcome explains

  -- The program does what its command line says, writes the lines of its ending to standard error, and returns its status.
  pub record EndsProgram {E : Type 0} (errors_written : E → Option (List ℕ)) (errors_failed : E → ℕ) (surroundings : R)
      (input input' : S) (output output' : W) (errors errors' : E) (status : ℕ) : Type 0 where
    pub outcome : Result (Unit {0}) Fault
    pub answered : ProgramAnswers surroundings input input' output output' outcome
    pub explains : Bool
    pub explains_is : Explains surroundings outcome explains
    pub told : IfSome (ending_text explains outcome) (EndsWith (errors_written errors) (errors_failed errors) (errors_written errors') (errors_failed errors'))
    pub status_is : status ≡ exit_status outcome

-- The program ran, and this was its status.
pub record HasRun {R F S W E : Type 0} (world : World R F) (left_in_file : F → Option (List ℕ)) (failed_in_file : F → ℕ)
    (left : S → Option (List ℕ)) (reads : S → ℕ) (written : W → Option (List ℕ)) (writes : W → ℕ)
    (errors_written : E → Option (List ℕ)) (errors_failed : E → ℕ) (surroundings : R) (status : ℕ) : Type 0 where
  pub input : S × S
  pub output : W × W
  pub errors : E × E
  pub ends : EndsProgram world left_in_file failed_in_file left reads written writes errors_written errors_failed surroundings input.0 input.1
      output.0 output.1 errors.0 errors.1 status
