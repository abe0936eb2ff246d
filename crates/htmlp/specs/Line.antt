-- The command line of the program, in the words of `clap`, and what its words say.
use Rattle.std.specs.Prelude.{◌≡◌, ◌⊎◌, ◌||◌, ℕ, ⊤, Bool, true, false, List, [], ◌∷◌, map, Option, None, Some, option_and_then, option_map, bytes_eq}
use Rattle.std.specs.Prelude.{codes, IsSome, ◌==◌, if◌then◌else◌}
use Rattle.std.specs.Str.Parse.{digits_value, without_leading_plus}
use Rattle.clap.specs.Words.{App, IsAmong, IsUnsignedIn, Rule, Text, fault_of, first_of, kind_of, new_app, new_rule, subcommand_of, with_rule, with_subcommand}
use Rattle.clap.specs.declared.builder.action.ArgAction.TheVariants.{SetTrue}
use Rattle.htext.specs.declared.BadBytes.{BadBytes}
use Rattle.htext.specs.declared.BadBytes.TheVariants.{Refuse, Replace}
use Rattle.hserialize.specs.declared.escaping.Escaping.{Escaping}
use Rattle.hserialize.specs.declared.escaping.Escaping.TheVariants.{One, Two}
use Rattle.hwrite.specs.Command.{task_named}
use Rattle.hwrite.specs.declared.command.Task.{Task}
use Rattle.htmlp.specs.declared.commands.Choice.{Choice}
use Rattle.htmlp.specs.declared.commands.CommandEntry.{CommandEntry}
use Rattle.htmlp.specs.declared.commands.Reads.{Reads}
use Rattle.htmlp.specs.declared.commands.Reads.TheVariants.{Document, Either, Fragment, Written}
use Rattle.htmlp.specs.declared.fault.Fault.{Fault}
use Rattle.htmlp.specs.declared.fault.Fault.TheVariants as fault
use Rattle.htmlp.specs.declared.numeric.Numeric.{Numeric}
use Rattle.htmlp.specs.declared.numeric.Numeric.TheVariants as numeric
use Rattle.htmlp.specs.Numeric.{accepted, numeric_name}
use Rattle.htmlp.specs.declared.said.Line.{Line}

-- `[FILE]`
abbrev pub file_rule : Rule
file_rule = record (new_rule (codes "file")) { value_names = 1 }

-- `--NAME VALUE`
abbrev pub option_rule : Text → Rule
option_rule name = record (new_rule name) { long = Some name; value_names = 1 }

-- the rule of an option as the program lists it, which is required or not
abbrev pub choice_rule : Bool → Choice → Rule
choice_rule required choice = record (option_rule choice.name.now) { required = required }

-- the option that names a fragment's context, by what the command reads, and that of escaping
abbrev pub context_rules : Reads → List Rule
context_rules Document = []
context_rules Either = option_rule (codes "in") ∷ []
context_rules Written = option_rule (codes "in") ∷ option_rule (codes "escape") ∷ []
context_rules Fragment = record (option_rule (codes "in")) { required = true } ∷ []

-- the options of each command
abbrev pub each_rules : List Rule
each_rules = map option_rule (codes "piece" ∷ codes "entities" ∷ codes "quirks" ∷ codes "bad-bytes" ∷ codes "nodes" ∷ codes "open" ∷ [])

-- `--explain`
abbrev pub explain_rule : Rule
explain_rule = record (new_rule (codes "explain")) { long = Some (codes "explain"); action = Some SetTrue }

abbrev pub with_rules : List Rule → App → App
with_rules [] app = app
with_rules (rule ∷ rules) app = with_rules rules (with_rule app rule)

-- a command as the program lists it: its name, and what it reads
abbrev pub named_reads : CommandEntry → Text × Reads
named_reads entry = (entry.name.now, entry.reads)

-- a command of this name, with its file and its options
abbrev pub command_app : Text × Reads → App
command_app (name, reads) = with_rule (with_rules each_rules (with_rules (context_rules reads) (with_rule (new_app name) file_rule))) explain_rule

-- the program without its commands, one of which is required
abbrev pub bare_program : App
bare_program = record {
  top = record (new_app (codes "htmlp")).top { subcommand_required = true; disable_help_subcommand = true };
  subs = [];
}

abbrev pub with_commands : List (Text × Reads) → App → App
with_commands [] app = app
with_commands (command ∷ commands) app = with_commands commands (with_subcommand app (command_app command).top)

-- the commands: their names, and what they read
abbrev pub commands : List (Text × Reads)
commands =
    (codes "tokens", Document) ∷ (codes "tree", Document) ∷ (codes "errors", Either) ∷ (codes "write", Written) ∷ (codes "fragment", Fragment)
    ∷ (codes "plain", Fragment) ∷ []

abbrev pub program : App
program = with_commands commands bare_program

-- whether the words are `--version` or `-V` alone, after the program's own name
abbrev pub asks_version : List Text → Bool
asks_version (own ∷ word ∷ []) = bytes_eq word (codes "--version") || bytes_eq word (codes "-V")
asks_version words = false

-- whether a word before `--` is `--explain`
abbrev pub asks_explanation : List Text → Bool
asks_explanation [] = false
asks_explanation (word ∷ words) = if bytes_eq word (codes "--") then false else (bytes_eq word (codes "--explain") || asks_explanation words)

-- the task that the words name
abbrev pub task_of : List Text → Option Task
task_of words = option_and_then (λ command. task_named command.0) (subcommand_of program words)

-- the value of a file or an option of the command that the words name
abbrev pub option_value : List Text → Text → Option Text
option_value words id = option_and_then (λ command. first_of id command.1) (subcommand_of program words)

-- the number that the text writes
abbrev pub parsed_number : Text → ℕ
parsed_number text = digits_value 10 (without_leading_plus text)

-- those of the commands, in the order in which they are read
abbrev pub numeric_options : List Numeric
numeric_options = numeric.Piece ∷ numeric.Nodes ∷ numeric.Open ∷ numeric.Escape ∷ []

-- its value, if there is one, is a number that is read
abbrev pub IsNumber : Numeric → Option Text → Type 0
IsNumber option None = ⊤
IsNumber option (Some text) = IsUnsignedIn (accepted option).0 (accepted option).1 text

-- the number of a value, or this one where there is none
abbrev pub number_or : ℕ → Option Text → ℕ
number_or default None = default
number_or default (Some text) = parsed_number text

-- the way of escaping of a number
abbrev pub escaping_of : ℕ → Escaping
escaping_of number = if number == 2 then Two else One

-- what becomes of bad bytes, by the value of its option; none where that is neither word
abbrev pub bad_bytes_of : Option Text → Option BadBytes
bad_bytes_of None = Some Refuse
bad_bytes_of (Some word) = if bytes_eq word (codes "refuse") then Some Refuse else (if bytes_eq word (codes "replace") then Some Replace else None)

-- each of these options is a number that is read, where it has a value
abbrev pub AreNumbers : (Text → Option Text) → List Numeric → Type 0
AreNumbers value [] = ⊤
AreNumbers value (option ∷ options) = IsNumber option (value (numeric_name option)) × AreNumbers value options

-- a fault says that the value of the option is no such number
abbrev pub IsNumberFault : (Text → Option Text) → Numeric → Fault → Type 0
IsNumberFault value option (fault.Number its text) = (its ≡ option) × (value (numeric_name option) ≡ Some text.now)
IsNumberFault value option _ = ⊥

-- A fault says so of the first of these options whose value is none.
abbrev pub NumberFault : (Text → Option Text) → List Numeric → Fault → Type 0
NumberFault value [] why = ⊥
NumberFault value (option ∷ options) why = ((IsNumber option (value (numeric_name option)) → ⊥) × IsNumberFault value option why)
    ⊎ (IsNumber option (value (numeric_name option)) × NumberFault value options why)

-- All values are as they should be; or a fault says of the first one that is not.
abbrev pub AreGood : (Text → Option Text) → Type 0
AreGood value = AreNumbers value numeric_options × IsSome (bad_bytes_of (value (codes "bad-bytes")))

abbrev pub OptionFault : (Text → Option Text) → Fault → Type 0
OptionFault value why = NumberFault value numeric_options why
    ⊎ (AreNumbers value numeric_options × (bad_bytes_of (value (codes "bad-bytes")) ≡ None) × (why ≡ fault.BadBytes))

-- What a line says: the task that a command names, and the values of its options.
pub record SaysLine (task : Option Task) (value : Text → Option Text) (line : Line) : Type 0 where
  pub task_is : task ≡ Some line.command.task
  pub context_is : option_map (λ s. s.now) line.command.context ≡ value (codes "in")
  pub numbers : AreNumbers value numeric_options
  pub escaping_is : line.command.escaping ≡ escaping_of (number_or 1 (value (codes "escape")))
  pub piece_is : line.command.piece ≡ number_or 65536 (value (codes "piece"))
  pub entities_is : option_map (λ s. s.now) line.entities ≡ value (codes "entities")
  pub quirks_is : option_map (λ s. s.now) line.quirks ≡ value (codes "quirks")
  pub bad_bytes_is : bad_bytes_of (value (codes "bad-bytes")) ≡ Some line.bad_bytes
  pub nodes_is : line.nodes ≡ number_or 16777216 (value (codes "nodes"))
  pub open_is : line.open ≡ number_or 1048576 (value (codes "open"))
  pub file_is : option_map (λ s. s.now) line.file ≡ value (codes "file")

-- A fault of the words: out of memory, one of the kinds that `clap` defines for them, or an option whose value is not as it should be.
abbrev pub FaultOf : List Text → Fault → Type 0
FaultOf words fault.Memory = ⊤
FaultOf words (fault.Line error) = IsAmong (kind_of error) (fault_of program words)
FaultOf words (fault.Number option text) = (fault_of program words ≡ []) × OptionFault (option_value words) (fault.Number option text)
FaultOf words fault.BadBytes = (fault_of program words ≡ []) × OptionFault (option_value words) fault.BadBytes
FaultOf words _ = ⊥
