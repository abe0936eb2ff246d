-- The options of a call: the meaning of what a caller hands in, and why it is not accepted.
use Rattle.std.specs.Prelude.{◌≡◌, ◌<◌, ◌≤◌, ◌==◌, ◌||◌, not, ◌+◌, ◌*◌, ◌^◌, if◌then◌else◌, ℕ, Bool, true, false, List, [], ◌∷◌, Option, None, Some, Ok, Err}
use Rattle.std.specs.Str.{IsUtf8}
use Rattle.std.specs.declared.hash.DefaultHasher.{DefaultHasher}
use Rattle.names.specs.Keys.{made_of}
use Rattle.names.specs.declared.refusal.Refusal.{Refusal}
use Rattle.names.specs.declared.refusal.Refusal.TheVariants.{BadContext, BadLimits}
use Rattle.hmarkup.specs.Quirks.{ReadsQuirks}
use Rattle.htext.specs.declared.BadBytes.{BadBytes}
use Rattle.htext.specs.declared.BadBytes.TheVariants as bad
use Rattle.htext.specs.declared.decoder.TheConstants.{MAX_INPUT}
use Rattle.hmodes.specs.Bounds.{AreLimits, Bounds}
use Rattle.hparse.specs.Parse.{ParseOptions}
use Rattle.hwrite.specs.Command.{own_context}
use Rattle.hwrite.specs.Context.{AllowsContext}
use Rattle.hwrite.specs.declared.command.Command.{Command}
use Rattle.hwrite.specs.declared.command.Task.{Task}
use Rattle.hwrite.specs.declared.command.Task.TheVariants as task
use Rattle.hserialize.specs.declared.escaping.Escaping.{Escaping}
use Rattle.hserialize.specs.declared.escaping.Escaping.TheVariants.{One, Two}
use Rattle.html_c.specs.Table.{ReadsTableBytes}
use Rattle.html_c.specs.declared.answer.Given.{Given}
use Rattle.html_c.specs.declared.given.Lists.{Lists}
use Rattle.html_c.specs.declared.given.Settings.{Settings}
use Rattle.html_c.specs.declared.fault.CallFault.{CallFault}
use Rattle.html_c.specs.declared.fault.CallFault.TheVariants as fault

abbrev pub task_told : ℕ → Option Task
task_told number =
    if number == 0 then Some task.Tokens else (if number == 1 then Some task.Tree else (if number == 2 then Some task.Errors
    else (if number == 3 then Some task.Write else (if number == 4 || number == 5 then Some task.Plain else None))))

abbrev pub escaping_told : ℕ → Option Escaping
escaping_told number = if number == 1 then Some One else (if number == 2 then Some Two else None)

abbrev pub bad_told : ℕ → Option BadBytes
bad_told number = if number == 0 then Some bad.Refuse else (if number == 1 then Some bad.Replace else None)

-- the element in which the input is: none where its name is empty
abbrev pub context_told : List ℕ → Option (List ℕ)
context_told [] = None
context_told (b ∷ bs) = Some (b ∷ bs)

-- whether the task of a number may be one of an input that is in this element, or of a document: 0 and 5 are those of a document, 4 of a fragment
abbrev pub may_be_in : ℕ → Option (List ℕ) → Bool
may_be_in number (Some context) = not (number == 0 || number == 5)
may_be_in number None = not (number == 4)

-- no way of escaping is given
abbrev pub NoEscaping : Given → CallFault → Type 0
NoEscaping given why = (escaping_told given.escaping ≡ None) × (why ≡ fault.BadNumber)

-- options of this many bytes are those that the library knows
abbrev pub IsSize : ℕ → Type 0
IsSize size = size ≡ 104

-- the library knows no options of this many bytes
abbrev pub NoSize : ℕ → CallFault → Type 0
NoSize size why = (IsSize size → ⊥) × (why ≡ fault.BadSize)

-- Why a call gives nothing: its options have a size that the library does not know, whatever else they say; or one that it knows, and this is a reason.
pub data GivesNothing (size : ℕ) (reasons : CallFault → Type 0) (why : CallFault) : Type 0 where
  no_size : NoSize size why → GivesNothing size reasons why
  of_size : IsSize size → reasons why → GivesNothing size reasons why

-- this many bytes may be fed at a time
abbrev pub IsPieceSize : ℕ → Type 0
IsPieceSize piece = (0 < piece) × (piece ≤ 65536)

-- the most bytes, nodes and open elements
abbrev pub bounds_told : Given → Bounds
bounds_told given = record { input = MAX_INPUT; tree = record { nodes = given.nodes; depth = given.open } }

-- What is given, where all of it is accepted.
pub record Tells (given : Given) (opts : ParseOptions) : Type 0 where
  pub size : IsSize given.size
  pub context : AllowsContext (context_told given.context.now)
  pub piece : IsPieceSize given.piece
  pub table : ReadsTableBytes given.entities.now (Ok opts.table)
  pub quirks : ReadsQuirks given.quirks.now (Ok opts.quirks)
  pub bad_bytes : bad_told given.bad_bytes ≡ Some opts.bad
  pub input_limit : opts.input ≡ (bounds_told given).input
  pub limits : opts.limits ≡ (bounds_told given).tree
  pub in_range : AreLimits (bounds_told given)

-- Two givens are the same, but for their tables of character references.
pub record AreSameButTables (given other : Given) : Type 0 where
  pub size : given.size ≡ other.size
  pub context : given.context.now ≡ other.context.now
  pub quirks : given.quirks.now ≡ other.quirks.now
  pub nodes : given.nodes ≡ other.nodes
  pub depth : given.open ≡ other.open
  pub piece : given.piece ≡ other.piece
  pub escaping : given.escaping ≡ other.escaping
  pub bad_bytes : given.bad_bytes ≡ other.bad_bytes

-- Something that is given is not accepted, for this reason.
pub data Unmet (given : Given) (why : CallFault) : Type 0 where
  no_bad_bytes : bad_told given.bad_bytes ≡ None → why ≡ fault.BadNumber → Unmet given why
  no_piece : (IsPieceSize given.piece → ⊥) → why ≡ fault.BadNumber → Unmet given why
  no_context : (IsUtf8 given.context.now → ⊥) → why ≡ fault.NotText → Unmet given why
  context_refused : (AllowsContext (context_told given.context.now) → ⊥) → why ≡ fault.Refused BadContext → Unmet given why
  no_table : ReadsTableBytes given.entities.now (Err why) → Unmet given why
  no_quirks : (IsUtf8 given.quirks.now → ⊥) → why ≡ fault.NotText → Unmet given why
  quirks_refused : (refusal : Refusal) → ReadsQuirks given.quirks.now (Err refusal) → why ≡ fault.Refused refusal → Unmet given why
  limits_refused : (AreLimits (bounds_told given) → ⊥) → why ≡ fault.Refused BadLimits → Unmet given why

-- The keys that are given: of the number whose halves are the two fields.
abbrev pub keys_told : Given → DefaultHasher
keys_told given = made_of (given.key_high * 2 ^ 64 + given.key_low)

-- These are the lists, the way with bad bytes and the limits that are given, and they are accepted.
pub record HasLists (given : Given) (lists : Lists) : Type 0 where
  pub table : ReadsTableBytes given.entities.now (Ok lists.table)
  pub quirks : ReadsQuirks given.quirks.now (Ok lists.quirks)
  pub bad_bytes : bad_told given.bad_bytes ≡ Some lists.bad_bytes
  pub limits : lists.limits ≡ bounds_told given
  pub in_range : AreLimits (bounds_told given)

-- These settings are what is given, and it is accepted.
pub record HasSettings (given : Given) (settings : Settings) : Type 0 where
  pub size : IsSize given.size
  pub context : own_context settings.context ≡ context_told given.context.now
  pub allows : AllowsContext (context_told given.context.now)
  pub given_piece : IsPieceSize given.piece
  pub piece : 0 < settings.piece

-- A command is what is given, with the task of this number.
pub record IsCommand (number : ℕ) (given : Given) (command : Command) : Type 0 where
  pub task : task_told number ≡ Some command.task
  pub placed : may_be_in number (context_told given.context.now) ≡ true
  pub escaping : escaping_told given.escaping ≡ Some command.escaping
  pub context : own_context command.context ≡ context_told given.context.now
  pub piece : 0 < command.piece

-- There is none, for this reason.
pub data NoCommand (number : ℕ) (given : Given) (why : CallFault) : Type 0 where
  no_task : task_told number ≡ None → why ≡ fault.BadNumber → NoCommand number given why
  misplaced : (task : Task) → task_told number ≡ Some task → may_be_in number (context_told given.context.now) ≡ false
      → why ≡ fault.Refused BadContext → NoCommand number given why
  no_escaping : NoEscaping given why → NoCommand number given why
  unmet : Unmet given why → NoCommand number given why
