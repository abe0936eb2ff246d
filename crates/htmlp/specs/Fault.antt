-- Faults.
use Rattle.std.specs.Prelude.{◌≡◌, ◌⊎◌, Option, Some, option_map}
use Rattle.clap.specs.Words.{Text, kind_of}
use Rattle.clap.specs.declared.error.Error.{Error}
use Rattle.clap.specs.declared.error.kind.ErrorKind.{ErrorKind}
use Rattle.clap.specs.declared.error.kind.ErrorKind.TheVariants.{OutOfMemory}
use Rattle.names.specs.declared.refusal.Refusal.{Refusal}
use Rattle.names.specs.declared.refusal.Refusal.TheVariants.{Read}
use Rattle.hmodes.specs.Beginning.{Limits}
use Rattle.htmlp.specs.declared.fault.Fault.{Fault}
use Rattle.htmlp.specs.declared.fault.Fault.TheVariants.{Limit, Line, Memory, Refused}
use Rattle.htmlp.specs.declared.numeric.Numeric.TheVariants.{Nodes, Open}
use Rattle.htmlp.specs.Numeric.{IsInRange, range_of}

-- the fault of an error of the kind, as `clap` gives it
abbrev pub fault_by_kind : ErrorKind → Error → Fault
fault_by_kind OutOfMemory error = Memory
fault_by_kind _ error = Line error

-- the fault that an error of `clap` is
abbrev pub fault_of_error : Error → Fault
fault_of_error error = fault_by_kind (kind_of error) error

-- a refusal of what has this name on the command line, if it has one
abbrev pub IsRefusalOf : Option Text → Refusal → Fault → Type 0
IsRefusalOf name refusal (Refused its named) = (its ≡ refusal) × (option_map (λ s. s.now) named ≡ name)
IsRefusalOf name refusal _ = ⊥

-- the file of this name has no text that can be read, or memory ran out
abbrev pub IsUnread : Text → Fault → Type 0
IsUnread name why = (why ≡ Memory) ⊎ IsRefusalOf (Some name) Read why

-- the first of the limits that is out of its range
abbrev pub IsLimitFault : Limits → Fault → Type 0
IsLimitFault limits why = ((IsInRange (range_of Nodes) limits.nodes → ⊥) × (why ≡ Limit Nodes))
    ⊎ (IsInRange (range_of Nodes) limits.nodes × (IsInRange (range_of Open) limits.depth → ⊥) × (why ≡ Limit Open))
