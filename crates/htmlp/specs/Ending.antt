-- How the program ends.
use Rattle.std.specs.Prelude.{ℕ, Bool, true, false, List, [], ◌∷◌, ◌++◌, Option, None, Some, Result, Ok, Err, codes, option_map}
use Rattle.std.specs.List.{concat}
use Rattle.clap.specs.Words.{Text}
use Rattle.names.specs.declared.refusal.Refusal.{Refusal}
use Rattle.names.specs.declared.refusal.Refusal.TheVariants as refusal
use Rattle.htmlp.specs.declared.fault.Fault.{Fault}
use Rattle.htmlp.specs.declared.fault.Fault.TheVariants as fault
use Rattle.htmlp.specs.declared.numeric.Numeric.{Numeric}
use Rattle.htmlp.specs.Numeric.{numeric_name, range_text}
use Rattle.names.specs.RefusalText.{refusal_text}

-- A refusal ends with 2, but where the reader or the writer failed.
abbrev pub refusal_status : Refusal → ℕ
refusal_status refusal.Read = 3
refusal_status refusal.Write = 3
refusal_status _ = 2

abbrev pub fault_status : Fault → ℕ
fault_status (fault.Limit option) = 2
fault_status (fault.Refused refusal name) = refusal_status refusal
fault_status _ = 3

abbrev pub exit_status : Result (Unit {0}) Fault → ℕ
exit_status (Ok _) = 0
exit_status (Err fault) = fault_status fault

-- the line of a refusal
abbrev pub refusal_line : Refusal → Text
refusal_line refusal.Read = codes "fault: cannot read"
refusal_line refusal.Write = codes "fault: cannot write"
refusal_line refusal = codes "refused: " ++ refusal_text refusal

-- as `clap` writes of a value that is not accepted, of an option of this name and this range
abbrev pub number_line : Text → Text → Text → Text
number_line value name range = concat (
    codes "error: invalid value '" ∷ value ∷ codes "' for '--" ∷ name ∷ codes " <N>': " ∷ range ∷ (10 ∷ 10 ∷ [])
    ∷ codes "For more information, try '--help'." ∷ []
    )

-- what is said of a fault: its line, but where it is of `clap`
abbrev pub fault_line : Fault → Option Text
fault_line fault.Memory = Some (codes "fault: out of memory")
fault_line fault.NotUtf8 = Some (codes "fault: the command line is not UTF-8")
fault_line fault.BadBytes = Some (codes "fault: --bad-bytes is refuse or replace")
fault_line fault.NoRandomBytes = Some (codes "fault: no random bytes")
fault_line (fault.Line error) = None
fault_line (fault.Number option value) = Some (number_line value.now (numeric_name option) (range_text option))
fault_line (fault.Limit option) = Some (refusal_line refusal.BadLimits)
fault_line (fault.Refused refusal name) = Some (refusal_line refusal)

-- what stands around the name of what was refused, in the line that explains it
abbrev pub around_name : Refusal → Option (Text × Text)
around_name refusal.Read = Some (codes "htmlp: cannot read '", codes "'")
around_name (refusal.BadTable cause) = Some (codes "htmlp: '", codes "' is not a table of character references")
around_name (refusal.BadQuirks line) = Some (codes "htmlp: '", codes "' is not a list of quirky doctypes")
around_name refusal.BadContext = Some (codes "htmlp: '", codes "' is not the name of an element in which a fragment can stand")
around_name _ = None

-- that line, if there is something to say, and a name
abbrev pub name_line : Option (Text × Text) → Option Text → Option Text
name_line (Some around) (Some name) = Some (concat (around.0 ∷ name ∷ around.1 ∷ []))
name_line _ _ = None

-- the line that explains a limit that is out of its range
abbrev pub limit_line : Numeric → Text
limit_line option = concat (codes "htmlp: --" ∷ numeric_name option ∷ codes " is " ∷ range_text option ∷ [])

-- the line that explains a fault: it names what was refused
abbrev pub explanation : Fault → Option Text
explanation (fault.Limit option) = Some (limit_line option)
explanation (fault.Refused refusal name) = name_line (around_name refusal) (option_map (λ s. s.now) name)
explanation _ = None

-- a line with its end, if there is one
abbrev pub ending_line : Option Text → List ℕ
ending_line None = []
ending_line (Some line) = line ++ 10 ∷ []

-- a fault's explanation, where it is explained
abbrev pub explained : Bool → Fault → Option Text
explained true fault = explanation fault
explained false fault = None

-- what is written of a fault, but where it is of `clap`: one line, and where it is explained another
abbrev pub fault_text : Bool → Fault → Option (List ℕ)
fault_text explains fault = option_map (λ line. (line ++ 10 ∷ []) ++ ending_line (explained explains fault)) (fault_line fault)

-- what the program writes at its end
abbrev pub ending_text : Bool → Result (Unit {0}) Fault → Option (List ℕ)
ending_text explains (Ok _) = Some []
ending_text explains (Err fault) = fault_text explains fault
