-- Refusals as they are displayed.
use Rattle.std.specs.Prelude.{ℕ, List, [], ◌++◌, Option, None, Some, codes, decimal}
use Rattle.names.specs.RefusedNames.{refused_text}
use Rattle.names.specs.declared.refusal.Refusal.{Refusal}
use Rattle.names.specs.declared.refusal.Refusal.TheVariants as refusal
use Rattle.names.specs.declared.refusal.TableFault.{TableFault}
use Rattle.names.specs.declared.refusal.TableFault.TheVariants as cause

abbrev pub refusal_name : Refusal → List ℕ
refusal_name (refusal.NotUtf8 at) = codes "NotUtf8"
refusal_name (refusal.OutOfProfile name at) = codes "OutOfProfile"
refusal_name (refusal.TooLarge at) = codes "TooLarge"
refusal_name (refusal.TooManyNodes at) = codes "TooManyNodes"
refusal_name (refusal.TooDeep at) = codes "TooDeep"
refusal_name refusal.Memory = codes "Memory"
refusal_name refusal.Read = codes "Read"
refusal_name refusal.BadContext = codes "BadContext"
refusal_name (refusal.BadTable cause) = codes "BadTable"
refusal_name (refusal.BadQuirks line) = codes "BadQuirks"
refusal_name refusal.BadLimits = codes "BadLimits"
refusal_name refusal.Write = codes "Write"

abbrev pub cause_text : TableFault → List ℕ
cause_text cause.Json = codes "Json"
cause_text cause.Shape = codes "Shape"
cause_text cause.Key = codes "Key"
cause_text cause.Codepoints = codes "Codepoints"
cause_text cause.Characters = codes "Characters"

-- the element or the cause that a refusal names
abbrev pub refusal_detail : Refusal → Option (List ℕ)
refusal_detail (refusal.OutOfProfile name at) = Some (refused_text name)
refusal_detail (refusal.BadTable cause) = Some (cause_text cause)
refusal_detail _ = None

-- its number, after the word that says what it counts
abbrev pub number_in_refusal : Refusal → Option (List ℕ × ℕ)
number_in_refusal (refusal.NotUtf8 at) = Some (codes "at", at)
number_in_refusal (refusal.OutOfProfile name at) = Some (codes "at", at)
number_in_refusal (refusal.TooLarge at) = Some (codes "at", at)
number_in_refusal (refusal.TooManyNodes at) = Some (codes "at", at)
number_in_refusal (refusal.TooDeep at) = Some (codes "at", at)
number_in_refusal (refusal.BadQuirks line) = Some (codes "line", line)
number_in_refusal _ = None

-- a space and the word, where there is one
abbrev pub detail_text : Option (List ℕ) → List ℕ
detail_text None = []
detail_text (Some word) = codes " " ++ word

-- the word and the number, each after a space, where there is one
abbrev pub number_text : Option (List ℕ × ℕ) → List ℕ
number_text None = []
number_text (Some number) = (codes " " ++ number.0) ++ (codes " " ++ decimal number.1)

abbrev pub refusal_text : Refusal → List ℕ
refusal_text refusal = refusal_name refusal ++ detail_text (refusal_detail refusal) ++ number_text (number_in_refusal refusal)
