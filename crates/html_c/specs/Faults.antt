-- The numbers of refusals and faults.
use Rattle.std.specs.Prelude.{ℕ}
use Rattle.names.specs.declared.raw.RefusedName.{RefusedName}
use Rattle.names.specs.declared.raw.RefusedName.TheVariants as element
use Rattle.names.specs.declared.refusal.Refusal.{Refusal}
use Rattle.names.specs.declared.refusal.Refusal.TheVariants as refusal
use Rattle.names.specs.declared.refusal.TableFault.{TableFault}
use Rattle.names.specs.declared.refusal.TableFault.TheVariants as cause
use Rattle.html_c.specs.declared.fault.CallFault.{CallFault}
use Rattle.html_c.specs.declared.fault.CallFault.TheVariants as fault

abbrev pub refusal_number : Refusal → ℕ
refusal_number (refusal.NotUtf8 at) = 1
refusal_number (refusal.OutOfProfile name at) = 2
refusal_number (refusal.TooLarge at) = 3
refusal_number (refusal.TooManyNodes at) = 4
refusal_number (refusal.TooDeep at) = 5
refusal_number refusal.Memory = 6
refusal_number refusal.Read = 7
refusal_number refusal.BadContext = 8
refusal_number (refusal.BadTable why) = 9
refusal_number (refusal.BadQuirks line) = 10
refusal_number refusal.BadLimits = 11
refusal_number refusal.Write = 12

abbrev pub element_number : RefusedName → ℕ
element_number element.Math = 1
element_number element.Svg = 2
element_number element.Template = 3
element_number element.Select = 4
element_number element.Option = 5
element_number element.Optgroup = 6
element_number element.Frame = 7
element_number element.Frameset = 8
element_number element.Keygen = 9

abbrev pub cause_number : TableFault → ℕ
cause_number cause.Json = 1
cause_number cause.Shape = 2
cause_number cause.Key = 3
cause_number cause.Codepoints = 4
cause_number cause.Characters = 5

abbrev pub call_fault_status : CallFault → ℕ
call_fault_status (fault.Refused why) = refusal_number why
call_fault_status fault.NotText = 14
call_fault_status fault.BadNumber = 15
call_fault_status fault.BadSize = 17

-- the number of the element or of the cause that it names
abbrev pub fault_detail : CallFault → ℕ
fault_detail (fault.Refused (refusal.OutOfProfile name at)) = element_number name
fault_detail (fault.Refused (refusal.BadTable why)) = cause_number why
fault_detail _ = 0

-- its byte or its line
abbrev pub at_of : CallFault → ℕ
at_of (fault.Refused (refusal.NotUtf8 at)) = at
at_of (fault.Refused (refusal.OutOfProfile name at)) = at
at_of (fault.Refused (refusal.TooLarge at)) = at
at_of (fault.Refused (refusal.TooManyNodes at)) = at
at_of (fault.Refused (refusal.TooDeep at)) = at
at_of (fault.Refused (refusal.BadQuirks line)) = line
at_of _ = 0
