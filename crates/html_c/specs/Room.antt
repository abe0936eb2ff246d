-- What is written to a caller's room, and what is answered.
use Rattle.std.specs.Prelude.{◌≡◌, ◌<◌, ◌≤◌, ◌+◌, ℕ, Bool, List, ◌++◌, length, take, drop, if◌then◌else◌}
use Rattle.html_c.specs.Faults.{at_of, fault_detail, call_fault_status}
use Rattle.html_c.specs.declared.answer.Answer.{Answer}
use Rattle.html_c.specs.declared.fault.CallFault.{CallFault}

-- items over the beginning of a room, if they fit
abbrev pub put_over : {A : Type 0} → Bool → List A → List A → List A
put_over fits items room = if fits then items ++ drop (length items) room else room

-- items over what was at a place of a room
abbrev pub over_at : {A : Type 0} → ℕ → List A → List A → List A
over_at at items room = take at room ++ (items ++ drop (length items) (drop at room))

-- the greatest number of a `usize`
abbrev pub greatest : ℕ
greatest = 18446744073709551615

-- Items are put at a place of a room, if they fit there. The next place is after them, or as far as numbers go where that is further.
pub record PutsAt {A : Type 0} (at : ℕ) (items old new : List A) (next : ℕ) : Type 0 where
  pub onward : at ≤ next
  pub counted : next < greatest → next ≡ at + length items
  pub further : greatest ≤ next → greatest ≤ at + length items
  pub long : length new ≡ length old
  pub fits : at + length items ≤ length old → (next ≡ at + length items) × (new ≡ over_at at items old)

-- the status where everything fits, or something does not
abbrev pub fit_status : Bool → ℕ
fit_status fits = if fits then 0 else 13

-- the answer to this many bytes and nodes, which fit or do not
abbrev pub room_answer : Bool → (bytes nodes : ℕ) → Answer
room_answer fits bytes nodes = record { status = fit_status fits; detail = 0; at = 0; length = bytes; nodes = nodes }

-- the answer to none
abbrev pub fault_answer : CallFault → Answer
fault_answer fault = record { status = call_fault_status fault; detail = fault_detail fault; at = at_of fault; length = 0; nodes = 0 }
