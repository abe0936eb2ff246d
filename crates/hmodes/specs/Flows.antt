-- How a call of the code meets a rule of an insertion mode.
use Rattle.std.specs.Prelude.{◌≡◌, ℕ, ◌⊎◌, Result, Ok, Err}
use Rattle.names.specs.declared.refusal.Refusal.{Refusal}
use Rattle.names.specs.declared.refusal.Refusal.TheVariants.{Memory}
use Rattle.hadopt.specs.Naming.{numbers}
use Rattle.hmodes.specs.Perform.{perform}
use Rattle.hmodes.specs.State.{Token, end, eof, State, Flow, Done, Again, Refused}
use Rattle.hmodes.specs.Words.{Do}
use Rattle.hmodes.specs.declared.tree_construction.Flow.{Flow as Answer}
use Rattle.hmodes.specs.declared.tree_construction.Flow.TheVariants as answer
use Rattle.hmodes.specs.declared.tree_construction.TreeConstruction.{TreeConstruction}
use Rattle.htoken.specs.declared.token.Token.{Token as Given}
use Rattle.hmodes.specs.States.{state_of}
use Rattle.hmodes.specs.Tokens.{token_of}

-- The call that answers this, and leaves this token and this state, does what the rule says; or memory ran out.
abbrev pub FlowGives : Result Answer Refusal → Token ℕ → State ℕ → Flow ℕ → Type 0
FlowGives (Ok answer.Done) t new flow = flow ≡ Done new
FlowGives (Ok answer.Again) t new flow = flow ≡ Again t new
FlowGives (Err e) t new flow = (e ≡ Memory) ⊎ (flow ≡ Refused e)

-- the same of a part of a rule, which does not reprocess the token
abbrev pub StateGives : {A : Type 0} → Result A Refusal → State ℕ → Flow ℕ → Type 0
StateGives (Ok _) new flow = flow ≡ Done new
StateGives (Err e) new flow = (e ≡ Memory) ⊎ (flow ≡ Refused e)

-- what a program does that does not look at the token: so any will do
abbrev pub performed : ℕ → Do → State ℕ → Flow ℕ
performed at program s = perform numbers at eof program s

-- one that looks at its name alone
abbrev pub performed_for : ℕ → ℕ → Do → State ℕ → Flow ℕ
performed_for name at program s = perform numbers at (end name) program s

-- The call on this token and this state, which answers this and leaves those, does what a program does.
abbrev pub Performs : ℕ → Do → Given → TreeConstruction → Result Answer Refusal → Given → TreeConstruction → Type 0
Performs at program t old answer t' new = FlowGives answer (token_of t') (state_of new) (perform numbers at (token_of t) program (state_of old))

-- the same of a program that does not look at the token
abbrev pub AlwaysPerforms : ℕ → Do → TreeConstruction → Result Answer Refusal → TreeConstruction → Type 0
AlwaysPerforms at program old answer new = (t : Token ℕ) → FlowGives answer t (state_of new) (perform numbers at t program (state_of old))

-- the same of a part of a rule that does not look at the token, or at its name alone
abbrev pub Does : {A : Type 0} → ℕ → Do → TreeConstruction → Result A Refusal → TreeConstruction → Type 0
Does at program old answer new = StateGives answer (state_of new) (performed at program (state_of old))

abbrev pub DoesFor : {A : Type 0} → (name at : ℕ) → Do → TreeConstruction → Result A Refusal → TreeConstruction → Type 0
DoesFor name at program old answer new = StateGives answer (state_of new) (performed_for name at program (state_of old))
