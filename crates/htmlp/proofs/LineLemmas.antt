-- What `clap` says of the program's command line.
use Rattle.htmlp.proofs.Names.{◌≡◌, ◌⊎◌, inl, inr, refl, sym, ap, subst, ◌∙◌, List, [], ◌∷◌, Bor, Result, Ok, Err, MatchResult, Option, None, Some, option_map, codes, HasKind, Row, Text, app_of, fault_of, found_of, is_simple_and_free, rows_of, takes, Command, ArgMatches, fault_of_error, Numeric, SaysLine, bad_bytes_of, task_of, option_value, Fault, Line, Bool, true, is_some, IfOk, IfErr, OnOk, option_and_then, IsSome, find, list_all, HasMatchesOf, IsAmong, Shape, built, first_of, first_value, is_simple, kind_of, subcommand_name_of, subcommand_of, subcommand_rows_of, argument_words, entered, label_of, names_of, rows_at, answers_to, stop_after, out-ArgMatches, first_value-rows, Error, ErrorKind, OutOfMemory, task_named, fault_by_kind, AreGood, AreNumbers, FaultOf, NumberFault, OptionFault, numeric_options, program, Task, arith}
use Rattle.clap.proofs.OnLiterals.{clap_on_literals}
use Rattle.htmlp.specs.declared.fault.Fault.TheVariants as fault

pub program-simple : is_simple program ≡ true
unfolding clap_on_literals
program-simple = refl

pub program-free : is_simple_and_free program ≡ true
unfolding clap_on_literals
program-free = refl

fault_at : (words : List Text) (error : Error) (k : ErrorKind) → kind_of error ≡ k → (k ≡ OutOfMemory) ⊎ IsAmong k (fault_of program words)
    → FaultOf words (fault_by_kind k error)
fault_at words error OutOfMemory is h = tt
fault_at words error k is (inl h) = cc
fault_at words error k is (inr h) = subst (λ j. IsAmong j (fault_of program words)) (sym is) h

-- an error of `clap` is a fault of the words
pub fault_of_kind : (words : List Text) (error : Error) → HasKind (fault_of program words) error → FaultOf words (fault_of_error error)
fault_of_kind words error h = fault_at words error (kind_of error) refl h

-- want of memory stays want of memory
pub fault_of_error-memory : (error : Error) → kind_of error ≡ OutOfMemory → fault_of_error error ≡ fault.Memory
fault_of_error-memory error e = ap (λ k. fault_by_kind k error) e

-- ---- the command that the words name

-- what is found is as all are
found_among : {X : Type 0} (test good : X → Bool) (xs : List X) (x : X) → find test xs ≡ Some x → list_all good xs ≡ true → good x ≡ true
found_among test good [] x is all = absurd cc
found_among test good (y ∷ ys) x is all = grind (arith, found_among test good ys x)

abbrev is_command : Shape → Bool
is_command s = is_some (task_named s.name)

all_are_commands : list_all is_command (built program).subs ≡ true
unfolding clap_on_literals
all_are_commands = refl

entered_named : (shapes : List Shape) (at : Text × List Text) (p : Text × List Row) → list_all is_command shapes ≡ true
    → option_map (λ s. rows_at s at.1) (find (λ s. answers_to at.0 (label_of s)) shapes) ≡ Some p → is_some (task_named p.0) ≡ true
entered_named shapes at p all is = by (find (λ s. answers_to at.0 (label_of s)) shapes) refl is where
  by : (found : Option Shape) → find (λ s. answers_to at.0 (label_of s)) shapes ≡ found → option_map (λ s. rows_at s at.1) found ≡ Some p
      → is_some (task_named p.0) ≡ true
  by None at_none e = absurd cc
  by (Some s) at_some e = let same : s.name ≡ p.0 = cc in subst (λ n. is_some (task_named n) ≡ true) same (found_among _ is_command shapes s at_some all)

stop_named : (stop : Option (Text × List Text)) (p : Text × List Row) → entered (built program) stop ≡ Some p → is_some (task_named p.0) ≡ true
stop_named None p is = absurd cc
stop_named (Some at) p is = entered_named (built program).subs at p all_are_commands is

abbrev entry_name : Bor Text × Bor ArgMatches → Text
entry_name p = p.0.now

abbrev entry_rows : Bor Text × Bor ArgMatches → List Row
entry_rows p = rows_of (found_of p.1.now)

-- the name of the subcommand that was found, and its matches
module _ (command : Command) (m : ArgMatches) {its : Bor Text × Bor ArgMatches} {found : Option (Bor Text × Bor ArgMatches)} (words : List Text)
    (is : app_of command ≡ program) (matches : HasMatchesOf (app_of command) words m) (some : found ≡ Some its)
    (rows : option_map entry_rows found ≡ option_map (λ p. p.1) (subcommand_rows_of m)) (names : option_map entry_name found ≡ subcommand_name_of m) where
  entered_is : subcommand_rows_of m ≡ subcommand_of program words
  entered_is = (matches (ap is_simple is ∙ program-simple)).1 ∙ ap (λ a. subcommand_of a words) is

  name_and_rows : Some (entry_name its, entry_rows its) ≡ subcommand_of program words
  name_and_rows =
      by (out-ArgMatches m).subcommand _ (ap (option_map entry_rows) (sym some) ∙ rows) (ap (option_map entry_name) (sym some) ∙ names) ∙ entered_is where
        by : {Z : Type 0} (o : Option Z) (f : Z → Text × List Row) → Some (entry_rows its) ≡ option_map (λ p. p.1) (option_map f o)
            → Some (entry_name its) ≡ option_map (λ z. (f z).0) o → Some (entry_name its, entry_rows its) ≡ option_map f o
        by None f r n = absurd cc
        by (Some z) f r n = let first : entry_name its ≡ (f z).0 = cc in let second : entry_rows its ≡ (f z).1 = cc in rw (first, second) refl

  pub names_a_task : IsSome (task_named (entry_name its))
  names_a_task = stop_named (stop_after (built program).top.rules (names_of (built program)) (argument_words program words)) (entry_name its, entry_rows its)
      (sym name_and_rows)

  -- the task that it names, and the values that its matches have, are those of the words
  pub task_and_values : (task_named (entry_name its) ≡ task_of words) × (first_value (found_of its.1.now) ≡ option_value words)
  task_and_values = (
    ap (option_and_then (λ (p : Text × List Row). task_named p.0)) name_and_rows,
    λ i. λ (id : Text). (first_value-rows (found_of its.1.now) id ∙ ap (option_and_then (λ (p : Text × List Row). first_of id p.1)) name_and_rows) i,
  )

-- ---- what the command says

pub said : (r : Result Line Fault) {task given : Option Task} {value read : Text → Option Text} → task ≡ given → value ≡ read
    → MatchResult r (SaysLine task value) (OptionFault value) → IfOk r (SaysLine given read)
said (Ok line) {task = task} {read = read} same is h = subst (λ t. SaysLine t read line) same (subst (λ v. SaysLine task v line) is h)
said (Err why) same is h = tt

pub anyway : {P : Type 0} (r : Result Line Fault) → P → OnOk r P
anyway (Ok line) p = p
anyway (Err why) p = tt

number_fault : (words : List Text) (options : List Numeric) (why : Fault) → fault_of program words ≡ [] → NumberFault (option_value words) numeric_options why
    → FaultOf words why
number_fault words options fault.Memory none h = tt
number_fault words options (fault.Number option text) none h = (none, inl h)
number_fault words options why none (inl h) = absurd h.1
number_fault words options why none (inr (h, inl k)) = absurd k.1
number_fault words options why none (inr (h, inr (k, inl l))) = absurd l.1
number_fault words options why none (inr (h, inr (k, inr (l, inl m)))) = absurd m.1
number_fault words options why none (inr (h, inr (k, inr (l, inr (m, n))))) = absurd n

option_fault : (words : List Text) (why : Fault) → fault_of program words ≡ [] → OptionFault (option_value words) why → FaultOf words why
option_fault words why none (inl h) = number_fault words numeric_options why none h
option_fault words why none (inr h) = subst (FaultOf words) (sym h.2) (none, inr (h.0, h.1, refl))

pub says_fault : (r : Result Line Fault) (words : List Text) (task : Option Task) {value : Text → Option Text} → fault_of program words ≡ []
    → value ≡ option_value words → MatchResult r (SaysLine task value) (OptionFault value) → IfErr r (FaultOf words)
says_fault (Ok line) words task none is h = tt
says_fault (Err why) words task none is h = option_fault words why none (subst (λ v. OptionFault v why) is h)

-- where each option is a number there is no such fault
no_number_fault : (value : Text → Option Text) (options : List Numeric) (why : Fault) → AreNumbers value options → NumberFault value options why → ⊥
no_number_fault value [] why are h = h
no_number_fault value (option ∷ options) why (is, are) (inl (none, k)) = none is
no_number_fault value (option ∷ options) why (is, are) (inr (_, h)) = no_number_fault value options why are h

no_option_fault : (value : Text → Option Text) (why : Fault) → AreGood value → OptionFault value why → ⊥
no_option_fault value why good (inl h) = no_number_fault value numeric_options why good.0 h
no_option_fault value why good (inr h) = not_some (bad_bytes_of (value (codes "bad-bytes"))) good.1 h.1 where
  not_some : {A : Type 0} (o : Option A) → IsSome o → o ≡ None → ⊥
  not_some None some is = absurd cc
  not_some (Some x) some is = absurd cc

pub no_fault : (r : Result Line Fault) (words : List Text) (task : Option Task) {value : Text → Option Text} → value ≡ option_value words
    → MatchResult r (SaysLine task value) (OptionFault value) → IfErr r (λ f. takes program words ≡ true → AreGood (option_value words) → f ≡ fault.Memory)
no_fault (Ok line) words task is h = tt
no_fault (Err why) words task is h = λ taken good. absurd (no_option_fault (option_value words) why good (subst (λ v. OptionFault v why) is h))
