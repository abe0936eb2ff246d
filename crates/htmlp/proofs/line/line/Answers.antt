-- The words are read as `clap` says, and the values of the command are those of its matches.
use Rattle.htmlp.proofs.Names.{ap, map, sym, subst, string_bytes, ◌∙◌, fault_of, HasKind, is_simple_and_free, takes, fault_of_error, passed_up}
use Rattle.htmlp.proofs.LineLemmas.{program-free, fault_of_kind, fault_of_error-memory, names_a_task, task_and_values, said, anyway, says_fault, no_fault}
use Rattle.htmlp.proofs.line.line.Goals as goal

pub returns-in_err-matches-clause-fault : goal.returns-in_err-matches-clause-fault
returns-in_err-matches-clause-fault c = let is = c.in_ok-command_line.ensures in let error = c.in_err-matches.field-0.0 in
    let kinds = subst (λ app. HasKind (fault_of app (map string_bytes c.args.words.now)) error) is
    (c.in_err-matches.ensures.kinds (ap is_simple_and_free is ∙ program-free)) in
    passed_up c.from_residual-in_err-matches.result (fault_of_error error) _ c.from_residual-in_err-matches.ensures.1
    (fault_of_kind (map string_bytes c.args.words.now) error kinds)

pub returns-in_err-matches-clause-memory : goal.returns-in_err-matches-clause-memory
returns-in_err-matches-clause-memory c = let error = c.in_err-matches.field-0.0 in
    passed_up c.from_residual-in_err-matches.result (fault_of_error error) _ c.from_residual-in_err-matches.ensures.1
    (λ taken numbers. fault_of_error-memory error
    (c.in_err-matches.ensures.passes (ap (λ app. takes app (map string_bytes c.args.words.now)) c.in_ok-command_line.ensures ∙ taken)))

pub said-line-requires : goal.said-line-requires
said-line-requires c =
    names_a_task _ _ _ c.in_ok-command_line.ensures c.in_ok-matches.ensures.matches c.unwrap.ensures c.subcommand.ensures.rows c.subcommand.ensures.name

pub returns-clause-says : goal.returns-clause-says
returns-clause-says c =
    let (task, value) =
    task_and_values _ _ _ c.in_ok-command_line.ensures c.in_ok-matches.ensures.matches c.unwrap.ensures c.subcommand.ensures.rows c.subcommand.ensures.name in
    said _ task value c.said-line.ensures.says

pub returns-clause-taken : goal.returns-clause-taken
returns-clause-taken c = let is = c.in_ok-command_line.ensures in
    anyway _ (ap (λ app. fault_of app (map string_bytes c.args.words.now)) (sym is) ∙ c.in_ok-matches.ensures.kinds (ap is_simple_and_free is ∙ program-free))

pub returns-clause-fault : goal.returns-clause-fault
returns-clause-fault c = let is = c.in_ok-command_line.ensures in
    let (task, value) = task_and_values _ _ _ is c.in_ok-matches.ensures.matches c.unwrap.ensures c.subcommand.ensures.rows c.subcommand.ensures.name in
    says_fault _ (map string_bytes c.args.words.now) _
    (ap (λ app. fault_of app (map string_bytes c.args.words.now)) (sym is) ∙ c.in_ok-matches.ensures.kinds (ap is_simple_and_free is ∙ program-free)) value
    c.said-line.ensures.says

pub returns-clause-memory : goal.returns-clause-memory
returns-clause-memory c =
    let (task, value) =
    task_and_values _ _ _ c.in_ok-command_line.ensures c.in_ok-matches.ensures.matches c.unwrap.ensures c.subcommand.ensures.rows c.subcommand.ensures.name in
    no_fault _ (map string_bytes c.args.words.now) _ value c.said-line.ensures.says
