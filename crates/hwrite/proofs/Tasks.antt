-- A run of each task, and what a task prints.
use Rattle.hwrite.proofs.Vocabulary.{◌≡◌, ℕ, List, Option, Result, Ok, ap, ap₂, refl, subst, sym, Refusal, Answers, AnswersParse, IsUnrefusedText, Parses, ParseOptions, Parsed, Escaping, error_lines, plain_line, case_in, Prints, printed, tokens_text, Runs, RunsIn, ran, tree_text, written_among, IsUnrefused, Parse, ParseCase, document, manner, policy, IsParse, page_name, page_trees, Task, is_plain_in, parse_text, parsed_text, task_text, RunsTask}
use Rattle.hwrite.specs.declared.command.Task.TheVariants as task
use Rattle.hwrite.proofs.Printed.{children_are, raw_is}

module _ {S W : Type 0} (left : S → Option (List ℕ)) (reads : S → ℕ) (written : W → Option (List ℕ)) (writes : W → ℕ) (context : Option (List ℕ))
    (s : ParseOptions) (piece : ℕ) (source source' : S) (target target' : W) (answer : Result (Unit {0}) Refusal) (how : Escaping) where
  pub as_tokens : (t : Task) → t ≡ task.Tokens → Runs left reads written writes (Prints (Answers s.table (policy s document)) tokens_text)
      (IsUnrefusedText (manner s document)) piece source source' target target' answer
      → RunsTask left reads written writes how t context s piece source source' target target' answer
  as_tokens t is h = subst (λ (x : Task). RunsTask left reads written writes how x context s piece source source' target target' answer) (sym is) (ran tt h)

  -- the other tasks print of a parse
  pub as_parsed : (t : Task) → (t ≡ task.Tokens → ⊥) → RunsIn left reads written writes context
      (Prints (Parses s (case_in context)) (parse_text how t (case_in context))) (IsUnrefused s (case_in context)) piece source source' target target' answer
      → RunsTask left reads written writes how t context s piece source source' target target' answer
  as_parsed task.Tokens other h = absurd (other refl)
  as_parsed t other h = h

-- what a task prints of what was parsed is what it prints of the parse
same_text : (how : Escaping) (t : Task) (parse_case : ParseCase) (parsed : Parsed) (parse : Parse) → IsParse parse_case parsed parse
    → task_text how t parse_case parsed.errors.items (page_name parsed) (page_trees parsed) ≡ parse_text how t parse_case parse
same_text how task.Errors parse_case parsed parse is = ap error_lines is.errors
same_text how task.Write parse_case parsed parse is = ap₂ (written_among how) (raw_is parse_case parsed parse is) (children_are parse_case parsed parse is)
same_text how task.Plain parse_case parsed parse is = ap (λ f. plain_line (is_plain_in parse_case f)) (children_are parse_case parsed parse is)
same_text how t parse_case parsed parse is = ap tree_text (children_are parse_case parsed parse is)

pub parsed_printed : (how : Escaping) (t : Task) (opts : ParseOptions) (context : Option (List ℕ)) (bytes : List ℕ) (parsed : Parsed)
    → AnswersParse opts (case_in context) bytes (Ok parsed)
    → Prints (Parses opts (case_in context)) (parse_text how t (case_in context)) bytes (Ok (parsed_text how t context parsed))
parsed_printed how t opts context bytes parsed (parse, is, parses, told) =
    subst (λ (text : List ℕ). Prints (Parses opts (case_in context)) (parse_text how t (case_in context)) bytes (Ok text))
    (sym (same_text how t (case_in context) parsed parse is)) (printed parse parses)
