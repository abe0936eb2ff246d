-- What is printed of an input: the text of its answer.
use Rattle.std.specs.Prelude.{ℕ, Bool, true, false, List, Option, None, Result, Ok, Err, codes}
use Rattle.names.specs.declared.error.ParseError.{ParseError}
use Rattle.names.specs.declared.refusal.Refusal.{Refusal}
use Rattle.htoken.specs.Token.{Tok}
use Rattle.hnodes.specs.Forest.{Forest, children_of}
use Rattle.hnodes.specs.Spots.{node_name}
use Rattle.hserialize.specs.Lines.{tree_text, error_lines}
use Rattle.hserialize.specs.Plain.{is_plain}
use Rattle.hserialize.specs.PlainDocument.{is_plain_document}
use Rattle.hserialize.specs.Written.{written}
use Rattle.hserialize.specs.declared.escaping.Escaping.{Escaping}
use Rattle.hparse.specs.Answer.{Answers}
use Rattle.hparse.specs.Unrefused.{IsUnrefused, IsUnrefusedText}
use Rattle.hparse.specs.declared.parsed.Parsed.{Parsed}
use Rattle.hparse.specs.PageText.{page_name, page_trees}
use Rattle.hparse.specs.Parse.{Parse, Parses, ParseCase, document, fragment, ParseOptions, manner, policy, root_of}
use Rattle.hwrite.specs.declared.command.Task.{Task}
use Rattle.hwrite.specs.declared.command.Task.TheVariants as task
use Rattle.hwrite.specs.Context.{case_in}
use Rattle.hwrite.specs.TokenLines.{token_lines}

-- The text of an answer, or the refusal that the answer is.
pub data Prints {A : Type 0} (answers : List ℕ → Result A Refusal → Type 0) (text_of : A → List ℕ) (bytes : List ℕ) : Result (List ℕ) Refusal → Type 0 where
  printed : (answer : A) → answers bytes (Ok answer) → Prints answers text_of bytes (Ok (text_of answer))
  not_printed : (refusal : Refusal) → answers bytes (Err refusal) → Prints answers text_of bytes (Err refusal)

-- the text of the tokens of an answer
abbrev pub tokens_text : List Tok × List ParseError → List ℕ
tokens_text answer = token_lines answer.0

-- whether the nodes of a fragment are plain in its context, or a document is plain
abbrev pub is_plain_in : ParseCase → Forest (List ℕ) → Bool
is_plain_in document f = is_plain_document f
is_plain_in (fragment context) f = is_plain context f

abbrev pub plain_line : Bool → List ℕ
plain_line true = codes "plain\n"
plain_line false = codes "not plain\n"

-- What a task prints of parse errors, and of trees that are in an element of this name, or in none: HTML (#serialising-html-fragments), where
-- the name says how texts are written; whether the trees are plain; or a line for each node. Tokens are printed of none.
abbrev pub task_text : Escaping → Task → ParseCase → List ParseError → Option (List ℕ) → Forest (List ℕ) → List ℕ
task_text escaping task.Errors parse_case errors name trees = error_lines errors
task_text escaping task.Write parse_case errors name trees = written escaping name trees
task_text escaping task.Plain parse_case errors name trees = plain_line (is_plain_in parse_case trees)
task_text escaping _ parse_case errors name trees = tree_text trees

-- what it prints of a parse: of what is in the document, or in a fragment's root
abbrev pub parse_text : Escaping → Task → ParseCase → Parse → List ℕ
parse_text escaping task parse_case parse =
    task_text escaping task parse_case parse.errors (node_name (root_of parse_case) parse.trees) (children_of (root_of parse_case) parse.trees)

-- what a task prints of an input that is in this element, or is a document, where HTML is escaped so; tokens are those of a document
abbrev pub prints_of : Escaping → Task → Option (List ℕ) → ParseOptions → List ℕ → Result (List ℕ) Refusal → Type 0
prints_of escaping task.Tokens context opts = Prints (Answers opts.table (policy opts document)) tokens_text
prints_of escaping other context opts = Prints (Parses opts (case_in context)) (parse_text escaping other (case_in context))

-- no run refuses these bytes, whatever follows them
abbrev pub unrefused_of : Task → Option (List ℕ) → ParseOptions → List ℕ → Type 0
unrefused_of task.Tokens context opts = IsUnrefusedText (manner opts document)
unrefused_of other context opts = IsUnrefused opts (case_in context)

-- the element in which a task's input is
abbrev pub context_of : Task → Option (List ℕ) → Option (List ℕ)
context_of task.Tokens context = None
context_of _ context = context

-- what is in the root of what was parsed
abbrev pub parsed_nodes : Parsed → Forest (List ℕ)
parsed_nodes = page_trees

-- the same text by the numbers of names: that of what was parsed, in this element or as a document
abbrev pub parsed_text : Escaping → Task → Option (List ℕ) → Parsed → List ℕ
parsed_text escaping task context parsed =
    task_text escaping task (case_in context) parsed.errors.items (page_name parsed) (page_trees parsed)
