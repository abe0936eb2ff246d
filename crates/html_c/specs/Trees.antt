-- What parsing an input gives, and what is made of it.
use Rattle.std.specs.Prelude.{◌≡◌, if◌then◌else◌, ℕ, Bool, List, [], map, Option, None, Some, Result, Ok, Err}
use Rattle.names.specs.declared.refusal.Refusal.{Refusal}
use Rattle.hnodes.specs.Forest.{Forest, children_of}
use Rattle.hparse.specs.declared.parsed.Parsed.{Parsed}
use Rattle.hparse.specs.Parse.{Parses, ParseOptions}
use Rattle.hparse.specs.Parsing.{AnswersParse, places_in}
use Rattle.hparse.specs.declared.origins.Origin.{Origin}
use Rattle.hwrite.specs.Context.{case_in}
use Rattle.hwrite.specs.Prints.{parsed_nodes}
use Rattle.html_c.specs.Exports.{ComesToNone, case_given}
use Rattle.html_c.specs.Given.{Tells}
use Rattle.html_c.specs.Page.{Parts, error_row, as_parts}
use Rattle.html_c.specs.Rows.{origins_of, rows_of, words_of}
use Rattle.html_c.specs.declared.answer.Given.{Given}
use Rattle.html_c.specs.declared.answer.NodeRow.{NodeRow}
use Rattle.html_c.specs.declared.answer.OriginRow.{OriginRow}

-- the parse of the bytes of a document or a fragment, or why there is none
abbrev pub ComesToParse : ParseOptions → Option (List ℕ) → List ℕ → Result Parsed Refusal → Type 0
ComesToParse opts context bytes (Ok parsed) = AnswersParse opts (case_in context) bytes (Ok parsed)
ComesToParse opts context bytes (Err refusal) = ComesToNone (Parses opts (case_in context)) bytes refusal

-- What is given is accepted, and this is what the input is parsed as, with the places of its nodes or not.
pub record GivesParse (input : List ℕ) (given : Given) (places : Bool) (parsed : Parsed) : Type 0 where
  pub opts : ParseOptions
  pub tells : Tells given opts
  pub asks : opts.places ≡ places
  pub answers : AnswersParse opts (case_given given) input (Ok parsed)

-- the rows and the words of what was parsed
abbrev pub parsed_rows : Parsed → List NodeRow
parsed_rows parsed = rows_of parsed.root (children_of parsed.root parsed.tree.trees)

abbrev pub parsed_words : Parsed → List ℕ
parsed_words parsed = words_of (parsed_nodes parsed)

-- the rows of where its nodes came from, if that was asked for
abbrev pub origins_by : Option (List Origin) → Forest ℕ → List OriginRow
origins_by (Some list) f = origins_of list f
origins_by None f = []

abbrev pub parsed_origins : Parsed → List OriginRow
parsed_origins parsed = origins_by (places_in parsed) (children_of parsed.root parsed.tree.trees)

-- its parts, with this text, and with its errors where they are wanted
abbrev pub parsed_parts : Parsed → (has_errors : Bool) → (text : List ℕ) → Parts
parsed_parts parsed has_errors text =
    as_parts (parsed_rows parsed) (parsed_words parsed) (if has_errors then map error_row parsed.errors.items else []) text (parsed_origins parsed)
