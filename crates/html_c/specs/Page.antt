-- A page: the tree of an input, its parse errors and where its nodes came from as rows, and its HTML.
use Rattle.std.specs.Prelude.{◌≡◌, ◌==◌, ◌/◌, ◌%◌, ℕ, Bool, true, false, ◌&&◌, if◌then◌else◌, List, [], length, map, nat_le, nat_lt, Option, None, Some, Ok}
use Rattle.names.specs.Codes.{code_rank}
use Rattle.names.specs.declared.error.ParseError.{ParseError}
use Rattle.hnodes.specs.Forest.{children_of}
use Rattle.hparse.specs.Origins.{AreOrigins}
use Rattle.hparse.specs.Parse.{Parse, Parses, ParseOptions, root_of}
use Rattle.hparse.specs.declared.origins.Origin.{Origin}
use Rattle.hserialize.specs.declared.escaping.Escaping.{Escaping}
use Rattle.html_c.specs.Exports.{GivesRows, GivesNoRows, GivesText, case_given}
use Rattle.html_c.specs.Faults.{at_of, fault_detail, call_fault_status}
use Rattle.html_c.specs.Given.{escaping_told, GivesNothing, NoEscaping, Tells}
use Rattle.html_c.specs.Room.{fit_status, put_over}
use Rattle.html_c.specs.Rows.{origins_of}
use Rattle.html_c.specs.declared.answer.ErrorRow.{ErrorRow}
use Rattle.html_c.specs.declared.answer.Given.{Given}
use Rattle.html_c.specs.declared.answer.NodeRow.{NodeRow}
use Rattle.html_c.specs.declared.answer.PageAnswer.{PageAnswer}
use Rattle.html_c.specs.declared.answer.OriginRow.{OriginRow}
use Rattle.html_c.specs.declared.fault.CallFault.{CallFault}
use Rattle.html_c.specs.declared.fault.CallFault.TheVariants as fault
use Rattle.html_c.specs.declared.page.Wants.{Wants}

-- the parts of a page, or the rooms for them
pub record Parts : Type 0 where
  pub rows : List NodeRow
  pub words : List ℕ
  pub errors : List ErrorRow
  pub text : List ℕ
  pub origins : List OriginRow

abbrev pub as_parts : List NodeRow → (words : List ℕ) → List ErrorRow → (text : List ℕ) → List OriginRow → Parts
as_parts rows words errors text origins = record { rows = rows; words = words; errors = errors; text = text; origins = origins }

-- whether all parts fit their rooms
abbrev pub all_fit : Parts → Parts → Bool
all_fit page rooms =
    nat_le (length page.rows) (length rooms.rows) && (nat_le (length page.words) (length rooms.words)
    && (nat_le (length page.errors) (length rooms.errors) && (nat_le (length page.text) (length rooms.text)
    && nat_le (length page.origins) (length rooms.origins))))

-- the parts over the beginnings of their rooms, if all of them fit
abbrev pub put_parts : Parts → Parts → Parts
put_parts page rooms =
    let fits = all_fit page rooms in
    as_parts (put_over fits page.rows rooms.rows) (put_over fits page.words rooms.words)
    (put_over fits page.errors rooms.errors) (put_over fits page.text rooms.text) (put_over fits page.origins rooms.origins)

-- the answer to a page that fits or does not, and to none
abbrev pub page_answer : Bool → Parts → PageAnswer
page_answer fits page = record {
  status = fit_status fits;
  detail = 0;
  at = 0;
  nodes = length page.rows;
  words = length page.words;
  errors = length page.errors;
  text = length page.text;
}

abbrev pub page_fault : CallFault → PageAnswer
page_fault fault = record { status = call_fault_status fault; detail = fault_detail fault; at = at_of fault; nodes = 0; words = 0; errors = 0; text = 0 }

-- what is wanted beside the tree, as a sum: 1 the errors, 2 the HTML, 4 where the nodes came from
abbrev pub wants_told : ℕ → Option Wants
wants_told number =
    if nat_lt number 8 then Some (record { errors = number % 2 == 1; text = number / 2 % 2 == 1; origins = nat_le 4 number }) else None

-- a parse error as a row
abbrev pub error_row : ParseError → ErrorRow
error_row error = record { at = error.at; code = code_rank error.code }

-- What is given is accepted, and these are the rows of the parse errors, in their order.
pub record GivesErrors (input : List ℕ) (given : Given) (rows : List ErrorRow) : Type 0 where
  pub opts : ParseOptions
  pub tells : Tells given opts
  pub parse : Parse
  pub parses : Parses opts (case_given given) input (Ok parse)
  pub rows_are : rows ≡ map error_row parse.errors

-- What is given is accepted, and these are the rows of how the nodes came to be, in the order of the nodes.
pub record GivesOrigins (input : List ℕ) (given : Given) (rows : List OriginRow) : Type 0 where
  pub opts : ParseOptions
  pub tells : Tells given opts
  pub parse : Parse
  pub parses : Parses opts (case_given given) input (Ok parse)
  pub list : List Origin
  pub origins : AreOrigins opts (case_given given) input list
  pub rows_are : rows ≡ origins_of list (children_of (root_of (case_given given)) parse.trees)

-- a part that is given where it is wanted, and nothing where it is not
abbrev pub GivesWanted : {A : Type 0} → Bool → (List A → Type 0) → List A → Type 0
GivesWanted true gives items = gives items
GivesWanted false gives items = items ≡ []

-- What is given is accepted, and this is the page: the tree, the parse errors, the text of the task Write (3), and where the nodes came from.
pub record GivesPage (number : ℕ) (input : List ℕ) (given : Given) (page : Parts) : Type 0 where
  pub wants : Wants
  pub how : Escaping
  pub wants_are : wants_told number ≡ Some wants
  pub how_is : escaping_told given.escaping ≡ Some how
  pub tree : GivesRows input given page.rows page.words
  pub errors : GivesWanted wants.errors (GivesErrors input given) page.errors
  pub text : GivesWanted wants.text (GivesText 3 input given) page.text
  pub origins : GivesWanted wants.origins (GivesOrigins input given) page.origins

-- There is no page, for this reason.
pub data GivesNoPage (number : ℕ) (input : List ℕ) (given : Given) (why : CallFault) : Type 0 where
  no_wants : wants_told number ≡ None → why ≡ fault.BadNumber → GivesNoPage number input given why
  unescaped : NoEscaping given why → GivesNoPage number input given why
  no_tree : GivesNoRows input given why → GivesNoPage number input given why

-- All parts are written where all of them fit, and their lengths are answered; or why there is no page, and nothing is written.
pub data AnswersPage (number : ℕ) (input : List ℕ) (given : Given) (old new : Parts) (answer : PageAnswer) : Type 0 where
  page_answered : (page : Parts) → GivesPage number input given page → new ≡ put_parts page old → answer ≡ page_answer (all_fit page old) page
      → AnswersPage number input given old new answer
  no_page_answered : (why : CallFault) → GivesNothing given.size (GivesNoPage number input given) why → new ≡ old → answer ≡ page_fault why
      → AnswersPage number input given old new answer
