-- What a parser has been fed, and what its calls do.
use Rattle.std.specs.Prelude.{◌≡◌, ℕ, true, false, List, [], ◌++◌, slice_get, Option, Some, None, option_map, Result, Ok, Err}
use Rattle.std.specs.List.Sorted.{IsPermutation, IsSorted}
use Rattle.names.specs.declared.error.ParseError.{ParseError}
use Rattle.names.specs.declared.refusal.Refusal.{Refusal}
use Rattle.names.specs.declared.refusal.Refusal.TheVariants.{Memory}
use Rattle.names.specs.Names.{Texts, AreNames}
use Rattle.names.specs.Spelling.{spelling}
use Rattle.htoken.specs.Token.{Item, gives_item}
use Rattle.hnodes.specs.Edits.{Nodes}
use Rattle.hnodes.specs.Forest.{children_of}
use Rattle.hnodes.specs.Mapped.{mapped}
use Rattle.hadopt.specs.Naming.{numbers}
use Rattle.hmodes.specs.Beginning.{document_begins, fragment_begins}
use Rattle.hmodes.specs.State.{State}
use Rattle.htoken.specs.declared.token.Start.{Start}
use Rattle.hmodes.specs.Building.{Building}
use Rattle.hparse.specs.declared.options.Options.{Options}
use Rattle.hparse.specs.declared.origins.Origin.{Origin}
use Rattle.hparse.specs.declared.parsed.Parsed.{Parsed}
use Rattle.hparse.specs.declared.parser.Parser.{Parser}
use Rattle.hparse.specs.declared.builder_with_origins.BuilderWithOrigins.{BuilderWithOrigins}
use Rattle.hparse.specs.Answer.{error_cmp}
use Rattle.hparse.specs.Fed.{HasRead}
use Rattle.hparse.specs.Input.{Began}
use Rattle.hparse.specs.Origins.{AreOrigins, again_laid}
use Rattle.hparse.specs.BuilderWithOrigins.{TakesErrorWithOrigins, TakesTokenWithOrigins, makings_if, makings_of}
use Rattle.hnodes.specs.Named.{AreOf}
use Rattle.hparse.specs.Parse.{ParseCase, document, fragment, ParseOptions, Parse, Parses, manner, root_of}

-- what options say
abbrev pub options_of : Options → ParseOptions
options_of options = record {
  table = options.table.now;
  quirks = options.quirks.now;
  bad = options.bad_bytes;
  input = options.limits.input;
  limits = options.limits.tree;
  places = options.places;
}

-- a step of what takes the tokens and errors
abbrev pub takes_item_with_origins : BuilderWithOrigins → Item → Result (Unit {0}) Refusal → BuilderWithOrigins → Type 0
takes_item_with_origins = gives_item TakesErrorWithOrigins TakesTokenWithOrigins

-- the state in which a parse begins, where names are numbers of this table
pub data BeginsIn (opts : ParseOptions) (names : Texts) : ParseCase → State ℕ → Type 0 where
  a_document : BeginsIn opts names document (document_begins opts.quirks opts.limits)
  a_fragment : (context : List ℕ) (id : ℕ) → slice_get names id ≡ Some context → BeginsIn opts names (fragment context) (fragment_begins numbers id opts.limits)

-- The parser was fed these bytes, in any pieces, and has refused nothing.
pub record HasParsed (opts : ParseOptions) (parse_case : ParseCase) (parser : Parser) (bytes : List ℕ) : Type 0 where
  pub accepts : parser.refused ≡ None
  pub began : Began BuilderWithOrigins
  pub unrefused : began.sink.builder.refused ≡ None
  pub none_told : began.sink.builder.tokenizer_errors ≡ []
  pub root_is : began.sink.builder.root ≡ root_of parse_case
  pub begins : BeginsIn opts began.names parse_case began.sink.builder.state
  pub places : makings_of began.sink ≡ makings_if opts.places began.sink.builder.state
  pub has_read : HasRead takes_item_with_origins (manner opts parse_case) began parser.reading.value bytes

-- A parser with this builder and this table of names that was fed nothing.
pub record IsUnfed (options : Options) (start : Start) (names : Texts) (builder : Building) (parser : Parser) : Type 0 where
  pub accepts : parser.refused ≡ None
  pub sink : BuilderWithOrigins
  pub builder_is : sink.builder ≡ builder
  pub places : makings_of sink ≡ makings_if options.places builder.state
  pub has_read : HasRead takes_item_with_origins (record { table = options.table.now; start = start; bad = options.bad_bytes; limit = options.limits.input })
      (record { names = names; sink = sink }) parser.reading.value []

-- What feeding the last piece of these bytes does: memory ran out, or they are refused, whatever comes after, or they have been read.
pub data FeedsParser (opts : ParseOptions) (parse_case : ParseCase) (bytes : List ℕ) (answer : Result (Unit {0}) Refusal) (new : Parser) : Type 0 where
  feed_ran_out : answer ≡ Err Memory → FeedsParser opts parse_case bytes answer new
  feed_refused : (refusal : Refusal) → answer ≡ Err refusal → ((more : List ℕ) → Parses opts parse_case (bytes ++ more) (Err refusal))
      → FeedsParser opts parse_case bytes answer new
  feed_read : answer ≡ Ok tt → HasParsed opts parse_case new bytes → FeedsParser opts parse_case bytes answer new

-- how its nodes were made, where it has that
abbrev pub places_in : Parsed → Option (List Origin)
places_in parsed = option_map (λ places. places.items) parsed.places

-- What was parsed has this tree and root, these errors in their order, and these places.
pub record IsMadeOf (names : Texts) (tree : Nodes ℕ) (root : ℕ) (errors : List ParseError) (places : Option (List Origin)) (parsed : Parsed) : Type 0 where
  pub names_are : parsed.names ≡ names
  pub tree_is : parsed.tree ≡ tree
  pub root_is : parsed.root ≡ root
  pub errors_are : IsPermutation errors parsed.errors.items
  pub sorted : IsSorted error_cmp parsed.errors.items
  pub places_are : places_in parsed ≡ places

-- what a builder has built
abbrev pub IsBuilt : Texts → BuilderWithOrigins → Parsed → Type 0
IsBuilt names sink = IsMadeOf names sink.builder.state.site.nodes sink.builder.root (sink.builder.state.site.errors ++ sink.builder.tokenizer_errors)
    (option_map (again_laid sink.builder.state.site.again) (makings_of sink))

-- What was parsed is this: the same tree, in which the names inside the root are numbers of its table, the same root and the same
-- errors. The texts of the table are distinct, the known ones first.
pub record IsParse (parse_case : ParseCase) (parsed : Parsed) (parse : Parse) : Type 0 where
  pub table : AreNames parsed.names
  pub trees : mapped (spelling parsed.names) parsed.tree.trees ≡ parse.trees
  pub names_are : AreOf parsed.names (children_of parsed.root parsed.tree.trees)
  pub root : parsed.root ≡ root_of parse_case
  pub errors : parsed.errors.items ≡ parse.errors

-- The places are told where they are asked for, and are those of these bytes.
abbrev pub TellsPlaces : ParseOptions → ParseCase → List ℕ → Option (List Origin) → Type 0
TellsPlaces opts parse_case bytes (Some list) = (opts.places ≡ true) × AreOrigins opts parse_case bytes list
TellsPlaces opts parse_case bytes None = opts.places ≡ false

-- It is what the bytes are parsed as.
abbrev pub AnswersParse : ParseOptions → ParseCase → List ℕ → Result Parsed Refusal → Type 0
AnswersParse opts parse_case bytes (Ok parsed) = (parse : Parse) × IsParse parse_case parsed parse × Parses opts parse_case bytes (Ok parse)
    × TellsPlaces opts parse_case bytes (places_in parsed)
AnswersParse opts parse_case bytes (Err refusal) = Parses opts parse_case bytes (Err refusal)

-- the same, unless memory ran out
pub data ShowsParse (opts : ParseOptions) (parse_case : ParseCase) (bytes : List ℕ) (result : Result Parsed Refusal) : Type 0 where
  parse_ran_out : result ≡ Err Memory → ShowsParse opts parse_case bytes result
  parse_answered : AnswersParse opts parse_case bytes result → ShowsParse opts parse_case bytes result
