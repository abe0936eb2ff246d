-- What a call gives, from what was given and what came of the input.
use Rattle.html_c.proofs.Names.{◌≡◌, ℕ, Bool, true, List, [], Option, None, Some, Ok, Err, map, ap, ◌∙◌, refl, subst, sym, if◌then◌else◌, Refusal, Memory, text_of, Forest, children_of, ParseOptions, Parsed, own_context, AllowsContext, context_of, prints_of, ComesToNone, none_for_memory, Tells, context_told, ComesToParse, GivesParse, Given, false, TellsPlaces, places_in, Origin, Escaping, parsed_text, Command, Task, children_are, parsed_printed, GivesText, GivesNone, case_given, comes_to_none, GivesNoRows, no_rows, prints, IsCommand, escaping_told, may_be_in, GivesErrors, GivesPage, GivesOrigins, GivesWanted, error_row, wants_told, origins_of, parsed_parts, origins_by, Wants, arith}
use Rattle.hwrite.specs.declared.command.Task.TheVariants as task
use Rattle.html_c.specs.declared.fault.CallFault.TheVariants as fault
use Rattle.html_c.proofs.Trees.{same_origins, some_rows}

-- a command's task is of an input in a context that is allowed
pub allowed : (t : Task) {context told : Option (List ℕ)} → context ≡ told → AllowsContext told → AllowsContext (context_of t context)
allowed task.Tokens is allows = tt
allowed other is allows = subst AllowsContext (sym is) allows

module _ {input : List ℕ} {given : Given} {opts : ParseOptions} (tells : Tells given opts) where
  module _ {number : ℕ} {command : Command} (is : IsCommand number given command) where
    pub a_text : {text : List ℕ} → prints_of command.escaping command.task (own_context command.context) opts input (Ok text)
        → GivesText number input given text
    a_text {text} its = record {
      task = command.task;
      how = command.escaping;
      opts = opts;
      task_is = is.task;
      placed = is.placed;
      how_is = is.escaping;
      tells = tells;
      text_is = subst (λ (c : Option (List ℕ)). prints_of command.escaping command.task c opts input (Ok text)) is.context its;
    }

    pub no_text : {refusal : Refusal} → ComesToNone (prints_of command.escaping command.task (own_context command.context) opts) input refusal
        → GivesNone number input given (fault.Refused refusal)
    no_text {refusal} why = comes_to_none command.task command.escaping opts refusal is.task is.placed is.escaping tells
        (subst (λ (c : Option (List ℕ)). ComesToNone (prints_of command.escaping command.task c opts) input refusal) is.context why) refl

  module _ {context : Option (List ℕ)} (is : context ≡ context_told given.context.now) where
    pub a_parse : {places : Bool} {parsed : Parsed} → opts.places ≡ places → ComesToParse opts context input (Ok parsed) → GivesParse input given places parsed
    a_parse {parsed = parsed} asks its = record
        { opts = opts; tells = tells; asks = asks; answers = subst (λ (c : Option (List ℕ)). ComesToParse opts c input (Ok parsed)) is its }

    pub no_parse : {refusal : Refusal} → ComesToParse opts context input (Err refusal) → GivesNoRows input given (fault.Refused refusal)
    no_parse {refusal} why = no_rows opts refusal tells (subst (λ (c : Option (List ℕ)). ComesToParse opts c input (Err refusal)) is why) refl

-- the task Write is one of every input
writes_in : (context : Option (List ℕ)) → may_be_in 3 context ≡ true
writes_in context = grind arith

module _ {input : List ℕ} {given : Given} {places : Bool} {parsed : Parsed} (h : GivesParse input given places parsed) where
  -- memory ran out for what was to be made of a parse
  pub no_memory : {refusal : Refusal} → refusal ≡ Memory → GivesNoRows input given (fault.Refused refusal)
  no_memory {refusal} is = no_rows h.opts refusal h.tells (none_for_memory is) refl

  errors_where : (wants : Bool) → GivesWanted wants (GivesErrors input given) (if wants then map error_row parsed.errors.items else [])
  errors_where false = refl
  errors_where true = let (parse, made, parses, told) = h.answers in
      record { opts = h.opts; tells = h.tells; parse = parse; parses = parses; rows_are = ap (map error_row) made.errors }

  origins_where : (wants : Bool) (kept : Option (List Origin)) → h.opts.places ≡ wants → TellsPlaces h.opts (case_given given) input kept
      → GivesWanted wants (GivesOrigins input given) (origins_by kept (children_of parsed.root parsed.tree.trees))
  origins_where false None asks told = refl
  origins_where false (Some list) asks (told, its) = absurd cc
  origins_where true None asks told = absurd cc
  origins_where true (Some list) asks (told, its) = let (parse, made, parses, all) = h.answers in
      record {
        opts = h.opts;
        tells = h.tells;
        parse = parse;
        parses = parses;
        list = list;
        origins = its;
        rows_are = sym (same_origins (text_of parsed.names) list (children_of parsed.root parsed.tree.trees))
            ∙ ap (λ (f : Forest (List ℕ)). origins_of list f) (children_are (case_given given) parsed parse made);
      }

  module _ {how : Escaping} (how_is : escaping_told given.escaping ≡ Some how) where
    text_where : (wants : Bool) → prints task.Write how given h.opts input (Ok (parsed_text how task.Write None parsed))
        → GivesWanted wants (GivesText 3 input given) (if wants then parsed_text how task.Write None parsed else [])
    text_where false printed = refl
    text_where true printed = record {
      task = task.Write;
      how = how;
      opts = h.opts;
      task_is = refl;
      placed = writes_in (context_told given.context.now);
      how_is = how_is;
      tells = h.tells;
      text_is = printed;
    }

    pub a_page : {number : ℕ} {wants : Wants} {tree : Parsed} {text : List ℕ} → wants_told number ≡ Some wants → places ≡ wants.origins → tree ≡ parsed
        → text ≡ (if wants.text then parsed_text how task.Write None tree else []) → GivesPage number input given (parsed_parts tree wants.errors text)
    a_page {wants = wants} wants_are asks same is = rw (is, same) record {
      wants = wants;
      how = how;
      wants_are = wants_are;
      how_is = how_is;
      tree = some_rows h;
      errors = errors_where wants.errors;
      text = text_where wants.text (parsed_printed how task.Write h.opts (context_told given.context.now) input parsed h.answers);
      origins = origins_where wants.origins (places_in parsed) (h.asks ∙ asks) (let (parse, made, parses, told) = h.answers in told);
    }
