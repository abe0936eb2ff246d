-- What the input of a builder becomes, with names as texts.
use Rattle.hparse.proofs.Names.{◌≡◌, ℕ, List, [], ◌++◌, map, sym, refl, ap, ◌∙◌, subst, Option, None, Ok, Err, append_assoc, inl, inr, ◌⊎◌, IsPermutation, IsPermutation-trans, IsPermutation-append_left, IsPermutation-append_comm, ParseError, Refusal, Memory, Texts, Grows, AreNames, spelling, grows_on, input_errors, Given, Tok, tokens_in, numbers, texts, Goes, Refused, mapped_state, State, PlacedToken, Steps, steps_mapped, numbers-agree, Building, Origin, Parsed, Began, WasHanded, reads_in, tokens_handed, errors_handed, IsRefusedFor, by_sink, by_tag, by_bytes, by_memory, IsTaken, AreOf, TokensAreOf, ParseCase, document, fragment, ParseOptions, Parses, first_state, manner, BeginsIn, a_document, a_fragment, AnswersParse, TellsPlaces, token_placed, TokensMean, text_kept, Nodes, mapped, Outcome, outcome_map, refused_token, refused_tag, root_of, IsMadeOf, places_in, document-of, fragment-of}
use Rattle.hparse.specs.Parse.{refused_bytes, accepted}
use Rattle.hparse.proofs.Built.{Became, became, builds, refused_by_rules}
use Rattle.hparse.proofs.Handing.{tokens_kept, tokens_mean, or_then}
use Rattle.hparse.proofs.Numbered.{within, tokens_of_table, children_are_of, placed_number, tokens_mapped, fragment_mapped}

-- the names in what tokens lead to from there are of the table
trees_of_table : (opts : ParseOptions) (first later : Texts) (parse_case : ParseCase) (s s' : State ℕ) (ts : List (PlacedToken ℕ)) → Grows first later
    → AreNames later → BeginsIn opts first parse_case s → TokensAreOf later ts → Steps numbers ts s (Goes s') → AreOf later s'.site.nodes.trees
trees_of_table opts first later document _ s' ts grows are a_document of steps = document-of later are opts.quirks opts.limits ts s' of steps
trees_of_table opts first later (fragment _) _ s' ts grows are (a_fragment context id is) of steps =
    fragment-of later are id opts.limits ts s' (within later id context (text_kept first later id context grows is)) of steps

-- the state in which a parse begins
pub begins_mapped : (opts : ParseOptions) (first later : Texts) (parse_case : ParseCase) (s : State ℕ) → Grows first later → AreNames later
    → BeginsIn opts first parse_case s → mapped_state (spelling later) s ≡ first_state opts parse_case
begins_mapped opts first later document _ grows are a_document = refl
begins_mapped opts first later (fragment _) _ grows are (a_fragment context id is) =
    fragment_mapped later are id context opts.limits (text_kept first later id context grows is)

module _ (opts : ParseOptions) (parse_case : ParseCase) (began : Began Building) (bytes : List ℕ) (names : Texts) (now : Building)
    (unrefused : began.sink.refused ≡ None) (begins_in : BeginsIn opts began.names parse_case began.sink.state) (later : Texts) (grows : Grows names later)
    (are : AreNames later) where
  abbrev spell : ℕ → List ℕ
  spell = spelling later

  -- what comes of tokens comes of what they stand for
  in_texts : Grows began.names names → (ts : List Given) (tokens : List Tok) (o : Outcome (State ℕ)) → TokensMean names ts tokens
      → Steps numbers (map placed_number ts) began.sink.state o
      → Steps texts (map token_placed tokens) (first_state opts parse_case) (outcome_map (mapped_state spell) o)
  in_texts grew ts tokens o mean steps = subst (λ (s : State (List ℕ)). Steps texts (map token_placed tokens) s (outcome_map (mapped_state spell) o))
      (begins_mapped opts began.names later parse_case began.sink.state (grows_on began.names names later grew grows) are begins_in)
      (subst (λ (ps : List (PlacedToken (List ℕ))). Steps texts ps (mapped_state spell began.sink.state) (outcome_map (mapped_state spell) o))
      (tokens_mapped later are ts tokens (tokens_kept names later grows ts tokens mean))
      ((steps_mapped numbers texts spell (numbers-agree later are)).steps (map placed_number ts) began.sink.state o steps))

  -- where all of them were handed over
  pub gone : (tokens : List Tok) (errors : List ParseError) → WasHanded builds names began tokens errors (Ok tt) now
      → Steps texts (map token_placed tokens) (first_state opts parse_case) (Goes (mapped_state spell now.state))
  gone tokens errors h = in_texts h.grows (tokens_handed h.items) tokens (Goes now.state) (tokens_mean names h.items tokens h.items_mean)
      (became began.sink now h.items unrefused h.hands).steps

  -- a refusal, but for want of memory
  pub parses_refused : (e : Refusal) → IsRefusedFor builds (manner opts parse_case) began bytes names now e
      → (e ≡ Memory) ⊎ Parses opts parse_case bytes (Err e)
  parses_refused e (by_sink refusal events errors h front) =
      or_then (refused_by_rules began.sink now h.items e unrefused h.hands) (λ steps. inr (refused_token e events front
      (in_texts h.grows (tokens_handed h.items) (tokens_in events) (Refused e) (tokens_mean names h.items (tokens_in events) h.items_mean) steps)))
  parses_refused e (by_tag name at tokens errors h refused) = inr (refused_tag name at tokens (mapped_state spell now.state) refused (gone tokens errors h))
  parses_refused e (by_memory events errors h front) = inl refl
  parses_refused e (by_bytes refusal tokens errors handed h read is) =
      inr (refused_bytes e errors (mapped_state spell now.state) (record { tokens = tokens; read = read; steps = gone tokens handed h }) is)

  module _ (none_told : began.sink.tokenizer_errors ≡ []) (root_is : began.sink.root ≡ root_of parse_case) where
    -- what was built
    pub parses_taken : (parsed : Parsed) → (places : Option (List Origin)) → IsTaken builds (manner opts parse_case) began bytes names now
        → IsMadeOf later now.state.site.nodes now.root (now.state.site.errors ++ now.tokenizer_errors) places parsed
        → TellsPlaces opts parse_case bytes (places_in parsed) → AnswersParse opts parse_case bytes (Ok parsed)
    parses_taken parsed places t r tokenizer_errors = (
      record { trees = mapped spell now.state.site.nodes.trees; errors = parsed.errors.items },
      record {
        table = subst AreNames (sym r.names_are) are;
        trees = ap (λ (n : Texts). mapped (spelling n) parsed.tree.trees) r.names_are ∙ ap (λ (t : Nodes ℕ). mapped spell t.trees) r.tree_is;
        names_are = children_are_of parsed.names parsed.root parsed.tree.trees
            (subst (λ (n : Texts). AreOf n parsed.tree.trees) (sym r.names_are) (subst (λ (t : Nodes ℕ). AreOf later t.trees) (sym r.tree_is) of_table));
        root = r.root_is ∙ b.root ∙ root_is;
        errors = refl;
      },
      accepted t.errors parsed.errors.items (mapped_state spell now.state)
          (record { tokens = t.tokens; read = t.read; steps = gone t.tokens (given ++ t.errors) t.handed }) order r.sorted t.whole,
      tokenizer_errors,
    ) where
      given : List ParseError
      given = input_errors (reads_in (manner opts parse_case) bytes)

      b : Became began.sink now t.handed.items
      b = became began.sink now t.handed.items unrefused t.handed.hands

      of_table : AreOf later now.state.site.nodes.trees
      of_table = trees_of_table opts began.names later parse_case began.sink.state now.state (map placed_number (tokens_handed t.handed.items))
          (grows_on began.names names later t.handed.grows grows) are begins_in (tokens_of_table later (tokens_handed t.handed.items) t.tokens
          (tokens_kept names later grows (tokens_handed t.handed.items) t.tokens (tokens_mean names t.handed.items t.tokens t.handed.items_mean))) b.steps

      told_is : now.tokenizer_errors ≡ errors_handed t.handed.items
      told_is = b.tokenizer_errors ∙ ap (λ (x : List ParseError). x ++ errors_handed t.handed.items) none_told

      order : IsPermutation (given ++ (t.errors ++ now.state.site.errors)) parsed.errors.items
      order = subst (λ (x : List ParseError). IsPermutation x parsed.errors.items) (append_assoc given t.errors now.state.site.errors)
          (IsPermutation-trans ((given ++ t.errors) ++ now.state.site.errors) (errors_handed t.handed.items ++ now.state.site.errors) parsed.errors.items
          (IsPermutation-append_left now.state.site.errors (given ++ t.errors) (errors_handed t.handed.items) t.handed.errors_are)
          (IsPermutation-trans (errors_handed t.handed.items ++ now.state.site.errors) (now.state.site.errors ++ errors_handed t.handed.items)
          parsed.errors.items (IsPermutation-append_comm (errors_handed t.handed.items) now.state.site.errors)
          (subst (λ (x : List ParseError). IsPermutation (now.state.site.errors ++ x) parsed.errors.items) told_is r.errors_are)))
