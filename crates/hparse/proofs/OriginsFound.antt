-- How the nodes of a parse were made, as it is told.
use Rattle.hparse.proofs.Names.{◌≡◌, ℕ, Bool, true, false, List, map, sym, refl, subst, Option, None, option_map, Texts, Grows, AreNames, spelling, grows_on, numbers, texts, numbers-agree, mapped_state, PlacedToken, State, steps_mapped, BuilderWithOrigins, Began, IsTaken, tokens_handed, ParseCase, ParseOptions, first_state, manner, BeginsIn, TellsPlaces, takes_item_with_origins, token_placed, MakesNodes, again_laid, first_makings, makings_if, makings_of, Origin}
use Rattle.hparse.proofs.Handing.{tokens_kept, tokens_mean}
use Rattle.hparse.proofs.Numbered.{placed_number, tokens_mapped}
use Rattle.hparse.proofs.Placed.{makes_on, makes_mapped, none_on}
use Rattle.hparse.proofs.Trees.{begins_mapped}

module _ {opts : ParseOptions} {parse_case : ParseCase} {began : Began BuilderWithOrigins} {bytes : List ℕ} {names : Texts} {now : BuilderWithOrigins}
    (unrefused : began.sink.builder.refused ≡ None) (begins_in : BeginsIn opts began.names parse_case began.sink.builder.state) {later : Texts}
    (grows : Grows names later) (are : AreNames later) (t : IsTaken takes_item_with_origins (manner opts parse_case) began bytes names now) where
  abbrev spell : ℕ → List ℕ
  spell = spelling later

  abbrev given : List (PlacedToken ℕ)
  given = map placed_number (tokens_handed t.handed.items)

  -- those of the tokens of the program are those of the tokens of the text
  in_texts : (made : List Origin) → MakesNodes numbers given began.sink.builder.state (first_makings began.sink.builder.state) now.builder.state made
      → MakesNodes texts (map token_placed t.tokens) (first_state opts parse_case) (first_makings (first_state opts parse_case))
      (mapped_state spell now.builder.state) made
  in_texts made makes =
      subst (λ (s : State (List ℕ)). MakesNodes texts (map token_placed t.tokens) s (first_makings s) (mapped_state spell now.builder.state) made)
      (begins_mapped opts began.names later parse_case began.sink.builder.state (grows_on began.names names later t.handed.grows grows) are begins_in)
      (subst (λ (ps : List (PlacedToken (List ℕ))).
      MakesNodes texts ps (mapped_state spell began.sink.builder.state) (first_makings began.sink.builder.state) (mapped_state spell now.builder.state) made)
      (tokens_mapped later are (tokens_handed t.handed.items) t.tokens
      (tokens_kept names later grows (tokens_handed t.handed.items) t.tokens (tokens_mean names t.handed.items t.tokens t.handed.items_mean)))
      (makes_mapped numbers texts spell (numbers-agree later are) (steps_mapped numbers texts spell (numbers-agree later are)) given
      began.sink.builder.state now.builder.state (first_makings began.sink.builder.state) made makes))

  -- the list of a page
  abbrev told_of : Option (List Origin) → Option (List Origin)
  told_of o = option_map (again_laid now.builder.state.site.again) o

  told_if : (b : Bool) → opts.places ≡ b → makings_of began.sink ≡ makings_if b began.sink.builder.state
      → TellsPlaces opts parse_case bytes (told_of (makings_of now))
  told_if true asks are_first = let k = makes_on began.sink now t.handed.items (first_makings began.sink.builder.state) unrefused are_first t.handed.hands in
      subst (λ (o : Option (List Origin)). TellsPlaces opts parse_case bytes (told_of o)) (sym k.1) (
        asks,
        record {
          tokens = t.tokens;
          errors = t.errors;
          state = mapped_state spell now.builder.state;
          made = k.0;
          read = t.read;
          makes = in_texts k.0 k.2;
          list_is = refl;
        },
      )
  told_if false asks are_first = subst (λ (o : Option (List Origin)). TellsPlaces opts parse_case bytes (told_of o))
      (sym (none_on began.sink now t.handed.items are_first t.handed.hands)) asks

  pub told : makings_of began.sink ≡ makings_if opts.places began.sink.builder.state → TellsPlaces opts parse_case bytes (told_of (makings_of now))
  told are_first = told_if opts.places refl are_first
