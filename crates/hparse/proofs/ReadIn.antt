-- What was read to the end of a reader, into a sink and into a parser.
use Rattle.hparse.proofs.Names.{◌≡◌, ℕ, List, [], ap, subst, Option, Result, Ok, Err, inl, inr, ◌⊎◌, Refusal, Memory, Texts, AreNames, grows_not, Item, Reading, Parsed, Parser, BuilderWithOrigins, Manner, HasRead, WasRead, Comes, ParseCase, ParseOptions, manner, takes_item_with_origins, HasParsed, AnswersParse, Parses, IsUnrefusedText, IsUnrefused, began_with, ComesInto, HasSettled, ReadsInto, ReadsInput}
use Rattle.hparse.proofs.Parsings.{BuiltBy, built_answers, refused_answers}
use Rattle.hparse.proofs.Turns.{Turns, shown_as, or_memory, but_for_memory}
use Rattle.hparse.proofs.Unrefused.{unrefused_text, has_settled, unrefused}

module _ {S R : Type 0} (left : R → Option (List ℕ)) (failed : R → ℕ) (gives : S → Item → Result (Unit {0}) Refusal → S → Type 0) (m : Manner) (sink : S)
    (piece : ℕ) (old new : R) (reading : Reading S) (answer : Result (Unit {0}) Refusal)
    (turns : Turns left failed gives m (began_with sink) reading piece [] old new answer) where
  abbrev now : S
  now = reading.feeding.sink

  as_read : (result : Result Texts Refusal) → ((e : Refusal) → answer ≡ Err e → result ≡ Err e)
      → ((bytes : List ℕ) → Comes gives m (began_with sink) bytes reading.feeding.names now answer → ComesInto gives m sink now bytes result)
      → ReadsInto gives m left failed sink piece old new now result
  as_read result fails shows = shown_as left failed (λ bytes. Comes gives m (began_with sink) bytes reading.feeding.names now) (ComesInto gives m sink now)
      (WasRead gives m (began_with sink)) (IsUnrefusedText m) (HasRead gives m (began_with sink) reading)
      (λ bytes. (names : Texts) × HasSettled gives m (began_with sink) bytes names now) (λ bytes u. unrefused_text u.1)
      (λ bytes h. (reading.feeding.names, has_settled h)) piece [] old new answer result fails (λ bytes e is r. (reading.feeding.names, r)) shows turns

  pub read_all : answer ≡ Ok tt → ReadsInto gives m left failed sink piece old new now (Ok reading.feeding.names)
  read_all is =
      as_read (Ok reading.feeding.names) (λ e differs. absurd cc) (λ bytes c. subst (Comes gives m (began_with sink) bytes reading.feeding.names now) is c)

  pub read_some : (e : Refusal) → answer ≡ Err e → ReadsInto gives m left failed sink piece old new now (Err e)
  read_some e is = as_read (Err e) (λ x same. cc) (λ bytes c.
      (reading.feeding.names, subst (Comes gives m (began_with sink) bytes reading.feeding.names now) is c))

module _ {R : Type 0} (left : R → Option (List ℕ)) (failed : R → ℕ) {opts : ParseOptions} {parse_case : ParseCase} {fed : List ℕ} {parser : Parser}
    (h : HasParsed opts parse_case parser fed) (piece : ℕ) (old new : R) (reading : Reading BuilderWithOrigins) (are : AreNames reading.feeding.names) where
  abbrev pub Turned : Result (Unit {0}) Refusal → Type 0
  Turned answer = Turns left failed takes_item_with_origins (manner opts parse_case) h.began reading piece fed old new answer

  or_answer : (e : Refusal) (bytes : List ℕ) → (e ≡ Memory) ⊎ Parses opts parse_case bytes (Err e) → or_memory (AnswersParse opts parse_case) bytes (Err e)
  or_answer e bytes (inl why) = inl (ap (λ (x : Refusal). Err x) why)
  or_answer e bytes (inr p) = inr p

  refused : (e : Refusal) (bytes : List ℕ)
      → Comes takes_item_with_origins (manner opts parse_case) h.began bytes reading.feeding.names reading.feeding.sink (Err e)
      → or_memory (AnswersParse opts parse_case) bytes (Err e)
  refused e bytes r = or_answer e bytes (refused_answers h reading (grows_not reading.feeding.names) are bytes r)

  as_parsed : (answer : Result (Unit {0}) Refusal) (result : Result Parsed Refusal) → ((e : Refusal) → answer ≡ Err e → result ≡ Err e)
      → ((bytes : List ℕ) → Comes takes_item_with_origins (manner opts parse_case) h.began bytes reading.feeding.names reading.feeding.sink answer
      → or_memory (AnswersParse opts parse_case) bytes result) → Turned answer
      → ReadsInput left failed (AnswersParse opts parse_case) (IsUnrefused opts parse_case) piece fed old new result
  as_parsed answer result fails shows turns = but_for_memory left failed (AnswersParse opts parse_case) (IsUnrefused opts parse_case) piece fed old new result
      (shown_as left failed (λ bytes. Comes takes_item_with_origins (manner opts parse_case) h.began bytes reading.feeding.names reading.feeding.sink)
      (or_memory (AnswersParse opts parse_case)) (WasRead takes_item_with_origins (manner opts parse_case) h.began) (IsUnrefused opts parse_case)
      (HasRead takes_item_with_origins (manner opts parse_case) h.began reading) (IsUnrefused opts parse_case) (λ bytes u. unrefused h bytes u)
      (λ bytes r. unrefused h bytes (reading, r)) piece fed old new answer result fails (λ bytes e is. refused e bytes) shows turns)

  pub not_parsed : (e : Refusal) → Turned (Err e)
      → ReadsInput left failed (AnswersParse opts parse_case) (IsUnrefused opts parse_case) piece fed old new (Err e)
  not_parsed e = as_parsed (Err e) (Err e) (λ x same. cc) (refused e)

  pub parsed : (result : Result Parsed Refusal) → BuiltBy reading.feeding.names reading.feeding.sink result → Turned (Ok tt)
      → ReadsInput left failed (AnswersParse opts parse_case) (IsUnrefused opts parse_case) piece fed old new result
  parsed result built =
      as_parsed (Ok tt) result (λ x differs. absurd cc) (λ bytes t. built_answers h reading (grows_not reading.feeding.names) are result built bytes t)
