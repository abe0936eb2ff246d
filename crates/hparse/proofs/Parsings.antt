-- What one piece more does to a parser, and what the input's end does.
use Rattle.hparse.proofs.Names.{◌≡◌, ℕ, List, ◌++◌, refl, sym, ap, subst, Option, None, option_map, Result, Ok, Err, inl, inr, ◌⊎◌, MatchResult, Refusal, Memory, Texts, Grows, AreNames, Origin, Parsed, Parser, BuilderWithOrigins, Reading, HasRead, FeedsPiece, piece_refused, piece_read, EndsInput, IsRefusedFor, IsTaken, ParseCase, ParseOptions, Parses, manner, takes_item_with_origins, HasParsed, AnswersParse, TellsPlaces, FeedsParser, feed_ran_out, feed_refused, feed_read, IsBuilt, ShowsParse, parse_ran_out, parse_answered, again_laid, makings_of}
use Rattle.hparse.proofs.Handing.{or_then}
use Rattle.hparse.proofs.Built.{became}
use Rattle.hparse.proofs.Pieces.{all_or_memory}
use Rattle.hparse.proofs.Placed.{handed_on, inner, refused_inner, taken_inner}
use Rattle.hparse.proofs.OriginsFound.{told}
use Rattle.hparse.proofs.Trees.{parses_refused, parses_taken}

-- what is built of a builder that has refused nothing
abbrev pub BuiltBy : Texts → BuilderWithOrigins → Result Parsed Refusal → Type 0
BuiltBy names built result = built.builder.refused ≡ None → MatchResult result (IsBuilt names built) (λ refusal. refusal ≡ Memory)

module _ {opts : ParseOptions} {parse_case : ParseCase} {bytes : List ℕ} {old : Parser} (h : HasParsed opts parse_case old bytes) where
  -- its reading, wherever that is borrowed
  pub has_read : {r : Reading BuilderWithOrigins} → r ≡ old.reading.value → HasRead takes_item_with_origins (manner opts parse_case) h.began r bytes
  has_read is = subst (λ (r : Reading BuilderWithOrigins). HasRead takes_item_with_origins (manner opts parse_case) h.began r bytes) (sym is) h.has_read

  -- a piece that was read
  pub feeds_on : (piece : List ℕ) {new : Parser} → new.refused ≡ None
      → FeedsPiece takes_item_with_origins (manner opts parse_case) h.began (bytes ++ piece) (Ok tt) new.reading.value
      → FeedsParser opts parse_case (bytes ++ piece) (Ok tt) new
  feeds_on piece accepts (piece_refused refusal is refused) = absurd cc
  feeds_on piece accepts (piece_read is k) = feed_read refl (record {
    accepts = accepts;
    began = h.began;
    unrefused = h.unrefused;
    none_told = h.none_told;
    root_is = h.root_is;
    begins = h.begins;
    places = h.places;
    has_read = k;
  })

  module _ (reading : Reading BuilderWithOrigins) {later : Texts} (grows : Grows reading.feeding.names later) (are : AreNames later) {e : Refusal} where
    pub refused_answers : (all : List ℕ)
        → IsRefusedFor takes_item_with_origins (manner opts parse_case) h.began all reading.feeding.names reading.feeding.sink e
        → (e ≡ Memory) ⊎ Parses opts parse_case all (Err e)
    refused_answers all r = or_then (refused_inner r)
        (λ by. parses_refused opts parse_case (inner h.began) all reading.feeding.names reading.feeding.sink.builder h.unrefused h.begins later grows are e by)

    -- a piece that was refused
    pub feeds_refused : (piece : List ℕ) {new : Parser} → FeedsPiece takes_item_with_origins (manner opts parse_case) h.began (bytes ++ piece) (Err e) reading
        → FeedsParser opts parse_case (bytes ++ piece) (Err e) new
    feeds_refused piece (piece_refused refusal is from) = let same : refusal ≡ e = cc in
        elim (all_or_memory e (λ (more : List ℕ). Parses opts parse_case ((bytes ++ piece) ++ more) (Err e)) (λ more. refused_answers ((bytes ++ piece) ++ more)
        (subst (IsRefusedFor takes_item_with_origins (manner opts parse_case) h.began ((bytes ++ piece) ++ more) reading.feeding.names reading.feeding.sink)
        same (from more)))) [ inl why ↦ feed_ran_out (ap (λ (x : Refusal). Err x) why) | inr all ↦ feed_refused e refl all ]
    feeds_refused piece (piece_read is k) = absurd cc

    -- an input that is refused at its end
    pub ends_refused : EndsInput takes_item_with_origins (manner opts parse_case) h.began bytes (Err e) reading → ShowsParse opts parse_case bytes (Err e)
    ends_refused r = elim (refused_answers bytes r) [ inl why ↦ parse_ran_out (ap (λ (x : Refusal). Err x) why) | inr p ↦ parse_answered p ]

  module _ (reading : Reading BuilderWithOrigins) {later : Texts} (grows : Grows reading.feeding.names later) (are : AreNames later) where
    abbrev now : BuilderWithOrigins
    now = reading.feeding.sink

    abbrev Took : List ℕ → Type 0
    Took all = IsTaken takes_item_with_origins (manner opts parse_case) h.began all reading.feeding.names now

    -- a builder that took all of its input has refused nothing
    still_unrefused : (all : List ℕ) → Took all → now.builder.refused ≡ None
    still_unrefused all t =
        (became h.began.sink.builder now.builder t.handed.items h.unrefused (handed_on h.began.sink now t.handed.items t.handed.hands)).unrefused

    -- what it built
    taken : (parsed : Parsed) (all : List ℕ) → Took all → IsBuilt later now parsed → AnswersParse opts parse_case all (Ok parsed)
    taken parsed all t r = parses_taken opts parse_case (inner h.began) all reading.feeding.names now.builder h.unrefused h.begins later grows are h.none_told
        h.root_is parsed (option_map (again_laid now.builder.state.site.again) (makings_of now)) (taken_inner t) r
        (subst (λ (places : Option (List Origin)). TellsPlaces opts parse_case all places) (sym r.places_are) (told h.unrefused h.begins grows are t h.places))

    -- an input that was taken
    pub ends_built : (result : Result Parsed Refusal) → EndsInput takes_item_with_origins (manner opts parse_case) h.began bytes (Ok tt) reading
        → BuiltBy later now result → ShowsParse opts parse_case bytes result
    ends_built (Ok parsed) t r = parse_answered (taken parsed bytes t (r (still_unrefused bytes t)))
    ends_built (Err e) t r = parse_ran_out (ap (λ (x : Refusal). Err x) (r (still_unrefused bytes t)))

    -- wherever it ended
    pub built_answers : (result : Result Parsed Refusal) → BuiltBy later now result → (all : List ℕ)
        → IsTaken takes_item_with_origins (manner opts parse_case) h.began all reading.feeding.names now
        → (result ≡ Err Memory) ⊎ AnswersParse opts parse_case all result
    built_answers (Ok parsed) r all t = inr (taken parsed all t (r (still_unrefused all t)))
    built_answers (Err e) r all t = inl (ap (λ (x : Refusal). Err x) (r (still_unrefused all t)))

-- names that are known of a reading, wherever that is borrowed
pub names_of : (reading borrowed : Reading BuilderWithOrigins) → borrowed ≡ reading → AreNames borrowed.feeding.names → AreNames reading.feeding.names
names_of reading borrowed is are = subst (λ (r : Reading BuilderWithOrigins). AreNames r.feeding.names) is are
