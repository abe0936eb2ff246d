-- What a reading was fed is unrefused: its tokenizer has handed over every span that is settled.
use Rattle.hparse.proofs.Names.{◌≡◌, ℕ, List, [], ◌∷◌, ◌++◌, map, ap, ◌∙◌, subst, append-nil, append_assoc, Result, Placed, RawKind, Refusal, Texts, grows_not, Policy, items, characters_among-items, start_kind, Tok, Event, Item, Entities, HasTaken, texts, Goes, State, PlacedToken, Steps, and, Parser, Reading, HasRead, WasRead, Manner, Began, settled_in, ParseCase, ParseOptions, first_state, manner, takes_item_with_origins, HasParsed, token_placed, IsUnrefusedText, IsUnrefused, map-append, IsUndecided, errors_among-items, Span, tokens_of, AreTaken, holds, in_ambiguous_ampersand, later_errors, Tokenizer, settled_are_taken, AreOfFront, HasSettled, AreSettledIn, settled_text}
use Rattle.hmodes.specs.Step.{none}
use Rattle.hparse.proofs.Placed.{handed_inner, inner}
use Rattle.hparse.proofs.Trees.{gone}

-- what was taken is of a front of the text, whatever comes after
of_front : (table : Entities) (start : RawKind) (t : Tokenizer) (names : Texts) (text : List Placed) (taken : List Event)
    → HasTaken table start t names text taken → (more : List Placed) (end : ℕ) → AreOfFront table start text more end taken
of_front table start t names text taken (holds h) more end = let st = h.stands end more in
    record {
      spans = st.spans;
      rest = h.held ++ more;
      later = [];
      text_is = ap (λ (x : List Placed). x ++ more) h.text_is ∙ append_assoc h.front h.held more ∙ ap (λ (x : List Placed). x ++ (h.held ++ more)) st.front_is;
      cut = st.cut;
      tokens_are = st.tokens_are;
      errors_are = st.errors_are;
    }
of_front table start t names text taken (in_ambiguous_ampersand h) more end = let st = h.stands end more in
    record {
      spans = st.spans;
      rest = more;
      later = later_errors t.at more;
      text_is = ap (λ (x : List Placed). x ++ more) st.front_is;
      cut = st.cut;
      tokens_are = st.tokens_are;
      errors_are = st.errors_are;
    }

-- what leads on from tokens leads on from the first of them
pub front_steps : (ts us : List (PlacedToken (List ℕ))) (s s' : State (List ℕ)) → Steps texts (ts ++ us) s (Goes s')
    → (mid : State (List ℕ)) × Steps texts ts s (Goes mid)
front_steps [] us s s' steps = (s, none)
front_steps (t ∷ ts) us s s' (and first rest) = let k = front_steps ts us _ s' rest in (k.0, and first k.1)

-- the same of tokens of a text
pub leads_on : (tokens front others : List Tok) (s s' : State (List ℕ)) → tokens ≡ front ++ others → Steps texts (map token_placed tokens) s (Goes s')
    → (mid : State (List ℕ)) × Steps texts (map token_placed front) s (Goes mid)
leads_on tokens front others s s' are steps = front_steps (map token_placed front) (map token_placed others) s s'
    (subst (λ (ts : List (PlacedToken (List ℕ))). Steps texts ts s (Goes s')) (ap (map token_placed) are ∙ map-append token_placed front others) steps)

module _ {S : Type 0} {gives : S → Item → Result (Unit {0}) Refusal → S → Type 0} {m : Manner} {began : Began S} {reading : Reading S} {bytes : List ℕ}
    (h : HasRead gives m began reading bytes) where
  all_fed : h.holds.fed ≡ items (settled_in m bytes)
  all_fed = rw (h.all_fed, append-nil h.holds.fed) at h.holds.items_are

  has_taken : HasTaken m.table (start_kind m.start) reading.feeding.tokenizer reading.feeding.names (settled_text m bytes) h.holds.was_fed.taken
  has_taken = rw (all_fed, characters_among-items (settled_in m bytes)) at h.holds.was_fed.has_taken

  are_taken : (spans : List Span) → AreSettledIn m bytes spans → AreTaken h.holds.was_fed.taken spans
  are_taken spans settled = settled_are_taken m.table (start_kind m.start) reading.feeding.tokenizer reading.feeding.names (settled_text m bytes)
      h.holds.was_fed.taken spans h.is_table has_taken settled

  pub unrefused_text : IsUnrefusedText m bytes
  unrefused_text = record {
    undecided = subst (λ (how : Policy). IsUndecided how bytes) h.how_is h.fed.undecided;
    in_profile = λ spans settled. (are_taken spans settled).in_profile;
  }

  -- and its sink took what is settled
  pub has_settled : HasSettled gives m began bytes reading.feeding.names reading.feeding.sink
  has_settled = record {
    unrefused = unrefused_text;
    events = h.holds.was_fed.taken;
    handed = rw (all_fed, errors_among-items (settled_in m bytes)) at h.holds.was_fed.handed;
    no_more = of_front m.table (start_kind m.start) reading.feeding.tokenizer reading.feeding.names (settled_text m bytes) h.holds.was_fed.taken has_taken;
    no_less = are_taken;
  }

module _ {opts : ParseOptions} {parse_case : ParseCase} {bytes : List ℕ} {old : Parser} (h : HasParsed opts parse_case old bytes) where
  -- what was read after that by what the parser reads
  pub unrefused : (all : List ℕ) → WasRead takes_item_with_origins (manner opts parse_case) h.began all → IsUnrefused opts parse_case all
  unrefused all (reading, read) = let fed = read.holds.was_fed in
      record {
        text = unrefused_text read;
        steps = λ spans settled.
            let t = are_taken read spans settled in
            leads_on _ (tokens_of spans) t.others (first_state opts parse_case) _ t.tokens_are
            (gone opts parse_case (inner h.began) all reading.feeding.names reading.feeding.sink.builder h.unrefused h.begins reading.feeding.names
            (grows_not reading.feeding.names) read.are_names _ _ (handed_inner fed.handed));
      }
