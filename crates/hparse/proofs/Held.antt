-- What a feeding holds after more items, and after the end of the text.
use Rattle.hparse.proofs.Names.{◌≡◌, ◌<◌, arith, ℕ, zero, suc, ◌+◌, true, false, length, List, [], ◌∷◌, ◌++◌, sym, refl, ap, ◌∙◌, subst, Result, Ok, Err, append-nil, append_assoc, map, MatchResult, IsPermutation, IsPermutation-refl, IsPermutation-append_right, IsPermutation-append_comm, ParseError, Placed, RawKind, Refusal, Texts, Grows, Hands, grows_not, CharItem, Character, InputError, characters_among, errors_among, items, bad_each, input_errors, run_items, start_kind, replacement_run, Tok, Event, Reports, Item, gives_item, AreFront, tokens_in, errors_in, HandsEvents, Entities, HasTaken, Manner, Began, WasHanded, Intake, TakesItems, items_stopped, items_taken, Proceeds, EndsText, text_stopped, text_taken, Memory, by_sink, by_tag, by_memory, is_err, ◌==◌, len_utf8, placed, error, ReplacedBytes, OutOfProfile, reports_given, Handed, eof_of, Tokenizer, holds, in_ambiguous_ampersand, Takes, take_ran_out, take_refused, take_sink_refused, take_took, Finishes, finish_ran_out, finish_sink_refused, finish_took, tokens_in-append, errors_in-append, tokens_in-map, errors_in-map, WasFed, end_in, input_text}
use Rattle.hparse.proofs.Handing.{handed_more, handed_as}

pub characters_among-append : (xs ys : List CharItem) → characters_among (xs ++ ys) ≡ characters_among xs ++ characters_among ys
characters_among-append [] ys = refl
characters_among-append (Character p ∷ xs) ys = ap (λ (x : List Placed). p ∷ x) (characters_among-append xs ys)
characters_among-append (InputError e ∷ xs) ys = characters_among-append xs ys

pub errors_among-append : (xs ys : List CharItem) → errors_among (xs ++ ys) ≡ errors_among xs ++ errors_among ys
errors_among-append [] ys = refl
errors_among-append (Character p ∷ xs) ys = errors_among-append xs ys
errors_among-append (InputError e ∷ xs) ys = ap (λ (x : List ParseError). e ∷ x) (errors_among-append xs ys)

-- what was taken is a front of what the text gives, whatever comes after
pub taken_front : (table : Entities) (start : RawKind) (t : Tokenizer) (names : Texts) (text : List Placed) (taken : List Event)
    → HasTaken table start t names text taken → (more : List Placed) (end : ℕ) → AreFront table start (text ++ more) end taken
taken_front table start t names text taken (holds h) more end = let st = h.stands end more in let rest : List Placed = h.held ++ more in
    record {
      spans = st.spans;
      rest = rest;
      others = eof_of end rest;
      text_is = ap (λ (x : List Placed). x ++ more) h.text_is ∙ append_assoc h.front h.held more ∙ ap (λ (x : List Placed). x ++ rest) st.front_is;
      cut = st.cut;
      in_profile = st.in_profile;
      front_is = ap (λ (x : List Tok). x ++ eof_of end rest) st.tokens_are;
    }
taken_front table start t names text taken (in_ambiguous_ampersand h) more end = let st = h.stands end more in
    record {
      spans = st.spans;
      rest = more;
      others = eof_of end more;
      text_is = ap (λ (x : List Placed). x ++ more) st.front_is;
      cut = st.cut;
      in_profile = st.in_profile;
      front_is = ap (λ (x : List Tok). x ++ eof_of end more) st.tokens_are;
    }

-- more errors, among what came before
with_errors : (before after es : List ParseError) → IsPermutation ((before ++ es) ++ after) ((before ++ after) ++ es)
with_errors before after es = subst (λ (x : List ParseError). IsPermutation x ((before ++ after) ++ es)) (sym (append_assoc before es after))
    (subst (IsPermutation (before ++ (es ++ after))) (sym (append_assoc before after es))
    (IsPermutation-append_right before (es ++ after) (after ++ es) (IsPermutation-append_comm es after)))

-- the characters of what was handed over, what is now, and what comes after
with_more : (items xs more : List CharItem)
    → characters_among items ++ (characters_among xs ++ characters_among more) ≡ characters_among (items ++ (xs ++ more))
with_more items xs more =
    ap (λ (x : List Placed). characters_among items ++ x) (sym (characters_among-append xs more)) ∙ sym (characters_among-append items (xs ++ more))

regrouped : (fed unfed items more : List CharItem) → fed ++ ((unfed ++ items) ++ more) ≡ (fed ++ unfed) ++ (items ++ more)
regrouped fed unfed items more = ap (λ (x : List CharItem). fed ++ x) (append_assoc unfed items more) ∙ sym (append_assoc fed unfed (items ++ more))

module _ {S : Type 0} {gives : S → Item → Result (Unit {0}) Refusal → S → Type 0} {m : Manner} {began : Began S} {old : Intake S} (new : Intake S)
    {items : List CharItem} (h : WasFed gives m began old items) where
  -- nothing is left unfed
  all_fed : new.unfed ≡ [] → (xs : List CharItem) → xs ++ new.unfed ≡ xs
  all_fed is xs = ap (λ (u : List CharItem). xs ++ u) is ∙ append-nil xs

  -- an error of the input stream
  module _ (e : ParseError) (unfed : new.unfed ≡ []) (names_are : new.names ≡ old.names) (tokenizer_is : new.tokenizer ≡ old.tokenizer) where
    abbrev all_errors : List ParseError
    all_errors = errors_among items ++ errors_in h.taken

    after_error : (answer : Result (Unit {0}) Refusal) → HandsEvents gives new.names old.sink (Reports e ∷ []) answer new.sink
        → WasHanded gives new.names began (tokens_in h.taken ++ []) (all_errors ++ e ∷ []) answer new.sink
    after_error answer given = handed_more (subst (Grows old.names) (sym names_are) (grows_not old.names)) (Reports e ∷ []) h.handed given

    text_is : characters_among items ≡ characters_among (items ++ InputError e ∷ [])
    text_is = sym (append-nil (characters_among items)) ∙ sym (characters_among-append items (InputError e ∷ []))

    pub holds_error : (answer : Result (Unit {0}) Refusal) → new.stopped ≡ is_err answer → HandsEvents gives new.names old.sink (Reports e ∷ []) answer new.sink
        → TakesItems gives m began items (InputError e ∷ []) answer new
    holds_error (Err x) noted given = items_stopped x refl noted (λ more bytes text. by_sink x h.taken (all_errors ++ e ∷ [])
        (handed_as (after_error (Err x) given) (append-nil (tokens_in h.taken)) (IsPermutation-refl (all_errors ++ e ∷ [])))
        (rw (← text, characters_among-append items (InputError e ∷ more)) (taken_front m.table (start_kind m.start) old.tokenizer old.names
        (characters_among items) h.taken h.has_taken (characters_among more) (end_in m bytes))))
    holds_error (Ok u) noted given = items_taken refl (record {
      fed = items ++ InputError e ∷ [];
      items_are = all_fed unfed (items ++ InputError e ∷ []);
      was_fed = record {
        taken = h.taken;
        has_taken = rw (tokenizer_is, names_are, ← text_is) h.has_taken;
        handed = handed_as (after_error (Ok tt) given) (append-nil (tokens_in h.taken))
            (rw (errors_among-append items (InputError e ∷ [])) (with_errors (errors_among items) (errors_in h.taken) (e ∷ [])));
        unstopped = noted;
      };
    })

  module _ (grows : Grows old.names new.names) where
    -- the events after those that were taken, where these errors were handed over before them
    after_events : (es : List ParseError) (mid : S)
        → WasHanded gives old.names began (tokens_in h.taken) ((errors_among items ++ es) ++ errors_in h.taken) (Ok tt) mid
        → (events : List Event) (answer : Result (Unit {0}) Refusal) → HandsEvents gives new.names mid events answer new.sink
        → WasHanded gives new.names began (tokens_in (h.taken ++ events)) ((errors_among items ++ es) ++ errors_in (h.taken ++ events)) answer new.sink
    after_events es mid opts events answer given =
        rw (tokens_in-append h.taken events, errors_in-append h.taken events, ← append_assoc (errors_among items ++ es) (errors_in h.taken) (errors_in events))
        (handed_more grows events opts given)

    -- items, the errors of which were handed over first
    holds_items : (xs : List CharItem) (mid : S)
        → WasHanded gives old.names began (tokens_in h.taken) ((errors_among items ++ errors_among xs) ++ errors_in h.taken) (Ok tt) mid → new.unfed ≡ []
        → (answer : Result (Unit {0}) Refusal) → new.stopped ≡ is_err answer
        → Takes gives m.table (start_kind m.start) (characters_among items) (characters_among xs) h.taken new.names mid answer new.sink new.tokenizer
        → TakesItems gives m began items xs answer new
    holds_items xs mid opts unfed answer noted (take_ran_out events e handed front) = items_stopped Memory e (noted ∙ ap is_err e)
        (λ more bytes text. by_memory (h.taken ++ events) _ (after_events (errors_among xs) mid opts events (Ok tt) handed)
        (rw (← text, ← with_more items xs more) (front (characters_among more) (end_in m bytes))))
    holds_items xs mid opts unfed answer noted (take_refused name at events e handed refused) =
        items_stopped (OutOfProfile name at) e (noted ∙ ap is_err e)
        (λ more bytes text. by_tag name at (tokens_in (h.taken ++ events)) _ (after_events (errors_among xs) mid opts events (Ok tt) handed)
        (rw (← text, ← with_more items xs more) (refused (characters_among more) (end_in m bytes))))
    holds_items xs mid opts unfed answer noted (take_sink_refused x events e handed front) = items_stopped x e (noted ∙ ap is_err e)
        (λ more bytes text. by_sink x (h.taken ++ events) _ (after_events (errors_among xs) mid opts events (Err x) handed)
        (rw (← text, ← with_more items xs more) (front (characters_among more) (end_in m bytes))))
    holds_items xs mid opts unfed answer noted (take_took events e handed has) = items_taken e (record {
      fed = items ++ xs;
      items_are = all_fed unfed (items ++ xs);
      was_fed = record {
        taken = h.taken ++ events;
        has_taken = rw (characters_among-append items xs) has;
        handed = rw (errors_among-append items xs) (after_events (errors_among xs) mid opts events (Ok tt) handed);
        unstopped = noted ∙ ap is_err e;
      };
    })

    -- characters
    no_errors : (es : List ParseError) → es ≡ []
        → WasHanded gives old.names began (tokens_in h.taken) ((errors_among items ++ es) ++ errors_in h.taken) (Ok tt) old.sink
    no_errors es none = rw (none, append-nil (errors_among items)) h.handed

    pub holds_characters : (xs : List CharItem) → errors_among xs ≡ [] → new.unfed ≡ [] → (answer : Result (Unit {0}) Refusal) → new.stopped ≡ is_err answer
        → Takes gives m.table (start_kind m.start) (characters_among items) (characters_among xs) h.taken new.names old.sink answer new.sink new.tokenizer
        → TakesItems gives m began items xs answer new
    holds_characters xs none unfed answer noted takes = holds_items xs old.sink (no_errors (errors_among xs) none) unfed answer noted takes

    -- the end
    at_end : (events : List Event) (answer : Result (Unit {0}) Refusal) → HandsEvents gives new.names old.sink events answer new.sink
        → WasHanded gives new.names began (tokens_in (h.taken ++ events)) (errors_among items ++ errors_in (h.taken ++ events)) answer new.sink
    at_end events answer given = rw (append-nil (errors_among items)) at (after_events [] old.sink (no_errors [] refl) events answer given)

    front_in : (end : ℕ) (bytes : List ℕ) → characters_among items ≡ input_text m bytes → end ≡ end_in m bytes → (events : List Event)
        → AreFront m.table (start_kind m.start) (characters_among items) end events
        → AreFront m.table (start_kind m.start) (input_text m bytes) (end_in m bytes) events
    front_in end bytes text same events front = rw (← text, ← same) front

    pub ends_text : (end : ℕ) (answer : Result (Unit {0}) Refusal)
        → Finishes gives m.table (start_kind m.start) end (characters_among items) h.taken new.names old.sink answer new.sink
        → EndsText gives m began items end answer new
    ends_text end answer (finish_ran_out events e handed front) = text_stopped Memory e
        (λ bytes text at. by_memory (h.taken ++ events) _ (at_end events (Ok tt) handed) (front_in end bytes text at (h.taken ++ events) front))
    ends_text end answer (finish_sink_refused x events e handed front) = text_stopped x e
        (λ bytes text at. by_sink x (h.taken ++ events) _ (at_end events (Err x) handed) (front_in end bytes text at (h.taken ++ events) front))
    ends_text end answer (finish_took events e handed t) =
        text_taken (tokens_in (h.taken ++ events)) (errors_in (h.taken ++ events)) e t (at_end events (Ok tt) handed)

  -- errors that were handed over before any of these characters
  module _ (es : List ParseError) where
    told_after : (answer : Result (Unit {0}) Refusal) (mid : S) → HandsEvents gives old.names old.sink (map Reports es) answer mid
        → WasHanded gives old.names began (tokens_in h.taken) ((errors_among items ++ es) ++ errors_in h.taken) answer mid
    told_after answer mid given = handed_as (handed_more (grows_not old.names) (map Reports es) h.handed given) (ap (λ (ks : List Tok). tokens_in h.taken ++ ks)
        (ap tokens_in (sym (append-nil (map Reports es))) ∙ tokens_in-map es []) ∙ append-nil (tokens_in h.taken))
        (subst (λ (x : List ParseError). IsPermutation ((errors_among items ++ es) ++ errors_in h.taken) ((errors_among items ++ errors_in h.taken) ++ x))
        (sym (ap errors_in (sym (append-nil (map Reports es))) ∙ errors_in-map es [])) (with_errors (errors_among items) (errors_in h.taken) es))

    -- one of them was refused
    pub stops_telling : (xs : List CharItem) (e : Refusal) → new.names ≡ old.names → new.stopped ≡ true
        → HandsEvents gives old.names old.sink (map Reports es) (Err e) new.sink → TakesItems gives m began items xs (Err e) new
    stops_telling xs e names_are noted given =
        items_stopped e refl noted (λ more bytes text. by_sink e h.taken ((errors_among items ++ es) ++ errors_in h.taken)
        (rw names_are (told_after (Err e) new.sink given)) (rw (← text, ← with_more items xs more) (taken_front m.table (start_kind m.start) old.tokenizer
        old.names (characters_among items) h.taken h.has_taken (characters_among xs ++ characters_among more) (end_in m bytes))))

  -- or all were taken, and then characters
  pub holds_told : Grows old.names new.names → (xs : List CharItem) (mid : S) → HandsEvents gives old.names old.sink (map Reports (errors_among xs)) (Ok tt) mid
      → new.unfed ≡ [] → (answer : Result (Unit {0}) Refusal) → new.stopped ≡ is_err answer
      → Takes gives m.table (start_kind m.start) (characters_among items) (characters_among xs) h.taken new.names mid answer new.sink new.tokenizer
      → TakesItems gives m began items xs answer new
  holds_told grows xs mid given unfed answer noted takes = holds_items grows xs mid (told_after (errors_among xs) (Ok tt) mid given) unfed answer noted takes

-- A RUN

characters_of_run : (ps : List Placed) → characters_among (map Character ps) ≡ ps
characters_of_run [] = refl
characters_of_run (p ∷ ps) = ap (λ (x : List Placed). p ∷ x) (characters_of_run ps)

no_errors_in_run : (ps : List Placed) → errors_among (map Character ps) ≡ []
no_errors_in_run [] = refl
no_errors_in_run (p ∷ ps) = no_errors_in_run ps

module _ {S : Type 0} (gives : S → Item → Result (Unit {0}) Refusal → S → Type 0) where
  -- items that are handed over after others count as handed over with them
  after_unfed : {m : Manner} {began : Began S} (fed unfed items : List CharItem) {answer : Result (Unit {0}) Refusal} {new : Intake S}
      → TakesItems gives m began fed (unfed ++ items) answer new → TakesItems gives m began (fed ++ unfed) items answer new
  after_unfed fed unfed items (items_stopped e is noted refused) =
      items_stopped e is noted (λ more bytes text. refused more bytes (ap characters_among (regrouped fed unfed items more) ∙ text))
  after_unfed fed unfed items (items_taken e held) = items_taken e (rw append_assoc held)

  -- a step, where nothing was unfed
  pub proceeds : (old new : Intake S) → old.unfed ≡ [] → (item : CharItem) (answer : Result (Unit {0}) Refusal)
      → ((m : Manner) (began : Began S) (fed : List CharItem) → WasFed gives m began old fed → TakesItems gives m began fed (item ∷ []) answer new)
      → Proceeds gives old item answer new
  proceeds old new none item answer takes m began before h = subst (λ (b : List CharItem). TakesItems gives m began b (item ∷ []) answer new)
      (sym (append-nil h.fed) ∙ ap (λ (u : List CharItem). h.fed ++ u) (sym none) ∙ h.items_are) (takes m began h.fed h.was_fed)

  module _ (old new : Intake S) (answer : Result (Unit {0}) Refusal) where
    -- what a run does that comes after unfed characters: they are fed with it
    abbrev RunGives : List CharItem → Type 0
    RunGives run = (m : Manner) (began : Began S) (before : List CharItem) → WasFed gives m began old before → TakesItems gives m began before run answer new

    -- The items are handed over one by one; all are fed with the last.
    fed_at_last : (unfed : List CharItem) (x : CharItem) (xs : List CharItem) → RunGives (unfed ++ x ∷ xs)
        → Hands (Proceeds gives) (record old { unfed = unfed }) (x ∷ xs) answer new
    fed_at_last unfed x [] law = (answer, new, last, ended answer) where
      last : Proceeds gives (record old { unfed = unfed }) x answer new
      last m began before h = subst (λ (b : List CharItem). TakesItems gives m began b (x ∷ []) answer new) h.items_are (after_unfed h.fed unfed (x ∷ [])
          (law m began h.fed (record { taken = h.was_fed.taken; has_taken = h.was_fed.has_taken; handed = h.was_fed.handed; unstopped = h.was_fed.unstopped })))

      ended : (r : Result (Unit {0}) Refusal) → MatchResult r (λ _. (r ≡ Ok tt) × (new ≡ new)) (λ e. (r ≡ Err e) × (new ≡ new))
      ended (Ok tt) = (refl, refl)
      ended (Err e) = (refl, refl)
    fed_at_last unfed x (y ∷ ys) law = (
      Ok tt,
      record old { unfed = unfed ++ x ∷ [] },
      held,
      fed_at_last (unfed ++ x ∷ []) y ys (subst RunGives (sym (append_assoc unfed (x ∷ []) (y ∷ ys))) law),
    ) where
      held : Proceeds gives (record old { unfed = unfed }) x (Ok tt) (record old { unfed = unfed ++ x ∷ [] })
      held m began before h = items_taken refl (record {
        fed = h.fed;
        items_are = sym (append_assoc h.fed unfed (x ∷ [])) ∙ ap (λ (b : List CharItem). b ++ x ∷ []) h.items_are;
        was_fed = record { taken = h.was_fed.taken; has_taken = h.was_fed.has_taken; handed = h.was_fed.handed; unstopped = h.was_fed.unstopped };
      })

    pub all_handed : old.unfed ≡ [] → (x : CharItem) (xs : List CharItem) → RunGives (x ∷ xs) → Hands (Proceeds gives) old (x ∷ xs) answer new
    all_handed none x xs law =
        subst (λ (u : List CharItem). Hands (Proceeds gives) (record old { unfed = u }) (x ∷ xs) answer new) (sym none) (fed_at_last [] x xs law)

    run_handed : old.unfed ≡ [] → (at : ℕ) (run : List ℕ) → false ≡ (length run == 0) → RunGives (run_items at run)
        → Hands (Proceeds gives) old (run_items at run) answer new
    run_handed none at [] some law = absurd cc
    run_handed none at (b ∷ bs) some law = all_handed none (Character (record { ch = b; at = at })) (map Character (placed (at + len_utf8 b) bs)) law

    -- as a tokenizer takes it
    pub run_taken : old.unfed ≡ [] → new.unfed ≡ [] → (at : ℕ) (run : List ℕ) → false ≡ (length run == 0) → Grows old.names new.names
        → new.stopped ≡ is_err answer → ((m : Manner) (began : Began S) (before : List CharItem) (h : WasFed gives m began old before)
        → Takes gives m.table (start_kind m.start) (characters_among before) (placed at run) h.taken new.names old.sink answer new.sink new.tokenizer)
        → Hands (Proceeds gives) old (run_items at run) answer new
    run_taken none_before none_after at run some grows noted takes = run_handed none_before at run some (λ m began before h.
        holds_characters new h grows (run_items at run) (no_errors_in_run (placed at run)) none_after answer noted (subst
        (λ (ps : List Placed). Takes gives m.table (start_kind m.start) (characters_among before) ps h.taken new.names old.sink answer new.sink new.tokenizer)
        (sym (characters_of_run (placed at run))) (takes m began before h)))

-- BAD PARTS

characters_of_bad : (n at : ℕ) → characters_among (items (bad_each at n)) ≡ replacement_run at n
characters_of_bad zero at = refl
characters_of_bad (suc n) at = ap (λ (ps : List Placed). record { ch = 0xFFFD; at = at } ∷ ps) (characters_of_bad n (at + 1))

errors_of_bad : (n at : ℕ) → errors_among (items (bad_each at n)) ≡ input_errors (bad_each at n)
errors_of_bad zero at = refl
errors_of_bad (suc n) at = ap (λ (es : List ParseError). error ReplacedBytes at ∷ es) (errors_of_bad n (at + 1))

module _ {S : Type 0} (gives : S → ParseError → Result (Unit {0}) Refusal → S → Type 0) (gives_token : S → Handed → Result (Unit {0}) Refusal → S → Type 0)
    (old new : Intake S) (none : old.unfed ≡ []) (at : ℕ) where
  abbrev to_item : S → Item → Result (Unit {0}) Refusal → S → Type 0
  to_item = gives_item gives gives_token

  -- an error is refused
  pub bad_untold : (n : ℕ) (e : Refusal) → 0 < n → new.names ≡ old.names → new.stopped ≡ true
      → Hands gives old.sink (input_errors (bad_each at n)) (Err e) new.sink → Hands (Proceeds to_item) old (items (bad_each at n)) (Err e) new
  bad_untold zero e some names_are noted opts = absurd (omega (arith, some))
  bad_untold (suc n) e some names_are noted opts =
      all_handed to_item old new (Err e) none _ _ (λ m began before h. stops_telling new h (input_errors (bad_each at (suc n))) (items (bad_each at (suc n))) e
      names_are noted (reports_given gives gives_token old.names (input_errors (bad_each at (suc n))) old.sink new.sink (Err e) opts))

  -- all are taken, and then the characters are fed
  pub bad_fed : (n : ℕ) (mid : S) (answer : Result (Unit {0}) Refusal) → 0 < n → new.unfed ≡ [] → Grows old.names new.names → new.stopped ≡ is_err answer
      → Hands gives old.sink (input_errors (bad_each at n)) (Ok tt) mid → ((table : Entities) (start : RawKind) (before : Texts) (text : List Placed)
      (taken : List Event) → Grows before old.names → HasTaken table start old.tokenizer before text taken
      → Takes to_item table start text (replacement_run at n) taken new.names mid answer new.sink new.tokenizer)
      → Hands (Proceeds to_item) old (items (bad_each at n)) answer new
  bad_fed zero mid answer some all_fed grows noted opts takes = absurd (omega (arith, some))
  bad_fed (suc n) mid answer some all_fed grows noted opts takes =
      all_handed to_item old new answer none _ _ (λ m began before h. holds_told new h grows (items (bad_each at (suc n))) mid
      (subst (λ (es : List ParseError). HandsEvents to_item old.names old.sink (map Reports es) (Ok tt) mid) (sym (errors_of_bad (suc n) at))
      (reports_given gives gives_token old.names (input_errors (bad_each at (suc n))) old.sink mid (Ok tt) opts)) all_fed answer noted
      (subst (λ (ps : List Placed). Takes to_item m.table (start_kind m.start) (characters_among before) ps h.taken new.names mid answer new.sink new.tokenizer)
      (sym (characters_of_bad (suc n) at)) (takes m.table (start_kind m.start) old.names (characters_among before) h.taken (grows_not old.names) h.has_taken)))
