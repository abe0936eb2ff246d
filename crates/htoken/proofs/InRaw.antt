-- Characters of raw text, and its end tag.
use Rattle.htoken.proofs.Names.{is_end_tag_of, IsFollowed, ◌≡◌, ℕ, Bool, true, false, ◌&&◌, eqb, List, [], ◌∷◌, ◌++◌, length, sym, refl, ap, ◌∙◌, subst, Result, Ok, Err, Option, Some, None, arith, append_assoc, append-nil, eqb-true, slice_get, is_some, nat_lt, to_ascii_lowercase, string_bytes, UnexpectedNullCharacter, Placed, RawKind, Refusal, Texts, lowered, begins, all, is_letter, name_bytes, error, Entities, backwards, and_parts, and_no, no_null_error, TagWalk, Script, HasFront, level_number, Tokenizer, Span, Item, Event, Gives, Reports, Char, piece_span, Standing, is_raw, is_script, may_end, is_raw_end, name_ends, IsSpan, IsSpanOf, IsRawSpan, has_references, raw_character, raw_end, events_of, HandsEvents, run_events, ends_name, Stands, Reads, Takes, take_sink_refused, IsHeld, IsLast, IsBetween, less, Stays, Keeps, IsInTag, tag_mark, tag_ahead, plain_piece, ends_by, IsInRcdataLessThanSign, IsInRcdataEndTagName, all-one, IsDataSpan, true≢false}
use Rattle.names.specs.declared.raw.RawKind.TheVariants as kind
use Rattle.htoken.specs.declared.state.State.TheVariants as state
use Rattle.htag.specs.declared.kind.TagKind.TheVariants as tag
use Rattle.htoken.proofs.Cutting.{stands_more}
use Rattle.htoken.proofs.Going.{goes_on, spans_end, are_front, held_in, kind_in, reads_as, reads_text}
use Rattle.htoken.proofs.RawEnds.{differs, goes_past, is_whole, left_some, left_none, letter_not, name_is_lowered, no_solidus, no_name, a_name, other_goes_on, is_word, raw_word, word_letter, some_held}

-- a span, by what is read: data, or raw text
pub span_of : (k : RawKind) (table : Entities) (end : ℕ) (here : Standing) (rest : List Placed) (span : Span)
    → (is_raw k ≡ false → IsDataSpan table end rest span) → (is_raw k ≡ true → IsRawSpan table end here rest span) → IsSpanOf k table end here rest span
span_of kind.None table end here rest span data' raw = data' refl
span_of _ table end here rest span data' raw = raw refl

pub in_raw : (table : Entities) (end : ℕ) (here : Standing) (rest : List Placed) (span : Span) → is_raw here.kind ≡ true → IsRawSpan table end here rest span
    → IsSpan table end here rest span
in_raw table end here rest span e h = span_of here.kind table end here rest span (λ other. absurd (true≢false (sym e ∙ other))) (λ raw. h)

abbrev pub raw_span : Placed → Span
raw_span q = piece_span (plain_piece q)

lowered-snoc : (xs : List Placed) (p : Placed) → lowered (xs ++ p ∷ []) ≡ lowered xs ++ to_ascii_lowercase p.ch ∷ []
lowered-snoc [] p = refl
lowered-snoc (x ∷ xs) p = ap (λ (cs : List ℕ). to_ascii_lowercase x.ch ∷ cs) (lowered-snoc xs p)

-- CHARACTERS, ONE AFTER ANOTHER

abbrev pub after_characters : Standing → List Placed → Standing
after_characters here qs = record here { front = backwards here.front qs }

-- no end tag is at these characters, and each is given as it is
abbrev pub GoOn : Standing → List Placed → List Placed → Type 0
GoOn here [] rest = Unit {0}
GoOn here (q ∷ qs) rest =
    (is_raw_end here (q ∷ (qs ++ rest)) ≡ false) × (eqb q.ch 38 ≡ false) × (eqb q.ch 0 ≡ false) × GoOn (record here { front = q ∷ here.front }) qs rest

plain_events : (q : Placed) → eqb q.ch 0 ≡ false → events_of (raw_span q) ≡ Gives (Char q.ch q.at) ∷ []
plain_events q e = cc (no_null_error q e)

pub characters_stand : (table : Entities) (start : RawKind) (end : ℕ) (qs front rest : List Placed) (here : Standing) (taken : List Event)
    → is_raw here.kind ≡ true → GoOn here qs rest → Stands table start end front (qs ++ rest) here taken []
    → Stands table start end (front ++ qs) rest (after_characters here qs) (taken ++ run_events qs) []
characters_stand table start end [] front rest here taken raw go s = rw (append-nil front) (rw (append-nil taken) s)
characters_stand table start end (q ∷ qs) front rest here taken raw go s =
    let one : Stands table start end (front ++ q ∷ []) (qs ++ rest) (record here { front = q ∷ here.front }) (taken ++ events_of (raw_span q)) [] =
    stands_more (qs ++ rest) (raw_span q) s
    (in_raw table end here (qs ++ rest) (raw_span q) raw (raw_character q go.0 (and_no (has_references here.kind) (eqb q.ch 38) go.1) refl)) refl in
    let many = characters_stand table start end qs (front ++ q ∷ []) rest (record here { front = q ∷ here.front }) (taken ++ Gives (Char q.ch q.at) ∷ []) raw
    go.3 (rw (← (plain_events q go.2)) one) in
    rw (← (append_assoc front (q ∷ []) qs)) (rw (← (append_assoc taken (Gives (Char q.ch q.at) ∷ []) (run_events qs))) many)

some_letter : (ls : List Placed) → all is_letter ls ≡ true → (length ls ≡ 0 → ⊥) → begins is_letter ls ≡ true
some_letter [] h some = absurd (some refl)
some_letter (l ∷ ls) h some = (and_parts (is_letter l.ch) (all is_letter ls) h).0

letters_go_on : (ls rest : List Placed) (here : Standing) → all is_letter ls ≡ true → GoOn here ls rest
letters_go_on [] rest here h = tt
letters_go_on (l ∷ ls) rest here h = let k = and_parts (is_letter l.ch) (all is_letter ls) h in (
  other_goes_on here l (ls ++ rest) (letter_not l.ch 60 k.0 (omega arith)),
  letter_not l.ch 38 k.0 (omega arith),
  letter_not l.ch 0 k.0 (omega arith),
  letters_go_on ls rest (record here { front = l ∷ here.front }) k.1,
)

-- what is held goes on as text: a `<`, and `</` with letters
pub less_goes_on : (here : Standing) (t : Tokenizer) (rest : List Placed) → is_raw_end here (less t ∷ rest) ≡ false → GoOn here (less t ∷ []) rest
less_goes_on here t rest e = (e, refl, refl, tt)

pub name_goes_on : (here : Standing) (t : Tokenizer) (at : ℕ) (rest : List Placed) → all is_letter t.held.items ≡ true
    → is_raw_end here (less t ∷ record { ch = 47; at = at } ∷ (t.held.items ++ rest)) ≡ false
    → GoOn here (less t ∷ record { ch = 47; at = at } ∷ t.held.items) rest
name_goes_on here t at rest letters e = let s : Placed = record { ch = 47; at = at } in let then : Standing = record here { front = less t ∷ here.front } in (
  e,
  refl,
  refl,
  (other_goes_on then s (t.held.items ++ rest) refl, refl, refl, letters_go_on t.held.items rest (record then { front = s ∷ then.front }) letters),
)

module _ {S : Type 0} (gives : S → Item → Result (Unit {0}) Refusal → S → Type 0) {table : Entities} {start : RawKind} {text : List Placed} {p : Placed}
    {names : Texts} {taken : List Event} {t : Tokenizer} (h : Reads table start t names text (p ∷ []) taken) where
  -- what was held was given as characters, before this one
  module _ (qs : List Placed) (text_is : h.held ≡ qs) (raw : is_raw h.here.kind ≡ true) (go : (more : List Placed) → GoOn h.here qs (p ∷ more)) where
    stands_before : (end : ℕ) (more : List Placed) → Stands table start end (h.front ++ qs) (p ∷ more) (after_characters h.here qs) (taken ++ run_events qs) []
    stands_before end more = characters_stand table start end qs h.front (p ∷ more) h.here taken raw (go more) (rw (← text_is) (h.stands end more))

    front_is : text ≡ h.front ++ qs
    front_is = h.text_is ∙ ap (λ (x : List Placed). h.front ++ x) text_is

    pub characters_ended : {new : Tokenizer} → Stays t new → new.kind ≡ t.kind → new.last ≡ t.last → new.state ≡ state.Text → new.raised.errors.items ≡ []
        → IsBetween (after_characters h.here qs) new → Reads table start new names text (p ∷ []) (taken ++ run_events qs)
    characters_ended stays kind last in_text none between = reads_text (after_characters h.here qs) (stays.0 ∙ h.accepts) (ap (λ x. x.now) stays.1 ∙ h.table_is)
        (stays.2 ∙ h.next_is) (λ end more. rw front_is (stands_before end more)) (kind ∙ h.kind_is) (rw last h.name_is) in_text none between

    pub characters_refused : (new : Tokenizer) (old s : S) (e : Refusal) → HandsEvents gives names old (run_events qs) (Err e) s
        → Takes gives table start text (p ∷ []) taken names old (Err e) s new
    characters_refused new old s e handed =
        take_sink_refused e (run_events qs) refl handed (λ more end. are_front (ap (λ (x : List Placed). x ++ p ∷ more) front_is) (stands_before end more))

  -- WHERE NOTHING IS HELD

  module _ (in_text : t.state ≡ state.Text) (raw : is_raw t.kind ≡ true) where
    here_is : is_raw h.here.kind ≡ true
    here_is = ap is_raw (sym h.kind_is) ∙ raw

    abbrev nothing : IsHeld state.Text table names h.here t h.held (p ∷ [])
    nothing = held_in h state.Text in_text

    abbrev Follows : Tokenizer → Type 0
    Follows new = IsFollowed t p.ch new

    -- a character
    pub raw_taken : (new : Tokenizer) (old s : S) (answer : Result (Unit {0}) Refusal) → Follows new
        → ((more : List Placed) → is_raw_end h.here (p ∷ more) ≡ false) → (has_references t.kind && eqb p.ch 38) ≡ false
        → HandsEvents gives names old (events_of (raw_span p)) answer s → Takes gives table start text (p ∷ []) taken names old answer s new
    raw_taken new old s answer f go plain handed = rw f.then (spans_end gives h (raw_span p) (ap (λ (x : List Placed). x ++ p ∷ []) (sym nothing.0))
        (λ end more. in_raw table end h.here more (raw_span p) here_is (raw_character p (go more) (rw (← h.kind_is) plain) refl)) refl
        (record t { script = new.script }) old s answer (refl, refl, refl) h.kind_is h.name_is in_text nothing.1
        (record { named = nothing.2.named; leveled = λ r. f.follows p.at h.here.front (ap is_script h.kind_is ∙ r) (nothing.2.leveled r) }) handed)

    pub raw_plain_taken : (new : Tokenizer) (old s : S) (answer : Result (Unit {0}) Refusal) → Follows new
        → ((more : List Placed) → is_raw_end h.here (p ∷ more) ≡ false) → (has_references t.kind && eqb p.ch 38) ≡ false → eqb p.ch 0 ≡ false
        → HandsEvents gives names old (Gives (Char p.ch p.at) ∷ []) answer s → Takes gives table start text (p ∷ []) taken names old answer s new
    raw_plain_taken new old s answer f go plain some handed = raw_taken new old s answer f go plain (rw (plain_events p some) handed)

    pub raw_null_taken : (new : Tokenizer) (old s : S) (answer : Result (Unit {0}) Refusal) → Follows new → p.ch ≡ 0
        → HandsEvents gives names old (Reports (error UnexpectedNullCharacter p.at) ∷ Gives (Char 0xFFFD p.at) ∷ []) answer s
        → Takes gives table start text (p ∷ []) taken names old answer s new
    raw_null_taken new old s answer f is handed =
        let same : events_of (raw_span p) ≡ Reports (error UnexpectedNullCharacter p.at) ∷ Gives (Char 0xFFFD p.at) ∷ [] =
        ap (λ (c : ℕ). events_of (raw_span (record { ch = c; at = p.at }))) is in
        raw_taken new old s answer f (λ more. other_goes_on h.here p more (ap (λ (c : ℕ). eqb c 60) is))
        (and_no (has_references t.kind) (eqb p.ch 38) (ap (λ (c : ℕ). eqb c 38) is)) (rw same handed)

    -- whether the end tag may be here
    by_kind : (k : RawKind) → (is_script k ≡ true → HasFront t.script h.here.front) → ends_by k (level_number t.script.level) ≡ may_end k h.here.front
    by_kind kind.Script l = ap (λ (n : ℕ). nat_lt n 2) (sym (l refl).level_is)
    by_kind _ l = refl

    may_end_is : ends_by t.kind (level_number t.script.level) ≡ may_end h.here.kind h.here.front
    may_end_is = cc (by_kind h.here.kind nothing.2.leveled)

    pub may_stand : (is_some t.last && ends_by t.kind (level_number t.script.level)) ≡ true
        → (bytes : List ℕ) × (h.here.name ≡ Some bytes) × (may_end h.here.kind h.here.front ≡ true)
    may_stand may = at_last t.last h.name_is may where
      at_last : (last : Option ℕ) → IsLast names last h.here.name → (is_some last && ends_by t.kind (level_number t.script.level)) ≡ true
          → (bytes : List ℕ) × (h.here.name ≡ Some bytes) × (may_end h.here.kind h.here.front ≡ true)
      at_last None is e = absurd cc
      at_last (Some id) is e = (is.0, is.2, sym may_end_is ∙ e)

    pub may_not_stand : (is_some t.last && ends_by t.kind (level_number t.script.level)) ≡ false → (more : List Placed) → is_raw_end h.here (p ∷ more) ≡ false
    may_not_stand may more = at_last t.last h.name_is may where
      at_last : (last : Option ℕ) → IsLast names last h.here.name → (is_some last && ends_by t.kind (level_number t.script.level)) ≡ false
          → is_raw_end h.here (p ∷ more) ≡ false
      at_last None is e =
          and_no (may_end h.here.kind h.here.front) (is_end_tag_of h.here.name (p ∷ more)) (ap (λ (n : Option (List ℕ)). is_end_tag_of n (p ∷ more)) is)
      at_last (Some id) is e = ap (λ (b : Bool). b && is_end_tag_of h.here.name (p ∷ more)) (sym may_end_is ∙ e)

    -- a `<` that may begin the end tag
    pub raw_less_begins : (new : Tokenizer) (s : S) (bytes : List ℕ) → Keeps (record t { at = p.at }) new → new.state ≡ state.RcdataLessThanSign
        → new.raised.errors.items ≡ t.raised.errors.items → new.tag ≡ t.tag → new.script ≡ t.script → p.ch ≡ 60 → h.here.name ≡ Some bytes
        → may_end h.here.kind h.here.front ≡ true → Takes gives table start text (p ∷ []) taken names s (Ok tt) s new
    raw_less_begins new s bytes keeps less_is raised same keeps_script is named may =
        goes_on h new s _ less_is keeps.stays keeps.kind_is keeps.last_is here_is (record {
          held_is = ap (λ (x : List Placed). x ++ p ∷ []) nothing.0 ∙ ap (λ (c : ℕ). record { ch = c; at = p.at } ∷ []) is
              ∙ ap (λ (a : ℕ). record { ch = 60; at = a } ∷ []) (sym keeps.at_is);
          raises_none = raised ∙ nothing.1;
          may = may;
          named = named ∙ ap (λ (x : List ℕ). Some x) (nothing.2.named here_is bytes named ∙ ap (λ (x : TagWalk). string_bytes x.name) (sym same));
          between = record {
            named = λ r name e. nothing.2.named r name e ∙ ap (λ (x : TagWalk). string_bytes x.name) (sym same);
            leveled = λ r. subst (λ (x : Script). HasFront x h.here.front) (sym keeps_script) (nothing.2.leveled r);
          };
        })

  -- AFTER `<`

  module _ (after : t.state ≡ state.RcdataLessThanSign) where
    abbrev tag_open : IsInRcdataLessThanSign h.here t h.held
    tag_open = held_in h state.RcdataLessThanSign after

    is_raw_here : is_raw h.here.kind ≡ true
    is_raw_here = kind_in h state.RcdataLessThanSign after

    pub raw_solidus_follows : (new : Tokenizer) (s : S) → Keeps t new → new.state ≡ state.RcdataEndTagName p.at
        → new.raised.errors.items ≡ t.raised.errors.items → new.tag ≡ t.tag → new.script ≡ t.script → new.held.items ≡ [] → p.ch ≡ 47
        → Takes gives table start text (p ∷ []) taken names s (Ok tt) s new
    raw_solidus_follows new s keeps then raised same keeps_script none is = let i = tag_open in
        goes_on h new s _ then keeps.stays keeps.kind_is keeps.last_is is_raw_here (record {
          held_is = ap (λ (x : List Placed). x ++ p ∷ []) i.held_is ∙ ap (λ (c : ℕ). less t ∷ record { ch = c; at = p.at } ∷ []) is
              ∙ ap (λ (a : ℕ). record { ch = 60; at = a } ∷ record { ch = 47; at = p.at } ∷ []) (sym keeps.at_is)
              ∙ ap (λ (x : List Placed). less new ∷ record { ch = 47; at = p.at } ∷ x) (sym none);
          raises_none = raised ∙ i.raises_none;
          may = i.may;
          named = i.named ∙ ap (λ (x : TagWalk). Some (string_bytes x.name)) (sym same);
          between = record {
            named = λ r name e. i.between.named r name e ∙ ap (λ (x : TagWalk). string_bytes x.name) (sym same);
            leveled = λ r. subst (λ (x : Script). HasFront x h.here.front) (sym keeps_script) (i.between.leveled r);
          };
          left = string_bytes new.tag.name;
          agrees = ap (λ (x : List Placed). lowered x ++ string_bytes new.tag.name) none;
          letters = ap (all is_letter) none;
        })

    pub less_go_on : eqb p.ch 47 ≡ false → (more : List Placed) → GoOn h.here (less t ∷ []) (p ∷ more)
    less_go_on other more = less_goes_on h.here t (p ∷ more) (no_solidus h.here (string_bytes t.tag.name) tag_open.named (less t) refl p more other)

    pub less_given : (new : Tokenizer) → eqb p.ch 47 ≡ false → IsFollowed (record t { state = state.Text }) 60 new
        → Reads table start new names text (p ∷ []) (taken ++ run_events (less t ∷ []))
    less_given new other f =
        rw f.then (characters_ended (less t ∷ []) tag_open.held_is is_raw_here (less_go_on other) (refl, refl, refl) refl refl refl tag_open.raises_none
        (record { named = tag_open.between.named; leveled = λ r. f.follows t.at h.here.front (ap is_script h.kind_is ∙ r) (tag_open.between.leveled r) }))

    pub less_refused : (new : Tokenizer) (old s : S) (e : Refusal) → eqb p.ch 47 ≡ false → HandsEvents gives names old (run_events (less t ∷ [])) (Err e) s
        → Takes gives table start text (p ∷ []) taken names old (Err e) s new
    less_refused new old s e other handed = characters_refused (less t ∷ []) tag_open.held_is is_raw_here (less_go_on other) new old s e handed

  -- AFTER `</`

  module _ (at : ℕ) (after : t.state ≡ state.RcdataEndTagName at) where
    abbrev pub in_name : IsInRcdataEndTagName h.here t at h.held
    in_name = held_in h (state.RcdataEndTagName at) after

    raw_here : is_raw h.here.kind ≡ true
    raw_here = kind_in h (state.RcdataEndTagName at) after

    abbrev mark : List Placed
    mark = less t ∷ record { ch = 47; at = at } ∷ t.held.items

    -- the name is a word
    word : is_word (string_bytes t.tag.name) ≡ true
    word = let s = h.stands 0 [] in raw_word start s.spans h.here (string_bytes t.tag.name) s.leads in_name.named raw_here

    -- a letter of the name
    pub raw_letter_follows : (new : Tokenizer) (s : S) (c : ℕ) → Keeps t new → new.state ≡ state.RcdataEndTagName at
        → new.raised.errors.items ≡ t.raised.errors.items → new.tag ≡ t.tag → new.script ≡ t.script → new.held.items ≡ t.held.items ++ p ∷ []
        → slice_get (string_bytes t.tag.name) (length t.held.items) ≡ Some c → to_ascii_lowercase p.ch ≡ c → is_letter p.ch ≡ true
        → Takes gives table start text (p ∷ []) taken names s (Ok tt) s new
    raw_letter_follows new s c keeps then raised same keeps_script more expected is letter = let i = in_name in let l = left_some t.held.items i.left c (cc) in
        goes_on h new s _ then keeps.stays keeps.kind_is keeps.last_is raw_here (record {
          held_is = cc;
          raises_none = raised ∙ i.raises_none;
          may = i.may;
          named = i.named ∙ ap (λ (x : TagWalk). Some (string_bytes x.name)) (sym same);
          between = record { named = λ r name e. cc (i.between.named r name e); leveled = λ r. rw keeps_script (i.between.leveled r) };
          left = l.0;
          agrees = cc (lowered-snoc t.held.items p, append_assoc (lowered t.held.items) (to_ascii_lowercase p.ch ∷ []) l.0, l.1);
          letters = cc (all-one is_letter t.held.items p i.letters letter);
        })

    pub letter_held : (mid : Tokenizer) (s : S) (c : ℕ) → mid.held.items ≡ t.held.items ++ p ∷ []
        → slice_get (string_bytes t.tag.name) (length t.held.items) ≡ Some c → eqb (to_ascii_lowercase p.ch) c ≡ true
        → Takes gives table start text (p ∷ []) taken names s (Ok tt) s (record t { held = mid.held })
    letter_held mid s c held_is expected same = let is : to_ascii_lowercase p.ch ≡ c = eqb-true (to_ascii_lowercase p.ch) c same in
        raw_letter_follows (record t { held = mid.held }) s c (record { kind_is = refl; last_is = refl; at_is = refl; stays = (refl, refl, refl) }) after refl
        refl refl held_is expected is (word_letter (string_bytes t.tag.name) (length t.held.items) c p.ch word expected is)

    -- no end tag is here
    module _ (other : (more : List Placed) → name_ends (string_bytes t.tag.name) (t.held.items ++ p ∷ more) ≡ false) where
      pub name_go_on : (more : List Placed) → GoOn h.here mark (p ∷ more)
      name_go_on more = name_goes_on h.here t at (p ∷ more) in_name.letters
          (no_name h.here (string_bytes t.tag.name) in_name.named (less t) refl at (t.held.items ++ p ∷ more) (other more))

      pub name_given : (new : Tokenizer) → new ≡ record t { state = state.Text; script = new.script }
          → ((front : List Placed) → is_script t.kind ≡ true → HasFront t.script front → HasFront new.script (backwards front mark))
          → Reads table start new names text (p ∷ []) (taken ++ run_events mark)
      name_given new is f = rw is (characters_ended mark in_name.held_is raw_here name_go_on (refl, refl, refl) refl refl refl in_name.raises_none
          (record { named = in_name.between.named; leveled = λ r. f h.here.front (ap is_script h.kind_is ∙ r) (in_name.between.leveled r) }))

      pub name_refused : (new : Tokenizer) (old s : S) (e : Refusal) → HandsEvents gives names old (run_events mark) (Err e) s
          → Takes gives table start text (p ∷ []) taken names old (Err e) s new
      name_refused new old s e handed = characters_refused mark in_name.held_is raw_here name_go_on new old s e handed

    pub differs_here : (c : ℕ) → slice_get (string_bytes t.tag.name) (length t.held.items) ≡ Some c → eqb (to_ascii_lowercase p.ch) c ≡ false
        → (more : List Placed) → name_ends (string_bytes t.tag.name) (t.held.items ++ p ∷ more) ≡ false
    differs_here c expected other more = let i = in_name in let l = left_some t.held.items i.left c (cc) in
        rw (← (ap (λ (x : List ℕ). lowered t.held.items ++ x) (sym l.1) ∙ i.agrees)) (differs t.held.items c l.0 p more other)

    -- the whole name has been read
    module _ (expected : slice_get (string_bytes t.tag.name) (length t.held.items) ≡ None) where
      name_whole : lowered t.held.items ≡ string_bytes t.tag.name
      name_whole = let none = left_none t.held.items in_name.left (ap (λ (x : List ℕ). slice_get x (length t.held.items)) in_name.agrees ∙ expected) in
          sym (append-nil (lowered t.held.items)) ∙ ap (λ (x : List ℕ). lowered t.held.items ++ x) (sym none) ∙ in_name.agrees

      pub goes_past_here : ends_name p.ch ≡ false → (more : List Placed) → name_ends (string_bytes t.tag.name) (t.held.items ++ p ∷ more) ≡ false
      goes_past_here other more = rw (← name_whole) (goes_past t.held.items p more other)

      -- and it ends here: the tag goes on with the character
      pub end_tag_begins : (new : Tokenizer) → new ≡ record t { state = state.Tag; tag = new.tag } → new.tag.kind ≡ tag.End → ends_name p.ch ≡ true
          → ((letters : List Placed) → begins is_letter letters ≡ true → all is_letter letters ≡ true → string_bytes t.tag.name ≡ name_bytes letters
          → IsInTag table names new.tag letters [] []) → Reads table start new names text (p ∷ []) taken
      end_tag_begins new new_is kind ends begun = let i = in_name in
          let some : begins is_letter t.held.items ≡ true = some_letter t.held.items i.letters (some_held t.held.items (ap is_word name_whole ∙ word)) in
          subst (λ (x : Tokenizer). Reads table start x names text (p ∷ []) taken) (sym new_is)
          (reads_as h (record t { state = state.Tag; tag = new.tag }) names (p ∷ []) taken refl refl h.next_is h.stands refl h.name_is tt (record {
            opening = record { ch = 47; at = at } ∷ [];
            body = t.held.items;
            held_is = i.held_is;
            opens = sym (ap tag_mark kind);
            in_tag = tag_ahead table names new.tag t.held.items t.raised.errors.items (subst (IsInTag table names new.tag t.held.items []) (sym i.raises_none)
                (begun t.held.items some i.letters (sym name_whole ∙ sym (name_is_lowered t.held.items i.letters)))) (p ∷ []);
            fits = λ end rest more span e is. in_raw table end h.here rest span raw_here (raw_end (whole rest more span e) is);
          })) where
            whole : (rest more : List Placed) (span : Span) → span.text ≡ h.held ++ ((p ∷ []) ++ more) → is_raw_end h.here (span.text ++ rest) ≡ true
            whole rest more span e =
                let same : span.text ++ rest ≡ less t ∷ record { ch = 47; at = at } ∷ (t.held.items ++ p ∷ (more ++ rest)) =
                ap (λ (x : List Placed). x ++ rest) (e ∙ ap (λ (x : List Placed). x ++ ((p ∷ []) ++ more)) in_name.held_is)
                ∙ ap (λ (x : List Placed). less t ∷ record { ch = 47; at = at } ∷ x) (append_assoc t.held.items (p ∷ more) rest) in
                ap (is_raw_end h.here) same
                ∙ a_name h.here (string_bytes t.tag.name) in_name.named (less t) refl at (t.held.items ++ p ∷ (more ++ rest)) in_name.may
                (subst (λ (x : List ℕ). name_ends x (t.held.items ++ p ∷ (more ++ rest)) ≡ true) name_whole (is_whole t.held.items p (more ++ rest) ends))
