-- Taking a character, whatever is held, and a run of plain characters as a whole or a part after another.
use Rattle.htoken.proofs.Names.{TakesPart, ◌≡◌, ℕ, ◌+◌, List, [], ◌∷◌, ◌++◌, take, drop, sym, refl, ap, ◌∙◌, subst, Result, Ok, Err, append_assoc, append-nil, arith, true, list_all, chars, nat_tests, Placed, RawKind, Refusal, Texts, Grows, grows_on, placed, text_kept, is_plain_byte, IsCut, placed_cut, placed_more, Entities, Token, Tokenizer, Tok, Item, ItemToken, ItemError, Event, Gives, Reports, TokenMeans, Alone, WithNames, token_in, Handed, HandedMeans, Mean, HasTaken, Takes, take_ran_out, take_refused, take_sink_refused, take_took, attrs_kept, all_weaker, is_ascii, ◌≤◌, ◌<◌, zero, suc, Bool, false, length, len_utf8, encode_utf8, ParseError, Memory, all, is_plain_character, and_parts, HasReadOf, HasReadDoctype, IsDoctype, doctype_token, IsCommentOf, TakesRun, IsInTag, State, Comment, Standing, is_script, FollowsAll, HandsEvents, run_events, replacement_run, tag_mark, after_place, next_from, after_last, less, Stands, Reads, holds, IsHeld, IsBetween, IsInMarkup, IsInMarkedTag, last_char, run_ran_out, run_refused, run_goes_on, IsUtf8, Hands, gives_item, run_tokens, Keeps, EndsTag, IsWholeTag, names_grow, tag_ahead, cond, prefix_len, and_from, is_only_data, prefix_all, front_of_test, len_utf8_ascii, IsInAmbiguousAmpersand, in_ambiguous_ampersand, later_errors}
use Rattle.htoken.specs.declared.token.Token.TheVariants as code
use Rattle.htoken.proofs.Going.{takes_both, goes_on, after_last-snoc, are_front, held_in, kind_in, ran_out_of, reads_as, reads_text}
use Rattle.htoken.specs.declared.state.State.TheVariants as state
use Rattle.htoken.proofs.InMarkup.{keeps, kept, markup_more, refused}
use Rattle.htoken.proofs.InRaw.{after_characters}
use Rattle.htoken.proofs.InTag.{last_kept, tag_handed, reads_kept}
use Rattle.htoken.proofs.Referring.{all_imp, is_itself, plain_stands}
use Rattle.htoken.proofs.Handing.{run_given}
use Rattle.htoken.proofs.Scripting.{all_followed}

between_next : {here : Standing} {t : Tokenizer} (at : ℕ) → IsBetween here t → IsBetween here (record t { next = at })
between_next at h = record { named = h.named; leveled = h.leveled }

markup_ahead : {W V : Type 0} (HasRead : W → List Placed → List ParseError → Type 0) (IsOne : ℕ → List Placed → List Placed → V → List ParseError → Type 0)
    (token : V → ℕ → Tok) (walk : W) (table : Entities) (t : Tokenizer) (held fed : List Placed) (at : ℕ) → IsInMarkup HasRead IsOne token walk table t held []
    → IsInMarkup HasRead IsOne token walk table (record t { next = at }) held fed
markup_ahead HasRead IsOne token walk table t held fed at h = record {
  opening = h.opening;
  body = h.body;
  first = h.first;
  own = h.own;
  others = h.others;
  starts = h.starts;
  held_is = h.held_is;
  has_read = h.has_read;
  raised_is = h.raised_is;
  opens = λ end rest more value errors is. h.opens end rest (fed ++ more) value errors is;
}

-- what is held may go on with any characters
held_ahead : (s : State) (table : Entities) (names : Texts) (here : Standing) (t : Tokenizer) (held fed : List Placed) (at : ℕ)
    → IsHeld s table names here t held [] → IsHeld s table names here (record t { next = at }) held fed
held_ahead state.Text table names here t held fed at h = (h.0, h.1, between_next at h.2)
held_ahead state.Comment table names here t held fed at (kind, h) =
    (kind, markup_ahead (HasReadOf kind) (IsCommentOf kind) Comment t.comment table t held fed at h)
held_ahead state.Doctype table names here t held fed at h = markup_ahead HasReadDoctype IsDoctype doctype_token t.doctype table t held fed at h
held_ahead state.Tag table names here t held fed at h = record {
  opening = h.opening;
  body = h.body;
  held_is = h.held_is;
  opens = h.opens;
  in_tag = tag_ahead table names t.tag h.body t.raised.errors.items h.in_tag fed;
  fits = λ end rest more span e is. h.fits end rest (fed ++ more) span e is;
}
held_ahead state.Reference table names here t held fed at h = record {
  read = h.read;
  held_is = h.held_is;
  raises_none = h.raises_none;
  is_table = h.is_table;
  has_taken = h.has_taken;
  kept_is = h.kept_is;
  between = between_next at h.between;
}
held_ahead state.RcdataLessThanSign table names here t held fed at h = record
    { held_is = h.held_is; raises_none = h.raises_none; may = h.may; named = h.named; between = between_next at h.between }
held_ahead (state.RcdataEndTagName solidus) table names here t held fed at h = record {
  held_is = h.held_is;
  raises_none = h.raises_none;
  may = h.may;
  named = h.named;
  between = between_next at h.between;
  left = h.left;
  agrees = h.agrees;
  letters = h.letters;
}
held_ahead _ table names here t held fed at h = h

looks_ahead : {table : Entities} {start : RawKind} {t : Tokenizer} {names : Texts} {text : List Placed} {taken : List Event} (fed : List Placed) (at : ℕ)
    → at ≡ after_last (text ++ fed) → Reads table start t names text [] taken → Reads table start (record t { next = at }) names text fed taken
looks_ahead {table = table} {t = t} {names = names} {taken = taken} fed at after h = reads_as h (record t { next = at }) names fed taken refl refl after
    (λ end more. h.stands end (fed ++ more)) refl h.name_is h.is_in (held_ahead t.state table names h.here t h.held fed at h.is_held)

-- what has been read, where the state is known
abbrev pub IsCalm : State → Type 0
IsCalm state.AmbiguousAmpersand = ⊥
IsCalm other = Unit {0}

pub in_state : {table : Entities} {start : RawKind} {t : Tokenizer} {names : Texts} {text : List Placed} {taken : List Event} → IsCalm t.state
    → HasTaken table start t names text taken → Reads table start t names text [] taken
in_state calm (holds h) = h
in_state calm (in_ambiguous_ampersand h) = absurd (subst IsCalm h.state_is calm)

-- and the names may have grown
run_as : {table : Entities} {start : RawKind} {t : Tokenizer} {names : Texts} {text ahead : List Placed} {taken : List Event}
    (h : IsInAmbiguousAmpersand table start t names text ahead taken) (others : Texts) (after : List Placed) (at : ℕ) → Grows names others
    → at ≡ after_last (text ++ after)
    → ((end : ℕ) (more : List Placed) → Stands table start end text (after ++ more) h.here taken (later_errors t.at (after ++ more)))
    → IsInAmbiguousAmpersand table start (record t { next = at }) others text after taken
run_as {t = t} {names = names} h others after at grows next stands = record {
  accepts = h.accepts;
  here = h.here;
  state_is = h.state_is;
  table_is = h.table_is;
  next_is = next;
  stands = stands;
  kind_is = h.kind_is;
  name_is = last_kept names others t.last h.here.name grows h.name_is;
  may = h.may;
  raises_none = h.raises_none;
  between = between_next at h.between;
}

module _ {table : Entities} {start : RawKind} {t : Tokenizer} {before : Texts} {text : List Placed} {taken : List Event} (names : Texts) where
  pub taken_now : IsCalm t.state → Grows before names → HasTaken table start t before text taken → Reads table start t names text [] taken
  taken_now calm grows h = reads_kept names grows (in_state calm h)

  pub taken_kept : Grows before names → HasTaken table start t before text taken → HasTaken table start t names text taken
  taken_kept grows (holds h) = holds (reads_kept names grows h)
  taken_kept grows (in_ambiguous_ampersand h) = in_ambiguous_ampersand (run_as h names [] t.next grows h.next_is h.stands)

  pub stands_ahead : (p : Placed) (at : ℕ) → at ≡ after_place p.at → IsCalm t.state → Grows before names → HasTaken table start t before text taken
      → Reads table start (record t { next = at }) names text (p ∷ []) taken
  stands_ahead p at after calm grows h = looks_ahead (p ∷ []) at (after ∙ sym (after_last-snoc 0 text p)) (taken_now calm grows h)

  -- a run, after which the next character is here
  pub stands_over : (fed : List Placed) → IsCalm t.state → Grows before names → HasTaken table start t before text taken
      → Reads table start (record t { next = after_last (text ++ fed) }) names text fed taken
  stands_over fed calm grows h = looks_ahead fed (after_last (text ++ fed)) refl (taken_now calm grows h)

  -- a run after an `&`
  pub run_ahead : (p : Placed) (at : ℕ) → at ≡ after_place p.at → t.state ≡ state.AmbiguousAmpersand → Grows before names
      → HasTaken table start t before text taken → IsInAmbiguousAmpersand table start (record t { next = at }) names text (p ∷ []) taken
  run_ahead p at after is grows (holds h) = absurd (subst (λ (s : State). IsHeld s table before h.here t h.held []) is h.is_held)
  run_ahead p at after is grows (in_ambiguous_ampersand h) =
      run_as h names (p ∷ []) at grows (after ∙ sym (after_last-snoc 0 text p)) (λ end more. h.stands end (p ∷ more))

pub all_itself : (ps : List Placed) → all is_plain_character ps ≡ true → all is_itself ps ≡ true
all_itself ps h = all_imp is_plain_character is_itself ps (λ c plain. grind (arith, plain, nat_tests)) h

pub replaced_itself : (n at : ℕ) → all is_itself (replacement_run at n) ≡ true
replaced_itself zero at = refl
replaced_itself (suc n) at = replaced_itself n (at + 1)

-- bad parts after others
pub replaced_more : (m n at : ℕ) → replacement_run at (m + n) ≡ replacement_run at m ++ replacement_run (at + m) n
replaced_more zero n at = let none : 0 + n ≡ n = omega arith in let here : at ≡ at + 0 = omega arith in cc (none, here)
replaced_more (suc m) n at = let long : suc m + n ≡ suc (m + n) = omega arith in let at_is : at + 1 + m ≡ at + suc m = omega arith in
    cc (replaced_more m n (at + 1))

-- THE FRONTS OF A RUN that are only data

pub data_front : (run : List ℕ) (n : ℕ) → IsUtf8 run → n ≡ prefix_len is_only_data run → IsCut n run × (list_all is_only_data (take n run) ≡ true)
data_front run n u is = rw is ((front_of_test is_only_data (λ byte l. grind (arith, l, nat_tests)) run u).0, prefix_all is_only_data run)

pub front_passes : (test : ℕ → Bool) (n : ℕ) (run : List ℕ) → n ≤ prefix_len test run → list_all test (take n run) ≡ true
front_passes test zero run few = refl
front_passes test (suc n) [] few = refl
front_passes test (suc n) (x ∷ xs) few = by (test x) refl few (front_passes test n xs) where
  by : (b : Bool) → test x ≡ b → suc n ≤ cond b (1 + prefix_len test xs) 0 → (n ≤ prefix_len test xs → list_all test (take n xs) ≡ true)
      → list_all test (x ∷ take n xs) ≡ true
  by true is few more = and_from _ _ is (more (omega (arith, few)))
  by false is few more = absurd (omega (arith, few))

-- WHERE THE NEXT CHARACTER STANDS

next_from-append : (now : ℕ) (xs ys : List Placed) → next_from now (xs ++ ys) ≡ next_from (next_from now xs) ys
next_from-append now [] ys = refl
next_from-append now (x ∷ xs) ys = next_from-append (after_place x.at) xs ys

next_bytes : (now at x : ℕ) (xs : List ℕ) → list_all is_ascii (x ∷ xs) ≡ true → next_from now (placed at (x ∷ xs)) ≡ after_place (at + length xs)
next_bytes now at x [] h = let same : at ≡ at + 0 = omega arith in ap after_place same
next_bytes now at x (y ∷ ys) h = let k = and_parts (is_ascii x) (list_all is_ascii (y ∷ ys)) h in let small : x < 128 = grind (arith, nat_tests) in
    let far : at + len_utf8 x + length ys ≡ at + length (y ∷ ys) = omega (arith, len_utf8_ascii x small) in
    next_bytes (after_place at) (at + len_utf8 x) y ys k.1 ∙ ap after_place far

-- after ASCII characters
pub next_ascii : (text : List Placed) (at x : ℕ) (xs : List ℕ) → list_all is_ascii (x ∷ xs) ≡ true
    → after_place (at + length xs) ≡ after_last (text ++ placed at (x ∷ xs))
next_ascii text at x xs h = sym (next_from-append 0 text (placed at (x ∷ xs)) ∙ next_bytes (next_from 0 text) at x xs h)

pub next_run : (text : List Placed) (at : ℕ) (run : List ℕ) → list_all is_ascii run ≡ true → 0 < length run → at + length run ≤ 0xFFFFFFFFFFFFFFFF
    → at + length run ≡ after_last (text ++ placed at run)
next_run text at [] h some room = absurd (omega (arith, some))
next_run text at (x ∷ xs) h some room = let end : at + length (x ∷ xs) ≡ after_place (at + length xs) = omega (arith, room) in end ∙ next_ascii text at x xs h

-- after a run of any characters, the last of which begins after `n` bytes
pub next_last : (text : List Placed) (at n : ℕ) (run : List ℕ) (c : ℕ) → IsCut n run → drop n run ≡ encode_utf8 c
    → after_place (at + n) ≡ after_last (text ++ placed at (chars run))
next_last text at n run c cut is = sym (ap (λ (x : List Placed). after_last (text ++ x)) (last_char n at run c cut is)
    ∙ ap after_last (sym (append_assoc text (placed at (chars (take n run))) (record { ch = c; at = at + n } ∷ [])))
    ∙ next_from-append 0 (text ++ placed at (chars (take n run))) (record { ch = c; at = at + n } ∷ []))

next_bad : (n now at : ℕ) → at + suc n ≤ 0xFFFFFFFFFFFFFFFF → next_from now (replacement_run at (suc n)) ≡ at + suc n
next_bad zero now at h = omega (arith, h)
next_bad (suc n) now at h = next_bad n (after_place at) (at + 1) (omega (arith, h)) ∙ omega arith

pub next_replaced : (text : List Placed) (at n : ℕ) → 0 < n → at + n ≤ 0xFFFFFFFFFFFFFFFF → at + n ≡ after_last (text ++ replacement_run at n)
next_replaced text at zero some h = absurd (omega (arith, some))
next_replaced text at (suc n) some h = sym (next_from-append 0 text (replacement_run at (suc n)) ∙ next_bad n (next_from 0 text) at h)

-- TEXT

module _ {S : Type 0} (gives : S → Item → Result (Unit {0}) Refusal → S → Type 0) {table : Entities} {start : RawKind} {names : Texts} {text : List Placed}
    {taken : List Event} {t : Tokenizer} (h : Reads table start t names text [] taken) (run : List Placed) where
  module _ (in_text : t.state ≡ state.Text) (plain : all is_itself run ≡ true) (new : Tokenizer)
      (then : new ≡ record t { next = new.next; script = new.script }) (next : new.next ≡ after_last (text ++ run))
      (follows : is_script t.kind ≡ true → FollowsAll t.script run new.script) where
    abbrev here : Standing
    here = after_characters h.here run

    none : (h.held ≡ []) × (t.raised.errors.items ≡ []) × IsBetween h.here t
    none = held_in h state.Text in_text

    front_is : text ≡ h.front
    front_is = cc (none.0, append-nil h.front)

    between : IsBetween here new
    between = record {
      named = λ raw name e. cc (none.2.named raw name e);
      leveled = λ script. all_followed run new.script h.here.front (follows (ap is_script h.kind_is ∙ script)) (none.2.leveled script);
    }

    text_stands : (end : ℕ) (more : List Placed) → Stands table start end (text ++ run) more here (taken ++ run_events run) []
    text_stands end more = subst (λ (x : List Placed). Stands table start end (x ++ run) more here (taken ++ run_events run) []) (sym front_is)
        (plain_stands table start end run h.front more h.here taken [] plain
        (subst (λ (x : List Placed). Stands table start end h.front (x ++ (run ++ more)) h.here taken []) none.0 (h.stands end (run ++ more))))

    text_reads : Reads table start new names (text ++ run) [] (taken ++ run_events run)
    text_reads = reads_text here (ap (λ (x : Tokenizer). x.refused) then ∙ h.accepts) (ap (λ (x : Tokenizer). x.table.now) then ∙ h.table_is)
        (next ∙ ap after_last (sym (append-nil (text ++ run)))) text_stands (ap (λ (x : Tokenizer). x.kind) then ∙ h.kind_is)
        (rw (ap (λ (x : Tokenizer). x.last) then) h.name_is) (ap (λ (x : Tokenizer). x.state) then ∙ in_text)
        (ap (λ (x : Tokenizer). x.raised.errors.items) then ∙ none.1) between

    pub text_taken : (old s : S) (answer : Result (Unit {0}) Refusal) → HandsEvents gives names old (run_events run) answer s
        → Takes gives table start text run taken names old answer s new
    text_taken old s (Ok u) handed = take_took (run_events run) refl handed (holds text_reads)
    text_taken old s (Err e) handed =
        take_sink_refused e (run_events run) refl handed (λ more end. are_front (sym (append_assoc text run more)) (text_stands end more))

-- MARKUP, which goes on

module _ {S : Type 0} (gives : S → Item → Result (Unit {0}) Refusal → S → Type 0) {table : Entities} {start : RawKind} {names : Texts} {text : List Placed}
    {taken : List Event} {t : Tokenizer} {run : List Placed} (h : Reads table start t names text run taken) where
  module _ (in_comment : t.state ≡ state.Comment) where
    pub comment_here : IsHeld state.Comment table names h.here t h.held run
    comment_here = held_in h state.Comment in_comment

    abbrev pub inside : IsInMarkup (HasReadOf comment_here.0) (IsCommentOf comment_here.0) Comment t.comment table t h.held run
    inside = comment_here.1

    abbrev pub Took : Result (Unit {0}) Refusal → Tokenizer → Type 0
    Took answer new = TakesRun keeps (HasReadOf comment_here.0) (IsCommentOf comment_here.0) inside.body inside.own run t.raised answer new.comment new.raised

    pub comment_stopped : (e : Refusal) (new last : Tokenizer) (s : S) → Took (Err e) new → Takes gives table start text run taken names s (Err e) s last
    comment_stopped e new last s (run_ran_out reported is handed b) = ran_out_of h is
    comment_stopped e new last s (run_refused x reported is handed b) = ran_out_of h (cc (refused t.raised new.raised reported x handed))
    comment_stopped e new last s (run_goes_on reported is handed has) = absurd cc

    pub comment_goes_on : (new : Tokenizer) (s : S) → Keeps t new → new.state ≡ t.state → Took (Ok tt) new
        → Takes gives table start text run taken names s (Ok tt) s new
    comment_goes_on new s keep same (run_goes_on reported is handed has) =
        goes_on h new s _ (same ∙ in_comment) keep.stays keep.kind_is keep.last_is (kind_in h state.Comment in_comment) (
          comment_here.0,
          markup_more (HasReadOf comment_here.0) (IsCommentOf comment_here.0) Comment table t h.held run t.comment inside new new.comment reported keep.at_is
              (kept t.raised new.raised reported handed) has,
        )
    comment_goes_on new s keep same (run_ran_out reported is handed b) = absurd cc
    comment_goes_on new s keep same (run_refused x reported is handed b) = absurd cc

  pub doctype_goes_on : (in_doctype : t.state ≡ state.Doctype) (new : Tokenizer) (s : S) → Keeps t new → new.state ≡ t.state
      → new.raised.errors.items ≡ t.raised.errors.items
      → HasReadDoctype new.doctype ((held_in h state.Doctype in_doctype).body ++ run) (held_in h state.Doctype in_doctype).own
      → Takes gives table start text run taken names s (Ok tt) s new
  doctype_goes_on in_doctype new s keep same raised has = let i = held_in h state.Doctype in_doctype in
      goes_on h new s _ (same ∙ in_doctype) keep.stays keep.kind_is keep.last_is (kind_in h state.Doctype in_doctype)
      (markup_more HasReadDoctype IsDoctype doctype_token table t h.held run t.doctype i new new.doctype [] keep.at_is
      (raised ∙ sym (append-nil t.raised.errors.items)) (subst (HasReadDoctype new.doctype (i.body ++ run)) (sym (append-nil i.own)) has))

-- A TAG

module _ {S : Type 0} (gives : S → ParseError → Result (Unit {0}) Refusal → S → Type 0) (gives_token : S → Handed → Result (Unit {0}) Refusal → S → Type 0)
    {table : Entities} {start : RawKind} {names : Texts} (later : Texts) (grows : Grows names later) {text : List Placed} {taken : List Event} {t : Tokenizer}
    (h : Reads table start t names text [] taken) (in_tag : t.state ≡ state.Tag) (run : List Placed) where
  abbrev pub tag_here : IsInMarkedTag table names h.here t h.held []
  tag_here = held_in h state.Tag in_tag

  -- by the tokenizer's own table
  pub tag_read : IsInTag t.table.now names t.tag tag_here.body [] t.raised.errors.items
  tag_read = subst (λ (x : Entities). IsInTag x names t.tag tag_here.body [] t.raised.errors.items) (sym h.table_is) tag_here.in_tag

  abbrev pub over : Tokenizer
  over = record t { next = after_last (text ++ run) }

  ahead : Reads table start over later text run taken
  ahead = reads_as h over later run taken refl refl refl (λ end more. h.stands end (run ++ more)) refl
      (last_kept names later t.last h.here.name grows h.name_is) h.is_in (rw in_tag (record {
        opening = tag_here.opening;
        body = tag_here.body;
        held_is = tag_here.held_is;
        opens = tag_here.opens;
        in_tag = tag_ahead table later t.tag tag_here.body t.raised.errors.items
            (names_grow names later grows table t.tag tag_here.body [] t.raised.errors.items tag_here.in_tag) run;
        fits = λ end rest more span e is. tag_here.fits end rest (run ++ more) span e is;
      }))

  pub tag_stopped : (e : Refusal) (new : Tokenizer) (s : S) → e ≡ Memory → Takes (gives_item gives gives_token) table start text run taken later s (Err e) s new
  tag_stopped e new s is = ran_out_of ahead (ap (λ (x : Refusal). Err x) is)

  -- it goes on
  pub tag_goes_on : (new : Tokenizer) → Keeps over new → new.state ≡ t.state → new.tag.kind ≡ t.tag.kind
      → IsInTag t.table.now later new.tag (tag_here.body ++ run) [] new.raised.errors.items → (s : S)
      → Takes (gives_item gives gives_token) table start text run taken later s (Ok tt) s new
  unfolding ahead reads_as
  tag_goes_on new keep same kind more s = let i = tag_here in
      goes_on ahead new s _ (same ∙ in_tag) keep.stays keep.kind_is keep.last_is tt (record {
        opening = i.opening;
        body = i.body ++ run;
        held_is = cc (append_assoc (less t ∷ i.opening) i.body run);
        opens = i.opens ∙ ap tag_mark (sym kind);
        in_tag = subst (λ (x : Entities). IsInTag x later new.tag (i.body ++ run) [] new.raised.errors.items) h.table_is more;
        fits = λ end rest others span e is. i.fits end rest (run ++ others) span (e ∙ append_assoc h.held run others) is;
      })

  -- it ends
  pub tag_finishes : (mid : Tokenizer) → Keeps over mid → mid.tag.kind ≡ t.tag.kind → (read : Texts) → Grows read later
      → IsWholeTag t.table.now read mid.tag (tag_here.body ++ run) mid.raised.errors.items → (new : Tokenizer) (old s : S) (answer : Result (Unit {0}) Refusal)
      → EndsTag (gives_item gives gives_token) mid later old answer new s
      → Takes (gives_item gives gives_token) table start text run taken later old answer s new
  unfolding ahead reads_as
  tag_finishes mid keep kind read then w new old s answer ended = tag_handed gives gives_token ahead tag_here.opening
      (sym (ap (λ (x : List Placed). x ++ run) tag_here.held_is ∙ ap (λ (x : List Placed). less t ∷ x) (append_assoc tag_here.opening tag_here.body run)))
      (λ end more span e is. tag_here.fits end more run span e is) keep (tag_here.opens ∙ ap tag_mark (sym kind)) then
      (subst (λ (x : Entities). IsWholeTag x read mid.tag (tag_here.body ++ run) mid.raised.errors.items) h.table_is w) new old s answer ended

-- bad parts where nothing is held
pub bad_taken : {S : Type 0} (gives : S → ParseError → Result (Unit {0}) Refusal → S → Type 0)
    (gives_token : S → Handed → Result (Unit {0}) Refusal → S → Type 0) (table : Entities) (start : RawKind) (names : Texts) (text : List Placed)
    (taken : List Event) (t : Tokenizer) → Reads table start t names text [] taken → t.state ≡ state.Text → is_script t.kind ≡ false → (at n : ℕ) → 0 < n
    → at + n ≤ 0xFFFFFFFFFFFFFFFF → (old s : S) (answer : Result (Unit {0}) Refusal) → Hands gives_token old (run_tokens (replacement_run at n)) answer s
    → Takes (gives_item gives gives_token) table start text (replacement_run at n) taken names old answer s (record t { next = at + n })
bad_taken gives gives_token table start names text taken t h in_text other at n some within old s answer given =
    text_taken (gives_item gives gives_token) h (replacement_run at n) in_text (replaced_itself n at) (record t { next = at + n }) refl
    (next_replaced text at n some within) (λ script. absurd cc) old s answer (run_given gives gives_token names old s (replacement_run at n) answer given)

-- a token stands for the same when the table of names has grown
pub token_kept : (old new : Texts) → Grows old new → (token : Token) (tok : Tok) → TokenMeans old token tok → TokenMeans new token tok
token_kept old new grows (code.Start name attrs closing at) tok (text, texts, is, are, e) =
    (text, texts, text_kept old new name text grows is, attrs_kept old new grows attrs.items texts are, e)
token_kept old new grows (code.End name at) tok (text, is, e) = (text, text_kept old new name text grows is, e)
token_kept old new grows _ tok h = h

-- so does what was handed over
handed_kept : (old new : Texts) → Grows old new → (h : Handed) (tok : Tok) → HandedMeans old h tok → HandedMeans new h tok
handed_kept old new grows (Alone token) tok (other, means) = (other, token_kept old new grows token tok means)
handed_kept old new grows (WithNames table token) tok (before, tag, means) = (grows_on table old new before grows, tag, means)

-- its token stands for the token by every later table
pub handed_means : (names : Texts) (h : Handed) (tok : Tok) → HandedMeans names h tok → TokenMeans names (token_in h) tok
handed_means names (Alone token) tok (other, means) = means
handed_means names (WithNames table token) tok (before, tag, means) = token_kept table names before token tok means

mean_kept : (old new : Texts) → Grows old new → (items : List Item) (events : List Event) → Mean old items events → Mean new items events
mean_kept old new grows [] [] h = tt
mean_kept old new grows (ItemToken t ∷ items) (Gives tok ∷ events) h = (handed_kept old new grows t tok h.0, mean_kept old new grows items events h.1)
mean_kept old new grows (ItemError e ∷ items) (Reports error ∷ events) h = (h.0, mean_kept old new grows items events h.1)
mean_kept old new grows (ItemToken t ∷ items) (Reports error ∷ events) h = absurd h.0
mean_kept old new grows (ItemError e ∷ items) (Gives tok ∷ events) h = absurd h.0
mean_kept old new grows [] (e ∷ events) h = absurd h
mean_kept old new grows (i ∷ items) [] h = absurd h

pub placed_same : {part text : List ℕ} {there at : ℕ} → part ≡ text → there ≡ at → placed there (chars part) ≡ placed at (chars text)
placed_same {part = part} {at = at} same here = cc (here)

-- plain bytes
pub plain_ascii : (xs : List ℕ) → list_all is_plain_byte xs ≡ true → list_all is_ascii xs ≡ true
plain_ascii xs h = all_weaker is_plain_byte is_ascii (λ x plain. grind (arith, plain, nat_tests)) xs h

module _ {S : Type 0} {gives : S → Item → Result (Unit {0}) Refusal → S → Type 0} {table : Entities} {start : RawKind} {text fed : List Placed}
    {taken : List Event} {names : Texts} {old new : S} {e : Refusal} {next then : Tokenizer} where
  -- a refusal is one whatever follows
  pub refused_longer : (more : List Placed) → Takes gives table start text fed taken names old (Err e) new next
      → Takes gives table start text (fed ++ more) taken names old (Err e) new then
  refused_longer more (take_ran_out es is handed all) = take_ran_out es is handed (λ rest end. rw (append_assoc fed more rest) (all (more ++ rest) end))
  refused_longer more (take_refused name at es is handed all) =
      take_refused name at es is handed (λ rest end. rw (append_assoc fed more rest) (all (more ++ rest) end))
  refused_longer more (take_sink_refused r es is handed all) =
      take_sink_refused r es is handed (λ rest end. rw (append_assoc fed more rest) (all (more ++ rest) end))
  refused_longer more (take_took es is handed has) = absurd cc

  -- after a refusal it does not matter what the tokenizer is
  pub refused_any : Takes gives table start text fed taken names old (Err e) new next → Takes gives table start text fed taken names old (Err e) new then
  refused_any h = rw (← (append-nil fed)) (refused_longer [] h)

-- a refusal in a front of a run
pub cut_refused : {S : Type 0} {gives : S → Item → Result (Unit {0}) Refusal → S → Type 0} {table : Entities} {start : RawKind} {text : List Placed}
    {taken : List Event} {names : Texts} {old new : S} {e : Refusal} {next then : Tokenizer} {count : ℕ} {run : List ℕ} (at : ℕ) → IsCut count run
    → Takes gives table start text (placed at (chars (take count run))) taken names old (Err e) new next
    → Takes gives table start text (placed at (chars run)) taken names old (Err e) new then
cut_refused {count = count} {run = run} at cut h = rw (placed_cut count run cut at) (refused_longer (placed (at + count) (chars (drop count run))) h)

pub part_refused : {S : Type 0} {gives : S → Item → Result (Unit {0}) Refusal → S → Type 0} {table : Entities} {start : RawKind} {text : List Placed}
    {taken : List Event} {names : Texts} {old new : S} {e : Refusal} {next : Tokenizer} {count : ℕ} {run : List ℕ} {answer : Result ℕ Refusal}
    (then : Tokenizer) (at : ℕ) → answer ≡ Err e → IsCut count run
    → Takes gives table start text (placed at (chars (take count run))) taken names old (Err e) new next
    → TakesPart gives table start text at run taken names old answer new then
part_refused then at is cut h = rw is (cut_refused at cut h)

-- nothing was fed
pub takes_nothing : {S : Type 0} {gives : S → Item → Result (Unit {0}) Refusal → S → Type 0} {table : Entities} {start : RawKind} {t : Tokenizer}
    {names : Texts} {text : List Placed} {taken : List Event} {s : S} → HasTaken table start t names text taken
    → Takes gives table start text [] taken names s (Ok tt) s t
takes_nothing h = take_took [] refl ([], tt, (refl, refl)) (simp append-nil h)

module _ {S : Type 0} (gives : S → Item → Result (Unit {0}) Refusal → S → Type 0) (table : Entities) (start : RawKind) (text : List Placed) where
  -- A LOOP OVER A RUN, of which a front has been taken

  module _ (front : List Placed) (taken : List Event) (before names : Texts) (grows : Grows before names) (old mid : S) (t : Tokenizer) where
    -- how a part of what is left is taken, if the rest has been
    abbrev pub ThenTakes : List Placed → Result (Unit {0}) Refusal → S → Tokenizer → Type 0
    ThenTakes part answer new next =
        (fed : List Placed) (events : List Event) → HasTaken table start t before fed events → Takes gives table start fed part events names mid answer new next

    pub part_taken : (part whole : List Placed) → whole ≡ front ++ part → (answer : Result (Unit {0}) Refusal) (new : S) (next : Tokenizer)
        → Takes gives table start text front taken before old (Ok tt) mid t → ThenTakes part answer new next
        → Takes gives table start text whole taken names old answer new next
    part_taken part whole is answer new next (take_ran_out es e handed front_is) then = absurd cc
    part_taken part whole is answer new next (take_refused name at es e handed front_is) then = absurd cc
    part_taken part whole is answer new next (take_sink_refused r es e handed front_is) then = absurd cc
    part_taken part whole is answer new next (take_took es e (items, mean, given) has) then =
        rw is (takes_both front es (items, mean_kept before names grows items es mean, given) (then (text ++ front) (taken ++ es) has))

  module _ (at : ℕ) {count : ℕ} {run : List ℕ} (cut : IsCut count run) (taken : List Event) (before names : Texts) (grows : Grows before names) (old mid : S)
      (t : Tokenizer) where
    abbrev pub SoFarCut : Type 0
    SoFarCut = Takes gives table start text (placed at (chars (take count run))) taken before old (Ok tt) mid t

    -- what is left is a run of its own
    module _ (rest : List ℕ) (there : ℕ) (rest_is : rest ≡ drop count run) (there_is : there ≡ at + count) where
      abbrev pub ThenCut : List ℕ → Result (Unit {0}) Refusal → S → Tokenizer → Type 0
      ThenCut part = ThenTakes (placed at (chars (take count run))) taken before names grows old mid t (placed there (chars part))

      pub cut_more_taken : (n : ℕ) → IsCut n rest → (new : S) (next : Tokenizer) → SoFarCut → ThenCut (take n rest) (Ok tt) new next
          → Takes gives table start text (placed at (chars (take (count + n) run))) taken names old (Ok tt) new next
      cut_more_taken n again = part_taken (placed at (chars (take count run))) taken before names grows old mid t (placed there (chars (take n rest)))
          (placed at (chars (take (count + n) run)))
          (cc (placed_more count n run cut (subst (IsCut n) rest_is again) at, placed_same (ap (take n) rest_is) there_is)) (Ok tt)

      pub cut_more_refused : (e : Refusal) (new : S) (next : Tokenizer) → SoFarCut → ThenCut rest (Err e) new next
          → Takes gives table start text (placed at (chars run)) taken names old (Err e) new next
      cut_more_refused e = part_taken (placed at (chars (take count run))) taken before names grows old mid t (placed there (chars rest))
          (placed at (chars run)) (cc (placed_cut count run cut at, placed_same rest_is there_is)) (Err e)
