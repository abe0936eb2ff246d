-- Tags that stand whole in a run.
use Rattle.htoken.proofs.Names.{◌≡◌, ◌≤◌, ◌<◌, ℕ, suc, ◌+◌, ◌-◌, true, false, ◌||◌, List, [], ◌∷◌, ◌++◌, length, take, drop, sym, refl, ap, ◌∙◌, subst, Result, Ok, Err, Option, Some, None, append-nil, arith, length-drop, take_all, length-take-le, chars-nil, codes, is_some, slice_get, slice_index, list_all, chars, IsUtf8, ParseError, Placed, RawKind, RefusedName, Refusal, Memory, Texts, Grows, placed, raw_kind, refused_name, tag_named, is_plain_byte, IsCut, plain_chars, hand_one, Entities, IsInTag, Tokenizer, next, TakesPart, IsTag, start_tag, end_tag, tag_mark, Tok, Span, Start, End, Item, ItemToken, Event, HandedMeans, gives_item, has_refused, Reads, HasTaken, holds, Takes, take_took, IsLast, less, after_last, slice_range, IsBareName, bare_bytes, bare_front, bare_no_errors, bare_placed, bare_plain, bare_within, tag, get_or, get_or-append_seam, IsCharBoundary, Handed, named_plain, named_within, IsCharBoundary-before_ascii, ascii_cut, BeginsNamed}
use Rattle.names.specs.declared.raw.RawKind.TheVariants as kind
use Rattle.htoken.specs.declared.state.State.TheVariants as state
use Rattle.htoken.proofs.Fronts.{part_taken, plain_ascii, takes_nothing, next_run}
use Rattle.htoken.proofs.Going.{spans_end, held_in, kind_in, ran_out_before, reads_as, reads_held}
use Rattle.htoken.proofs.Handing.{span_given}
use Rattle.htoken.proofs.InData.{between_data}

-- A FRONT OF PLAIN BYTES

module _ (n : ℕ) (run : List ℕ) (within : n ≤ length run) (plain : list_all is_plain_byte (take n run) ≡ true) (u : IsUtf8 run) where
  pub plain_cut : IsCut n run
  plain_cut = ascii_cut n run within (plain_ascii (take n run) plain) u

  pub plain_taken : chars (take n run) ≡ take n run
  plain_taken = plain_chars (take n run) plain plain_cut.front

  pub plain_next : (text : List Placed) (at : ℕ) → 0 < n → at + length run ≤ 0xFFFFFFFFFFFFFFFF → at + n ≡ after_last (text ++ placed at (chars (take n run)))
  plain_next text at some room = let long : length (take n run) ≡ n = length-take-le n run within in
      cc (next_run text at (take n run) (plain_ascii (take n run) plain) (omega (arith, some, long)) (omega (arith, long, within, room)), plain_taken)

-- the first byte of a run, and the bytes after it
pub first_is : {c : ℕ} (run : List ℕ) → 0 < length run → slice_index run 0 ≡ c → run ≡ c ∷ drop 1 run
first_is [] some is = absurd (omega (arith, some))
first_is (x ∷ xs) some is = ap (λ (y : ℕ). y ∷ xs) is

pub range_after_first : (size : ℕ) (run : List ℕ) → slice_range run 1 (size + 1) ≡ take size (drop 1 run)
range_after_first size run = let long : size + 1 - 1 ≡ size = omega arith in ap (λ (n : ℕ). take n (drop 1 run)) long

-- what is known of a name after the first byte
pub bare_here : {size : ℕ} {run bytes : List ℕ} → bytes ≡ run → 0 < size → (0 < size → IsBareName (take (length bytes - 1) (drop 1 bytes)) size)
    → IsBareName (drop 1 run) size
bare_here {size} {run} {bytes} same some named =
    subst (λ (x : List ℕ). IsBareName x size) (take_all _ _ (omega (arith, length-drop 1 bytes)) ∙ ap (drop 1) same) (named some)

-- nothing was taken of a run
pub nothing_taken : {S : Type 0} {gives : S → Item → Result (Unit {0}) Refusal → S → Type 0} {table : Entities} {start : RawKind} {text : List Placed}
    {taken : List Event} (at : ℕ) {names : Texts} {s : S} {t : Tokenizer} → HasTaken table start t names text taken
    → Takes gives table start text (placed at (chars [])) taken names s (Ok tt) s t
nothing_taken at h = rw chars-nil (takes_nothing h)

-- and then a part of it
module _ {S : Type 0} {gives : S → Item → Result (Unit {0}) Refusal → S → Type 0} {table : Entities} {start : RawKind} {text : List Placed} {taken : List Event}
    (at count : ℕ) (run : List ℕ) {before : Texts} (names : Texts) {old mid : S} (new : S) {t : Tokenizer} (next : Tokenizer) (none : count ≡ 0)
    (grows : Grows before names) (first : Takes gives table start text (placed at (chars (take count run))) taken before old (Ok tt) mid t) where
  nothing : Takes gives table start text [] taken before old (Ok tt) mid t
  nothing = subst (λ (x : List ℕ). Takes gives table start text (placed at x) taken before old (Ok tt) mid t)
      (ap (λ (n : ℕ). chars (take n run)) none ∙ chars-nil) first

  pub nothing_then : (answer : Result ℕ Refusal) → ((fed : List Placed) (events : List Event) → HasTaken table start t before fed events
      → TakesPart gives table start fed at run events names mid answer new next) → TakesPart gives table start text at run taken names old answer new next
  nothing_then (Ok n) = let part = placed at (chars (take n run)) in
      part_taken gives table start text [] taken before names grows old mid t part part refl (Ok tt) new next nothing
  nothing_then (Err e) = let whole = placed at (chars run) in
      part_taken gives table start text [] taken before names grows old mid t whole whole refl (Err e) new next nothing

-- A BARE TAG IN A RUN

-- a bare name ends between characters
pub bare_boundary : (run : List ℕ) (size : ℕ) → IsBareName run size → IsCharBoundary run size
bare_boundary run size bare = let name = bare.letter ∷ bare.letters in let long : size ≡ length name = omega (arith, bare.count_is) in
    let greater : get_or run size 0 ≡ 62 = cc (get_or-append_seam name 62 bare.others 0) in
    IsCharBoundary-before_ascii run size (omega (arith, bare_within run size bare)) (omega (arith, greater))

module _ (run : List ℕ) (size : ℕ) (u : IsUtf8 run) (bare : IsBareName run size) where
  pub start_cut : IsCut (size + 1) run
  start_cut = plain_cut (size + 1) run (bare_within run size bare) (bare_plain run size bare) u

  start_next : (text : List Placed) (at : ℕ) → at + length run ≤ 0xFFFFFFFFFFFFFFFF
      → at + size + 1 ≡ after_last (text ++ placed at (chars (take (size + 1) run)))
  start_next text at room = let one : at + size + 1 ≡ at + (size + 1) = omega arith in
      one ∙ plain_next (size + 1) run (bare_within run size bare) (bare_plain run size bare) u text at (omega arith) room

module _ (run rest : List ℕ) (size : ℕ) (u : IsUtf8 run) (run_is : run ≡ 47 ∷ rest) (bare : IsBareName rest size) where
  end_within : size + 2 ≤ length run
  end_within = omega (arith, ap length run_is, bare_within rest size bare)

  end_bytes : take (size + 2) run ≡ 47 ∷ take (size + 1) rest
  end_bytes = let two : size + 2 ≡ suc (size + 1) = omega arith in ap (λ (n : ℕ). take n run) two ∙ ap (take (suc (size + 1))) run_is

  end_plain : list_all is_plain_byte (take (size + 2) run) ≡ true
  end_plain = ap (list_all is_plain_byte) end_bytes ∙ bare_plain rest size bare

  pub end_cut : IsCut (size + 2) run
  end_cut = plain_cut (size + 2) run end_within end_plain u

  end_placed : (at : ℕ) → placed at (chars (take (size + 2) run))
      ≡ record { ch = 47; at = at } ∷ placed (at + 1) (bare.letter ∷ bare.letters) ++ record { ch = 62; at = at + 1 + size } ∷ []
  end_placed at = cc (plain_taken (size + 2) run end_within end_plain u, end_bytes, bare_placed rest size bare (at + 1))

  end_next : (text : List Placed) (at : ℕ) → at + length run ≤ 0xFFFFFFFFFFFFFFFF → at + size + 2 ≡ after_last (text ++ placed at (chars (take (size + 2) run)))
  end_next text at room = let two : at + size + 2 ≡ at + (size + 2) = omega arith in
      two ∙ plain_next (size + 2) run end_within end_plain u text at (omega arith) room

-- WHAT IS AFTER A `<`

module _ {table : Entities} {start : RawKind} {t : Tokenizer} {names : Texts} {text : List Placed} {taken : List Event}
    (h : Reads table start t names text [] taken) where
  -- memory ran out, and nothing was handed over
  pub memory_out : {S : Type 0} (gives : S → Item → Result (Unit {0}) Refusal → S → Type 0) (fed : List Placed) (s : S) (new : Tokenizer)
      → Takes gives table start text fed taken names s (Err Memory) s new
  memory_out gives fed s new = ran_out_before h

  pub memory_part : {S : Type 0} (gives : S → Item → Result (Unit {0}) Refusal → S → Type 0) (at : ℕ) (run : List ℕ) (s : S) (new : Tokenizer)
      (answer : Result ℕ Refusal) → answer ≡ Err Memory → TakesPart gives table start text at run taken names s answer s new
  memory_part gives at run s new answer is = rw is (memory_out gives (placed at (chars run)) s new)

  module _ (tag_open : t.state ≡ state.TagOpen) where
    held_less : (h.held ≡ less t ∷ []) × (t.raised.errors.items ≡ [])
    held_less = held_in h state.TagOpen tag_open

    here_data : h.here.kind ≡ kind.None
    here_data = kind_in h state.TagOpen tag_open

    less_ahead : (fed : List Placed) (at : ℕ) → at ≡ after_last (text ++ fed) → Reads table start (record t { next = at }) names text fed taken
    less_ahead fed at is =
        reads_as h (record t { next = at }) names fed taken refl refl is (λ end more. h.stands end (fed ++ more)) refl h.name_is h.is_in (rw tag_open held_less)

    -- a tag without errors, after which data comes, was handed over
    module _ (fed : List Placed) (tok : Tok)
        (is_tag : (end : ℕ) (more : List Placed) → IsTag table end more (record { text = less t ∷ fed; tokens = tok ∷ []; errors = [] })) where
      abbrev span : Span
      span = record { text = less t ∷ fed; tokens = tok ∷ []; errors = [] }

      tag_given : {S : Type 0} (gives : S → ParseError → Result (Unit {0}) Refusal → S → Type 0)
          (gives_token : S → Handed → Result (Unit {0}) Refusal → S → Type 0) → has_refused (tok ∷ []) ≡ false
          → (next h.here (record { text = less t ∷ fed; tokens = tok ∷ []; errors = [] })).kind ≡ kind.None → (new : Tokenizer)
          → new ≡ record t { next = new.next; state = state.Text; last = new.last } → new.next ≡ after_last (text ++ fed)
          → IsLast names new.last (next h.here (record { text = less t ∷ fed; tokens = tok ∷ []; errors = [] })).name → (token : Handed)
          → HandedMeans names token tok → (old s : S) (answer : Result (Unit {0}) Refusal) → gives_token old token answer s
          → Takes (gives_item gives gives_token) table start text fed taken names old answer s new
      unfolding less_ahead reads_as
      tag_given gives gives_token allowed to_data new then next_is last token means old s answer given = spans_end (gives_item gives gives_token)
          (less_ahead fed new.next next_is) span (ap (λ (x : List Placed). x ++ fed) (sym held_less.0)) (λ end more. rw here_data (tag (is_tag end more)))
          allowed new old s answer (ap (λ (x : Tokenizer). x.refused) then, ap (λ (x : Tokenizer). x.table) then, refl) (cc (here_data)) last
          (ap (λ (x : Tokenizer). x.state) then) (ap (λ (x : Tokenizer). x.raised.errors.items) then ∙ held_less.1) (between_data _ new to_data)
          (span_given gives gives_token names [] token tok old s answer means (hand_one (gives_item gives gives_token) old s (ItemToken token) answer given))

    -- A START TAG, of which this is the name so far

    pub name_begins : {S : Type 0} (gives : S → Item → Result (Unit {0}) Refusal → S → Type 0) (run : List ℕ) (at size count : ℕ) → IsUtf8 run
        → at + length run ≤ 0xFFFFFFFFFFFFFFFF → (new : Tokenizer) → (count ≡ size) × BeginsNamed t run at size new → (s : S)
        → Takes gives table start text (placed at (chars (take count run))) taken names s (Ok tt) s new
    name_begins gives run at size count u room new (size_is, begun) s = let named = begun.named in let fed : List Placed = placed at (chars (take size run)) in
        let within = named_within [] run size named in
        let plain = named_plain [] run size named in
        let some : 0 < size = omega (arith, named.count_is) in
        let then = begun.then in
        rw size_is
        (take_took [] refl ([], tt, (refl, refl)) (holds (reads_held h new fed (ap (λ (x : Tokenizer). x.refused) then) (ap (λ (x : Tokenizer). x.table) then)
        (cc (plain_next size run within plain u text at some room)) (λ end more. h.stands end (fed ++ more)) (ap (λ (x : Tokenizer). x.kind) then)
        (ap (λ (x : Tokenizer). x.last) then) (rw (ap (λ (x : Tokenizer). x.state) then) tt) (rw (ap (λ (x : Tokenizer). x.state) then) (record {
          opening = [];
          body = fed;
          held_is = cc (held_less.0);
          opens = sym (ap tag_mark begun.kind_is);
          in_tag = subst (IsInTag table names new.tag fed []) (sym (ap (λ (x : Tokenizer). x.raised.errors.items) then ∙ held_less.1))
              (rw (plain_taken size run within plain u) (begun.begun table names at));
          fits = λ end more others span e is. rw here_data (tag is);
        })))))

    -- A BARE TAG

    module _ {S : Type 0} (gives : S → ParseError → Result (Unit {0}) Refusal → S → Type 0) (gives_token : S → Handed → Result (Unit {0}) Refusal → S → Type 0)
        (run : List ℕ) (at size : ℕ) (u : IsUtf8 run) (room : at + length run ≤ 0xFFFFFFFFFFFFFFFF) where
      module _ (bare : IsBareName run size) where
        start_is : (end : ℕ) (more : List Placed) → IsTag table end more
            (record { text = less t ∷ placed at (chars (take (size + 1) run)); tokens = Start (take size run) [] false t.at ∷ []; errors = [] })
        start_is end more = let name : List Placed = placed at (bare.letter ∷ bare.letters) in
            let close : List Placed = record { ch = 62; at = at + size } ∷ [] in
            start_tag (less t ∷ []) name [] close false (bare_front run size bare at table end (at + size) (codes "<") (less t ∷ []) more refl) refl (cc (
              plain_taken (size + 1) run (bare_within run size bare) (bare_plain run size bare) u,
              bare_placed run size bare at,
              append-nil (less t ∷ name),
              bare_bytes run size bare at,
              bare_no_errors run size bare at,
            ))

        pub start_given : (name : ℕ) (new : Tokenizer) → new ≡ record t { next = at + size + 1; state = state.Text; last = Some name }
            → slice_get names name ≡ Some (take size run) → refused_name (tag_named (take size run)) ≡ None → raw_kind (tag_named (take size run)) ≡ kind.None
            → (token : Handed) → HandedMeans names token (Start (take size run) [] false t.at) → (old s : S) (answer : Result (Unit {0}) Refusal)
            → gives_token old token answer s
            → Takes (gives_item gives gives_token) table start text (placed at (chars (take (size + 1) run))) taken names old answer s new
        start_given name new then number in_profile to_data token means old s answer given = tag_given (placed at (chars (take (size + 1) run)))
            (Start (take size run) [] false t.at) start_is gives gives_token (ap (λ (x : Option RefusedName). is_some x || false) in_profile) to_data new
            (then ∙ sym (ap (λ (x : Tokenizer). record t { next = x.next; state = state.Text; last = x.last }) then))
            (ap (λ (x : Tokenizer). x.next) then ∙ start_next run size u bare text at room)
            (subst (λ (x : Option ℕ). IsLast names x (Some (take size run))) (sym (ap (λ (x : Tokenizer). x.last) then)) (take size run, number, refl)) token
            means old s answer given

      module _ (rest : List ℕ) (run_is : run ≡ 47 ∷ rest) (bare : IsBareName rest size) where
        end_is : (end : ℕ) (more : List Placed)
            → IsTag table end more (record { text = less t ∷ placed at (chars (take (size + 2) run)); tokens = End (take size rest) t.at ∷ []; errors = [] })
        end_is end more = let name : List Placed = placed (at + 1) (bare.letter ∷ bare.letters) in
            let close : List Placed = record { ch = 62; at = at + 1 + size } ∷ [] in
            let opening : List Placed = less t ∷ record { ch = 47; at = at } ∷ [] in
            end_tag opening name [] close false (bare_front rest size bare (at + 1) table end (at + 1 + size) (codes "</") opening more refl) refl (cc (
              end_placed run rest size u run_is bare at,
              append-nil (opening ++ name),
              bare_bytes rest size bare (at + 1),
              bare_no_errors rest size bare (at + 1),
            ))

        pub end_given : (new : Tokenizer) → new ≡ record t { next = at + size + 2; state = state.Text } → (token : Handed)
            → HandedMeans names token (End (take size rest) t.at) → (old s : S) (answer : Result (Unit {0}) Refusal) → gives_token old token answer s
            → Takes (gives_item gives gives_token) table start text (placed at (chars (take (size + 2) run))) taken names old answer s new
        end_given new then token means old s answer given =
            tag_given (placed at (chars (take (size + 2) run))) (End (take size rest) t.at) end_is gives gives_token refl refl new (cc)
            (cc (end_next run rest size u run_is bare text at room)) (rw (ap (λ (x : Tokenizer). x.last) then) h.name_is) token means old s answer given
