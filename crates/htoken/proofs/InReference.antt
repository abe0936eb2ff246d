-- A character after an `&`, and the input's end there.
use Rattle.htoken.proofs.Names.{◌≡◌, ℕ, ◌+◌, ◌-◌, ◌≤◌, Bool, true, false, true≢false, ◌&&◌, eqb, List, [], ◌∷◌, ◌++◌, map, length, drop, take, reverse, sym, refl, ap, ◌∙◌, subst, Result, Ok, Err, arith, append_assoc, append-nil, UnknownNamedCharacterReference, ParseError, Placed, RawKind, Refusal, Texts, all, begins, past, is_alphanumeric, error_if, Reference, IsRead, characters_of, errors_of, Entities, IsTable, IsReference, WalkState, and_no, and_parts, Tokenizer, Span, Item, Event, Gives, Reports, Char, piece_span, Standing, next, is_raw, is_script, has_references, known_errors, piece_events, read_events, HandsEvents, run_events, Stands, Reads, IsInAmbiguousAmpersand, Takes, take_took, take_sink_refused, in_ambiguous_ampersand, IsBetween, EndsHeld, held_ended, later_errors, after_last, drop-append-le, take-append-le, drop-append_seam, take-append_seam, CharWalk, is_number, WalkHasTaken, LeavesLast, kept_none, kept_all, kept_nothing, is_other, drop-kept, drop-kept-end, BeginsReference, Finds, IsInReference, held_characters}
use Rattle.std.proofs.Math.ListN.{length-append}
use Rattle.names.specs.declared.raw.RawKind.TheVariants as kind
use Rattle.htoken.specs.declared.state.State.TheVariants as state
use Rattle.htoken.proofs.Going.{goes_on, spans_end, are_front, held_in, kind_in, reads_text}
use Rattle.htoken.proofs.Cutting.{stands_on, stands_told, later_on, later_told}
use Rattle.htoken.proofs.Referring.{all-drop, held_kept, run_errors, after_reference, stands_read, alphanumeric_itself, reference_is, no_tag, gives_some, next_is, is_itself, plain_is, plain_span}

-- what a walk that stays as it is has found with a character
pub found_with : (table : Entities) (old new : CharWalk) (p : Placed) (found : Reference) → new ≡ old → ((in_value : Bool) (text : List Placed) (q : Placed)
    → WalkHasTaken old table in_value text → q.ch ≡ p.ch → (after : List Placed) → IsRead table in_value (text ++ q ∷ []) after found)
    → (is_number old.state ≡ true → LeavesLast found) → Finds table new p found
found_with table old new p found same taken number = record {
  reads = λ text after has. taken false text p (rw (← same) has) refl after;
  number = λ is. number (ap (λ (w : CharWalk). is_number w.state) (sym same) ∙ is);
}

-- where references may be no script does
pub no_script : (k : RawKind) → has_references k ≡ true → is_script k ≡ true → ⊥
no_script kind.Script e f = absurd cc
no_script _ e f = absurd cc

pub same_between : (here after : Standing) {t : Tokenizer} (new : Tokenizer) → has_references here.kind ≡ true → after.kind ≡ here.kind → after.name ≡ here.name
    → new.tag ≡ t.tag → IsBetween here t → IsBetween after new
same_between here after new may kind name tag b = record {
  named = λ raw bytes e. cc (b.named (ap is_raw (sym kind) ∙ raw) bytes (sym name ∙ e));
  leveled = λ s. absurd (no_script here.kind may (ap is_script (sym kind) ∙ s));
}

all-last : (f : ℕ → Bool) (xs ys : List Placed) → all f (xs ++ ys) ≡ true → all f ys ≡ true
all-last f [] ys h = h
all-last f (x ∷ xs) ys h = all-last f xs ys (and_parts (f x.ch) (all f (xs ++ ys)) h).1

-- the part of the text that a reference has, where one character more was taken
split_at : (text : List Placed) (p : Placed) (left : ℕ) → left ≤ length (text ++ p ∷ []) → (left ≡ 0 → ⊥)
    → (drop (length (text ++ p ∷ []) - left) (text ++ p ∷ []) ≡ drop (length text + 1 - left) text ++ p ∷ [])
    × (take (length (text ++ p ∷ []) - left) (text ++ p ∷ []) ≡ take (length text + 1 - left) text)
split_at text p left within some = let long : length (text ++ p ∷ []) ≡ length text + 1 = length-append text (p ∷ []) in
    let count : ℕ = length text + 1 - left in
    let small : count ≤ length text = omega arith in
    let same : length (text ++ p ∷ []) - left ≡ count = ap (λ (n : ℕ). n - left) long in
    (cc (drop-append-le count text (p ∷ []) small), cc (take-append-le count text (p ∷ []) small))

module _ {S : Type 0} (gives : S → Item → Result (Unit {0}) Refusal → S → Type 0) {table : Entities} {start : RawKind} {text : List Placed} {p : Placed}
    {names : Texts} {taken : List Event} {t : Tokenizer} (h : Reads table start t names text (p ∷ []) taken) (after_amp : t.state ≡ state.Reference) where
  abbrev inside : IsInReference table h.here t h.held
  inside = held_in h state.Reference after_amp

  pub may : has_references h.here.kind ≡ true
  may = kind_in h state.Reference after_amp

  pub taken_by_walk : WalkHasTaken t.reference table false inside.read
  taken_by_walk = inside.has_taken

  -- what is kept where the reference goes on
  kept_on : (next : WalkState) → (is_number t.reference.state ≡ true → is_number next ≡ true) → (number : Bool) → is_number next ≡ number
      → held_characters next (t.held.items ++ p ∷ []) ≡ held_characters next (inside.read ++ p ∷ [])
  kept_on next leads true number = kept_none next (t.held.items ++ p ∷ []) number ∙ sym (kept_none next (inside.read ++ p ∷ []) number)
  kept_on next leads false other = kept_all next (t.held.items ++ p ∷ []) other ∙ ap (λ (x : List Placed). x ++ p ∷ [])
      (inside.kept_is ∙ kept_all t.reference.state inside.read (is_other t.reference.state (λ number. true≢false (sym (leads number) ∙ other))))
      ∙ sym (kept_all next (inside.read ++ p ∷ []) other)

  -- the reference goes on
  pub reference_goes_on : (walk : CharWalk) (mid : Tokenizer) (s : S) → mid.held.items ≡ held_characters walk.state (t.held.items ++ p ∷ [])
      → (is_number t.reference.state ≡ true → is_number walk.state ≡ true) → WalkHasTaken walk table false (inside.read ++ p ∷ [])
      → Takes gives table start text (p ∷ []) taken names s (Ok tt) s (record t { reference = walk; held = mid.held })
  reference_goes_on walk mid s held_is leads walked =
      goes_on h (record t { reference = walk; held = mid.held }) s _ after_amp (refl, refl, refl) refl refl may (record {
        read = inside.read ++ p ∷ [];
        held_is = ap (λ (x : List Placed). x ++ p ∷ []) inside.held_is;
        raises_none = inside.raises_none;
        is_table = inside.is_table;
        has_taken = walked;
        kept_is = held_is ∙ kept_on walk.state leads (is_number walk.state) refl;
        between = same_between h.here h.here _ may refl refl refl inside.between;
      })

  module _ {found : Reference} (f : Finds table t.reference p found) where
    abbrev read : List Placed
    read = inside.read

    r : (after : List Placed) → IsRead table false (read ++ p ∷ []) after found
    r after = f.reads read after inside.has_taken

    pub in_letters : found.is_ambiguous ≡ true → (found.left ≡ 0 → ⊥) × (is_alphanumeric p.ch ≡ true) × (length t.held.items + 1 - found.left ≡ 0)
    in_letters told = let run = (r []).run told in let long : length (read ++ p ∷ []) ≡ length read + 1 = length-append read (p ∷ []) in
        let parts = and_parts (is_alphanumeric p.ch) true (all-last is_alphanumeric read (p ∷ []) run.1) in
        let name : is_number t.reference.state ≡ false = is_other t.reference.state (λ number. true≢false (sym told ∙ (f.number number).0)) in
        let held_is : length t.held.items ≡ length read = ap length (inside.kept_is ∙ kept_all t.reference.state read name) in
        (λ none. omega (arith, run.0), parts.0, omega (arith, run.0))

    abbrev amp : Placed
    amp = record { ch = 38; at = t.at }

    -- it ends with the character
    module _ (none : found.left ≡ 0) (told : found.is_ambiguous ≡ false) where
      abbrev whole : List Placed
      whole = amp ∷ (read ++ p ∷ [])

      abbrev span : Span
      span = piece_span (record { text = whole; gives = characters_of found.characters; errors = known_errors found t.at })

      all_of : (xs : List Placed) (n : ℕ) → n ≡ 0 → (drop (length xs - n) xs ≡ []) × (take (length xs - n) xs ≡ xs)
      all_of xs n e = let same : length xs - n ≡ length xs = omega arith in
          (cc (append-nil xs, drop-append_seam xs []), cc (append-nil xs, take-append_seam xs []))

      known : (after : List Placed) → errors_of found t.at after ≡ known_errors found t.at
      known after = cc (told, append-nil (known_errors found t.at))

      is_reference : (after : List Placed)
          → IsReference table false after (record { text = whole; gives = characters_of found.characters; errors = known_errors found t.at })
      is_reference after = let a = all_of (read ++ p ∷ []) found.left none in
          subst (λ (x : List ParseError). IsReference table false after (record { text = whole; gives = characters_of found.characters; errors = x }))
          (known after) (subst (λ (x : List Placed).
          IsReference table false after (record { text = amp ∷ x; gives = characters_of found.characters; errors = errors_of found t.at after })) a.1
          (subst (λ (x : List Placed). IsReference table false (x ++ after) (record {
            text = amp ∷ take (length (read ++ p ∷ []) - found.left) (read ++ p ∷ []);
            gives = characters_of found.characters;
            errors = errors_of found t.at after;
          })) a.0 ((r after).reads amp refl)))

      pub reference_ends : (old s : S) (answer : Result (Unit {0}) Refusal) → HandsEvents gives names old (piece_events found t.at) answer s
          → Takes gives table start text (p ∷ []) taken names old answer s (record t { state = state.Text })
      reference_ends old s answer handed = let i = inside in
          let there : next h.here span ≡ record h.here { front = reverse whole ++ h.here.front } =
          next_is h.here whole (known_errors found t.at) (characters_of found.characters) (gives_some table i.is_table (is_reference [])) in
          spans_end gives h span (ap (λ (x : List Placed). x ++ p ∷ []) (sym i.held_is)) (λ end more. reference_is table end h.here more
          (record { text = whole; gives = characters_of found.characters; errors = known_errors found t.at }) may (is_reference more))
          (no_tag (characters_of found.characters) t.at) _ old s answer (refl, refl, refl) (h.kind_is ∙ sym (ap (λ x. x.kind) there))
          (rw (ap (λ x. x.name) there) h.name_is) refl i.raises_none
          (same_between h.here (next h.here span) _ may (ap (λ x. x.kind) there) (ap (λ x. x.name) there) refl i.between) handed

    -- it ends before
    module _ (some : found.left ≡ 0 → ⊥) where
      abbrev count : ℕ
      count = length read + 1 - found.left

      abbrev pub back : List Placed
      back = drop count read

      abbrev after : Standing
      after = after_reference h.here t.at read count

      abbrev pub given : List Event
      given = read_events found t.at t.held.items (length t.held.items + 1 - found.left)

      given_is : read_events found t.at read count ≡ given
      given_is = let back_is = drop-kept t.reference.state read found.left (λ number. (f.number number).1) in
          ap (λ (x : List Placed). piece_events found t.at ++ run_events x)
          (sym back_is ∙ ap (λ (x : List Placed). drop (length x + 1 - found.left) x) (sym inside.kept_is))

      is_before : (more : List Placed) → IsReference table false (back ++ (p ∷ more))
          (record { text = amp ∷ take count read; gives = characters_of found.characters; errors = errors_of found t.at more })
      is_before more = let k = split_at read p found.left (r more).within some in
          rw (← (append_assoc back (p ∷ []) more)) (rw (← k.0) (rw (← k.1) ((r more).reads amp refl)))

      stands_before : (end : ℕ) (more : List Placed) → Stands table start end text (p ∷ more) after (taken ++ given) (run_errors found t.at more)
      stands_before end more = let i = inside in
          subst (λ (x : List Event). Stands table start end text (p ∷ more) after (taken ++ x) (run_errors found t.at more)) given_is
          (subst (λ (x : List Placed). Stands table start end x (p ∷ more) after (taken ++ read_events found t.at read count) (run_errors found t.at more))
          (ap (λ (x : List Placed). h.front ++ x) (sym i.held_is) ∙ sym h.text_is) (stands_read start end h.front h.here taken t.at read count found may
          i.is_table (all-drop is_itself count read (held_kept read i.has_taken.held)) (p ∷ more) more (is_before more)
          (subst (λ (x : List Placed). Stands table start end h.front (x ++ (p ∷ more)) h.here taken []) i.held_is (h.stands end more))))

      pub reference_refused : (new : Tokenizer) (old s : S) (e : Refusal) → HandsEvents gives names old given (Err e) s
          → Takes gives table start text (p ∷ []) taken names old (Err e) s new
      reference_refused new old s e handed = take_sink_refused e given refl handed (λ more end. are_front refl (stands_before end more))

      -- what does not belong to it is read again
      pub reference_ended : found.is_ambiguous ≡ false → Reads table start (record t { state = state.Text }) names text (p ∷ []) (taken ++ given)
      reference_ended told =
          reads_text after h.accepts h.table_is h.next_is (λ end more. subst (λ (b : Bool). Stands table start end text (p ∷ more) after (taken ++ given)
          (error_if (b && begins (λ c. eqb c 59) (past is_alphanumeric more)) UnknownNamedCharacterReference t.at)) told (stands_before end more)) h.kind_is
          h.name_is refl inside.raises_none (same_between h.here after _ may refl refl refl inside.between)

      -- a run of alphanumerics goes on, and its error comes later
      pub run_begins : found.is_ambiguous ≡ true → is_alphanumeric p.ch ≡ true
          → IsInAmbiguousAmpersand table start (record t { state = state.AmbiguousAmpersand }) names text (p ∷ []) (taken ++ given)
      run_begins told letter = record {
        accepts = h.accepts;
        here = after;
        state_is = refl;
        table_is = h.table_is;
        next_is = h.next_is;
        stands = λ end more. subst (Stands table start end text (p ∷ more) after (taken ++ given)) (sym (later_on t.at p more letter))
            (subst (λ (b : Bool). Stands table start end text (p ∷ more) after (taken ++ given)
            (error_if (b && begins (λ c. eqb c 59) (past is_alphanumeric more)) UnknownNamedCharacterReference t.at)) told (stands_before end more));
        kind_is = h.kind_is;
        name_is = h.name_is;
        may = may;
        raises_none = inside.raises_none;
        between = same_between h.here after _ may refl refl refl inside.between;
      }

-- THE INPUT'S END

module _ {S : Type 0} (gives : S → Item → Result (Unit {0}) Refusal → S → Type 0) {table : Entities} {start : RawKind} (end : ℕ) {text : List Placed}
    {names : Texts} {taken : List Event} {t : Tokenizer} (h : Reads table start t names text [] taken) (after_amp : t.state ≡ state.Reference) where
  abbrev pub at_end : IsInReference table h.here t h.held
  at_end = held_in h state.Reference after_amp

  end_may : has_references h.here.kind ≡ true
  end_may = kind_in h state.Reference after_amp

  pub reference_cut : (found : Reference) (then : Tokenizer) (old s : S) (answer : Result (Unit {0}) Refusal) → IsRead table false at_end.read [] found
      → (is_number t.reference.state ≡ true → found.left ≡ 0) → then.kind ≡ t.kind → then.script ≡ t.script
      → HandsEvents gives names old (read_events found t.at t.held.items (length t.held.items - found.left)) answer s
      → EndsHeld gives table start end text taken names old answer then s
  reference_cut found then old s answer r number kind script handed = let i = at_end in let count : ℕ = length i.read - found.left in
      let given : List Event = read_events found t.at i.read count in
      let back_is : drop (length t.held.items - found.left) t.held.items ≡ drop count i.read =
      ap (λ (x : List Placed). drop (length x - found.left) x) i.kept_is ∙ drop-kept-end t.reference.state i.read found.left number in
      let after : Standing = after_reference h.here t.at i.read count in
      held_ended given after (kind ∙ h.kind_is) (λ e. absurd (no_script h.here.kind end_may e)) (subst (Stands table start end text [] after (taken ++ given))
      (ap (λ (b : Bool). error_if b UnknownNamedCharacterReference t.at) (and_no found.is_ambiguous false refl))
      (subst (λ (x : List Placed). Stands table start end x [] after (taken ++ given) (run_errors found t.at []))
      (ap (λ (x : List Placed). h.front ++ x) (sym i.held_is) ∙ sym h.text_is) (stands_read start end h.front h.here taken t.at i.read count found end_may
      i.is_table (all-drop is_itself count i.read (held_kept i.read i.has_taken.held)) [] [] (r.reads (record { ch = 38; at = t.at }) refl)
      (subst (λ (x : List Placed). Stands table start end h.front (x ++ []) h.here taken []) i.held_is (h.stands end [])))))
      (subst (λ (x : List Placed). HandsEvents gives names old (piece_events found t.at ++ run_events x) answer s) back_is handed)

-- A REFERENCE BEGINS

pub reference_begins : {S : Type 0} (gives : S → Item → Result (Unit {0}) Refusal → S → Type 0) (table : Entities) (start : RawKind) (text : List Placed)
    (p : Placed) (names : Texts) (taken : List Event) (t : Tokenizer) (h : Reads table start t names text (p ∷ []) taken) (new : Tokenizer) (s : S)
    → t.state ≡ state.Text → has_references t.kind ≡ true → p.ch ≡ 38 → BeginsReference t p.at new
    → Takes gives table start text (p ∷ []) taken names s (Ok tt) s new
reference_begins gives table start text p names taken t h new s in_text refers is b = let nothing = held_in h state.Text in_text in
    let may : has_references h.here.kind ≡ true = ap has_references (sym h.kind_is) ∙ refers in
    goes_on h new s state.Reference (ap (λ x. x.state) b.then) (ap (λ x. x.refused) b.then, ap (λ x. x.table) b.then, ap (λ x. x.next) b.then)
    (ap (λ x. x.kind) b.then) (ap (λ x. x.last) b.then) may (record {
      read = [];
      held_is = ap (λ (x : List Placed). x ++ p ∷ []) nothing.0 ∙ ap (λ (c : ℕ). record { ch = c; at = p.at } ∷ []) is
          ∙ ap (λ (a : ℕ). record { ch = 38; at = a } ∷ []) (sym (ap (λ x. x.at) b.then));
      raises_none = ap (λ x. x.raised.errors.items) b.then ∙ nothing.1;
      is_table = subst IsTable h.table_is b.is_table;
      has_taken = subst (λ (x : Entities). WalkHasTaken new.reference x false []) h.table_is b.has_taken;
      kept_is = b.held_is ∙ sym (kept_nothing new.reference.state);
      between = same_between h.here h.here new may refl refl (ap (λ x. x.tag) b.then) nothing.2;
    })

-- IN A RUN

module _ {S : Type 0} (gives : S → Item → Result (Unit {0}) Refusal → S → Type 0) {table : Entities} {start : RawKind} {text : List Placed} {p : Placed}
    {names : Texts} {taken : List Event} {t : Tokenizer} (h : IsInAmbiguousAmpersand table start t names text (p ∷ []) taken) where
  abbrev one : List Event
  one = Gives (Char p.ch p.at) ∷ []

  module _ (letter : is_alphanumeric p.ch ≡ true) where
    stands_then : (end : ℕ) (more : List Placed)
        → Stands table start end (text ++ p ∷ []) more (record h.here { front = p ∷ h.here.front }) (taken ++ one) (later_errors t.at more)
    stands_then end more = subst (Stands table start end (text ++ p ∷ []) more (record h.here { front = p ∷ h.here.front }) (taken ++ one))
        (append-nil (later_errors t.at (p ∷ more)) ∙ later_on t.at p more letter) (stands_on more (plain_span p) (later_errors t.at (p ∷ more))
        (h.stands end more) (plain_is table end h.here more p (alphanumeric_itself p.ch letter)) refl)

    pub run_goes_on : (old s : S) (answer : Result (Unit {0}) Refusal) → HandsEvents gives names old one answer s
        → Takes gives table start text (p ∷ []) taken names old answer s t
    run_goes_on old s (Ok u) handed = take_took one refl handed (in_ambiguous_ampersand (record {
      accepts = h.accepts;
      here = record h.here { front = p ∷ h.here.front };
      state_is = h.state_is;
      table_is = h.table_is;
      next_is = h.next_is ∙ ap after_last (sym (append-nil (text ++ p ∷ [])));
      stands = λ end more. stands_then end more;
      kind_is = h.kind_is;
      name_is = h.name_is;
      may = h.may;
      raises_none = h.raises_none;
      between = same_between h.here (record h.here { front = p ∷ h.here.front }) t h.may refl refl refl h.between;
    }))
    run_goes_on old s (Err e) handed =
        take_sink_refused e one refl handed (λ more end. are_front (sym (append_assoc text (p ∷ []) more)) (stands_then end more))

  module _ (other : is_alphanumeric p.ch ≡ false) where
    abbrev told : List ParseError
    told = error_if (eqb p.ch 59) UnknownNamedCharacterReference t.at

    stands_told_now : (end : ℕ) (more : List Placed) → Stands table start end text (p ∷ more) h.here (taken ++ map Reports told) []
    stands_told_now end more = stands_told told (subst (Stands table start end text (p ∷ more) h.here taken) (later_told t.at p more other) (h.stands end more))

    pub run_ended : Reads table start (record t { state = state.Text }) names text (p ∷ []) (taken ++ map Reports told)
    run_ended = reads_text h.here h.accepts h.table_is h.next_is stands_told_now h.kind_is h.name_is refl h.raises_none
        (same_between h.here h.here _ h.may refl refl refl h.between)

    pub run_refused : (new : Tokenizer) (old s : S) (e : Refusal) → HandsEvents gives names old (map Reports told) (Err e) s
        → Takes gives table start text (p ∷ []) taken names old (Err e) s new
    run_refused new old s e handed = take_sink_refused e (map Reports told) refl handed (λ more end. are_front refl (stands_told_now end more))
