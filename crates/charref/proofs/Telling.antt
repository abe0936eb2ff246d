-- A name with one character more, and a reference that was reported.
use Rattle.charref.proofs.Names.{arith, ◌≡◌, ℕ, ◌+◌, ◌≤◌, ◌<◌, Bool, true, false, true≢false, not, ◌&&◌, ◌||◌, ◌==◌, cond, nat_eq, List, [], ◌∷◌, ◌++◌, length, slice_get, Some, refl, sym, ap, ◌∙◌, subst, length-append, append-nil, map-append, length-map, and_parts, and_from, nat_tests, starts_with, Placed, characters, all, is_empty, is_alphanumeric, is_equals, Alphanumeric, Semicolon, Equals, Other, Search, Entry, Entities, IsTable, longest, is_key, is_key_name, ends_in_semicolon, is_kept_as_text, best_entry, has_read_key, IsOver, EntryGoesOn, HasNone, SearchHasRead, key_bytes, IsSettled, last_of, is_letter_or_digit, IsHeldReference, in_name, Name, and-false, is_as_long, ◌⊎◌, inl, inr, suc, ◌-◌, nat_lt, take, drop, None, append_assoc, take-append-drop, some_same, begins-append, MissingSemicolonAfterCharacterReference, UnknownNamedCharacterReference, begins, past, error_if, Reference, Characters, One, IsReference, named, kept, unknown, is_kept_before, IsRead, characters_of, errors_of, unknown_of, or-true, cases_order, drop_all, drop-append-le, drop_at, all-append, ParseError, Last, goes_on_name}
use Rattle.charref.proofs.Keys.{no_longer, longest-over, longest-more, begins_itself, whole}
use Rattle.charref.proofs.Core.{longest_among}
use Rattle.charref.proofs.Naming.{is_key_of, all_at, name_all, follows, ends, closes, continues, key_of, take-map, past-run, begins-drop, Opens, key_opens, some_key}

-- a key has letters and digits, and a `;`
abbrev pub is_in_names : ℕ → Bool
is_in_names c = is_alphanumeric c || c == 59

-- a key that begins with one byte more
pub opens_more : (key bytes : List ℕ) (byte : ℕ) → starts_with nat_eq key (bytes ++ byte ∷ []) ≡ true
    → (starts_with nat_eq key bytes ≡ true) × (slice_get key (length bytes) ≡ Some byte)
opens_more [] [] byte h = absurd (true≢false (sym h))
opens_more (x ∷ xs) [] byte h = (refl, ap Some (let t : nat_eq byte x ≡ true = (and_parts (nat_eq byte x) true h).0 in grind (arith, nat_tests)))
opens_more [] (b ∷ bs) byte h = absurd (true≢false (sym h))
opens_more (x ∷ xs) (b ∷ bs) byte h = let more = opens_more xs bs byte (and_parts _ _ h).1 in (and_from _ _ (and_parts _ _ h).0 more.0, more.1)

key_has : (key bytes : List ℕ) (c : ℕ) → is_key key ≡ true → starts_with nat_eq key (38 ∷ bytes ++ c ∷ []) ≡ true → is_in_names c ≡ true
key_has [] bytes c h p = absurd (true≢false (sym h))
key_has (x ∷ xs) bytes c h p = all_at is_in_names xs (length bytes) c (name_all is_in_names (λ d letter. grind (arith, nat_tests)) refl xs (and_parts _ _ h).1)
    (opens_more (x ∷ xs) (38 ∷ bytes) c p).1

pub none_past_names : (table : Entities) (bytes : List ℕ) (c : ℕ) → IsTable table → is_in_names c ≡ false → HasNone table (38 ∷ bytes ++ c ∷ [])
none_past_names table bytes c is_table not-in = record
    { none = λ k e h p. true≢false (sym (key_has e.key bytes c (is_key_of table k e is_table h) p) ∙ not-in) }

pub none_past_over : (table : Entities) (bytes : List ℕ) (c : ℕ) → IsOver table bytes → HasNone table (bytes ++ c ∷ [])
none_past_over table bytes c over = record
    { none = λ k e h p. omega (arith, over.no_more k e h (opens_more e.key bytes c p).0, no_longer e.key (bytes ++ c ∷ []) p, length-append bytes (c ∷ [])) }

-- ONE CHARACTER MORE

pub key_bytes-more : (text : List Placed) (p : Placed) → key_bytes (text ++ p ∷ []) ≡ key_bytes text ++ p.ch ∷ []
key_bytes-more text p = ap (λ cs. 38 ∷ cs) (map-append (λ (q : Placed). q.ch) text (p ∷ []))

-- the characters before the end of a name
name_front : (name : List ℕ) (text : List Placed) → is_key_name name ≡ true → starts_with nat_eq name (characters text) ≡ true → length text < length name
    → all is_alphanumeric text ≡ true
name_front name [] h p less = refl
name_front [] (q ∷ qs) h p less = absurd (omega arith)
name_front (x ∷ xs) (q ∷ qs) h p less = let same : q.ch ≡ x = (let t : nat_eq q.ch x ≡ true = (and_parts _ _ p).0 in grind (arith, nat_tests)) in
    and_from _ _ (ap is_alphanumeric same ∙ (and_parts (is_alphanumeric x) _ h).0) (elim (follows xs (and_parts (is_alphanumeric x) _ h).1) [
      | ends is ↦ absurd (let none : length xs ≡ 0 = ap length is in omega arith)
      | closes is ↦ only qs (let one : length xs ≡ 1 = ap length is in omega arith)
      | continues more ↦ name_front xs qs more (and_parts _ _ p).1 (omega arith)
    ]) where
      only : (qs : List Placed) → length qs < 1 → all is_alphanumeric qs ≡ true
      only [] h = refl
      only (r ∷ rs) h = absurd (omega arith)

key_front : (key : List ℕ) (text : List Placed) → is_key key ≡ true → starts_with nat_eq key (key_bytes text) ≡ true → length (key_bytes text) < length key
    → all is_alphanumeric text ≡ true
key_front [] text h p less = absurd (omega arith)
key_front (x ∷ xs) text h p less = name_front xs text (and_parts _ _ h).1 (and_parts _ _ p).1 (omega (arith, length-map text (λ q. q.ch)))

pub front_of : (table : Entities) (text : List Placed) → IsTable table → EntryGoesOn table (key_bytes text) → all is_alphanumeric text ≡ true
front_of table text is_table goes = key_front goes.entry.key text (is_key_of table goes.index goes.entry is_table goes.stands) goes.opens goes.is_longer

-- a name that goes on is held
pub held_longer : (table : Entities) (in_value : Bool) (next : Search) (text : List Placed) (p : Placed) (ch : ℕ) → IsTable table → p.ch ≡ ch
    → SearchHasRead next table (key_bytes text ++ ch ∷ []) → ((bytes : List ℕ) → SearchHasRead next table bytes → EntryGoesOn table bytes)
    → IsHeldReference table in_value (Name next) (text ++ p ∷ [])
held_longer table in_value next text p ch is_table is read goes =
    let now = subst (SearchHasRead next table) (ap (λ x. key_bytes text ++ x ∷ []) (sym is) ∙ sym (key_bytes-more text p)) read in
    in_name next (text ++ p ∷ []) now (front_of table (text ++ p ∷ []) is_table (goes _ now)) (λ outside some. goes _ now)

-- a name that doesn't end in a letter or digit ends in `;`
name_last : (c : ℕ) (text : List Placed) (p : Placed) → is_key_name (characters (text ++ p ∷ [])) ≡ true → is_alphanumeric p.ch ≡ false
    → ends_in_semicolon (c ∷ characters (text ++ p ∷ [])) ≡ true
name_last c [] p h other = absurd (true≢false (sym (and_parts (is_alphanumeric p.ch) _ h).0 ∙ other))
name_last c (q ∷ qs) p h other = elim (follows (characters (qs ++ p ∷ [])) (and_parts (is_alphanumeric q.ch) _ h).1)
    [ ends is ↦ absurd (empty qs is) | closes is ↦ rw is refl | continues more ↦ name_last q.ch qs p more other ] where
      empty : (qs : List Placed) → characters (qs ++ p ∷ []) ≡ [] → ⊥
      empty [] h = cc
      empty (r ∷ rs) h = cc

-- what was read is settled: no key begins with the next character
module _ (table : Entities) (in_value : Bool) (text after : List Placed) (p : Placed) (search : Search) (read : SearchHasRead search table (key_bytes text))
    (none : HasNone table (key_bytes text ++ p.ch ∷ [])) where
  pub best_before : best_entry table search.best ≡ longest table (key_bytes (text ++ p ∷ []))
  best_before = read.best
      ∙ sym (longest-more table (key_bytes text) p.ch (λ k e h is. none.none k e h (subst (λ bs. starts_with nat_eq e.key bs ≡ true) is (begins_itself e.key))))
      ∙ ap (longest table) (sym (key_bytes-more text p))

  pub settled_before : IsSettled table in_value (text ++ p ∷ []) after
  settled_before = record {
    same = longest-over table (key_bytes (text ++ p ∷ [])) (characters after)
        (subst (λ bs. IsOver table bs) (sym (key_bytes-more text p)) (record { no_more = λ k e h opens. absurd (none.none k e h opens) }));
    not_kept = λ e found size. absurd
        (let among = longest_among table (key_bytes text) e (sym read.best ∙ best_before ∙ found) in
        let more : length (text ++ p ∷ []) ≡ length text + 1 = length-append text (p ∷ []) in
        omega (arith, no_longer (key_bytes text) e.key among.2, length-map text (λ q. q.ch)));
  }

-- or keys do, but none goes on, and no key waits
module _ (table : Entities) (in_value : Bool) (text after : List Placed) (p : Placed) (is_table : IsTable table) (next : Search)
    (read : SearchHasRead next table (key_bytes text ++ p.ch ∷ [])) (over : IsOver table (key_bytes text ++ p.ch ∷ []))
    (waits : (in_value && is_alphanumeric p.ch && has_read_key table next) ≡ false) where
  pub best_after : best_entry table next.best ≡ longest table (key_bytes (text ++ p ∷ []))
  best_after = read.best ∙ ap (longest table) (sym (key_bytes-more text p))

  as_long : (e : Entry) → longest table (key_bytes (text ++ p ∷ [])) ≡ Some e → length e.key ≡ length (text ++ p ∷ []) + 1 → has_read_key table next ≡ true
  as_long e found size = let same : length (key_bytes (text ++ p ∷ [])) ≡ length (key_bytes text ++ p.ch ∷ []) = ap length (key_bytes-more text p) in
      let equal : length e.key ≡ next.depth = omega (arith, length-map (text ++ p ∷ []) (λ q. q.ch), read.depth) in
      ap (is_as_long next.depth) (best_after ∙ found) ∙ grind (arith, nat_tests, length-map (text ++ p ∷ []) (λ q. q.ch), read.depth)

  semicolon_of : (e : Entry) → longest table (key_bytes (text ++ p ∷ [])) ≡ Some e → length e.key ≡ length (text ++ p ∷ []) + 1 → is_alphanumeric p.ch ≡ false
      → ends_in_semicolon e.key ≡ true
  semicolon_of e found size other = let among = longest_among table (key_bytes (text ++ p ∷ [])) e found in
      let count : length (characters (text ++ p ∷ [])) ≡ length (text ++ p ∷ []) = length-map (text ++ p ∷ []) (λ q. q.ch) in
      let is : e.key ≡ key_bytes (text ++ p ∷ []) = whole (key_bytes (text ++ p ∷ [])) e.key among.2 (omega arith) in
      let key : is_key (key_bytes (text ++ p ∷ [])) ≡ true = subst (λ k. is_key k ≡ true) is (is_key_of table among.0 e is_table among.1) in
      subst (λ k. ends_in_semicolon k ≡ true) (sym is) (name_last 38 text p (and_parts (38 == 38) _ key).1 other)

  pub settled_after : IsSettled table in_value (text ++ p ∷ []) after
  settled_after = record {
    same = longest-over table (key_bytes (text ++ p ∷ [])) (characters after) (subst (λ bs. IsOver table bs) (sym (key_bytes-more text p)) over);
    not_kept = λ e found size. by in_value (is_alphanumeric p.ch) refl refl e found size (as_long e found size);
  } where
    by : (b a : Bool) → in_value ≡ b → is_alphanumeric p.ch ≡ a → (e : Entry) → longest table (key_bytes (text ++ p ∷ [])) ≡ Some e
        → length e.key ≡ length (text ++ p ∷ []) + 1 → has_read_key table next ≡ true → is_kept_as_text in_value e.key after ≡ false
    by false a is letter e found size long = rw is refl
    by true true is letter e found size long = absurd (true≢false (sym (and_from _ _ (and_from _ _ is letter) long) ∙ waits))
    by true false is letter e found size long = rw (is, semicolon_of e found size letter) refl

-- the kind of the last character
pub letter_of : (c : ℕ) → is_letter_or_digit (last_of c) ≡ is_alphanumeric c
letter_of c = by (is_alphanumeric c) (nat_eq c 59) (is_equals c) where
  by : (a b d : Bool) → is_letter_or_digit (cond a Alphanumeric (cond b Semicolon (cond d Equals Other))) ≡ a
  by true b d = refl
  by false true d = refl
  by false false true = refl
  by false false false = refl

-- what was read so far is nothing exactly at the depth of the `&`
pub nothing_read : (text : List Placed) → length (key_bytes text) ≡ 1 → text ≡ []
nothing_read [] h = refl
nothing_read (q ∷ qs) h = absurd (omega arith)

pub something_read : (text : List Placed) (P : Type 0) → (length (key_bytes text) ≡ 1 → P) → is_empty text ≡ true → P
something_read [] P h is = h refl
something_read (q ∷ qs) P h is = absurd (true≢false (sym is))

-- how many characters were read
pub count_read : (text : List Placed) (p : Placed) (depth : ℕ) → depth ≡ length (key_bytes text) → depth ≡ length (text ++ p ∷ [])
count_read text p depth is = let more : length (text ++ p ∷ []) ≡ length text + 1 = length-append text (p ∷ []) in omega (arith, length-map text (λ q. q.ch))

-- AT THE END

pub record Snoc (text : List Placed) : Type 0 where
  pub front : List Placed
  pub last : Placed
  pub is : text ≡ front ++ last ∷ []
  pub run : all is_alphanumeric front ≡ true
  pub letter : is_alphanumeric last.ch ≡ true

pub snoc : (q : Placed) (qs : List Placed) → all is_alphanumeric (q ∷ qs) ≡ true → Snoc (q ∷ qs)
snoc q [] h = record { front = []; last = q; is = refl; run = refl; letter = (and_parts _ _ h).0 }
snoc q (r ∷ rs) h = let more : Snoc (r ∷ rs) = snoc r rs (and_parts _ _ h).1 in
    record { front = q ∷ more.front; last = more.last; is = ap (λ xs. q ∷ xs) more.is; run = and_from _ _ (and_parts _ _ h).0 more.run; letter = more.letter }

pub some_snoc : (text : List Placed) → all is_alphanumeric text ≡ true → 2 ≤ length (key_bytes text) → Snoc text
some_snoc [] h some = absurd (omega arith)
some_snoc (q ∷ qs) h some = snoc q qs h

pub settled_at_end : (table : Entities) (in_value : Bool) (text : List Placed) → IsSettled table in_value text []
settled_at_end table in_value text = record
    { same = ap (longest table) (append-nil (key_bytes text)); not_kept = λ e found size. and-false (in_value && not (ends_in_semicolon e.key)) }

pub last_letter : (c : ℕ) → is_alphanumeric c ≡ true → Alphanumeric ≡ last_of c
last_letter c h = rw h refl

-- A reference that was reported, as the definition has it.
begins_first : (test : ℕ → Bool) (name : List Placed) (c : ℕ) (cs : List ℕ) → characters name ≡ c ∷ cs → begins test name ≡ test c
begins_first test [] c cs h = absurd (cc)
begins_first test (p ∷ ps) c cs h = let first : p.ch ≡ c = cc in ap test first

begins_or : (xs : List Placed) → begins is_alphanumeric xs ≡ true → begins (λ c. is_equals c || is_alphanumeric c) xs ≡ true
begins_or [] h = absurd (true≢false (sym h))
begins_or (p ∷ ps) h = ap (λ b. is_equals p.ch || b) h ∙ or-true (is_equals p.ch)

-- an `&` that is text: all that was read is left
read_run : (table : Entities) (in_value : Bool) (text after : List Placed) (found : Reference) → found.left ≡ length text
    → (found.is_ambiguous ≡ true → all is_alphanumeric text ≡ true) → ((amp : Placed) → amp.ch ≡ 38
    → IsReference table in_value (text ++ after) (record { text = amp ∷ []; gives = characters_of found.characters; errors = errors_of found amp.at after }))
    → IsRead table in_value text after found
read_run table in_value text after found left run reads = let none : length text - found.left ≡ 0 = omega arith in
    record { within = omega arith; run = λ told. (left, run told); reads = λ amp is. rw none (reads amp is) }

pub no_run : {A : Type 0} (is_ambiguous : Bool) → is_ambiguous ≡ false → is_ambiguous ≡ true → A
no_run is_ambiguous quiet told = absurd (true≢false (sym told ∙ quiet))

pub read_text : (table : Entities) (in_value : Bool) (text after : List Placed) (found : Reference) → found.left ≡ length text → found.is_ambiguous ≡ false
    → ((amp : Placed) → amp.ch ≡ 38 → IsReference table in_value (text ++ after)
    (record { text = amp ∷ []; gives = characters_of found.characters; errors = errors_of found amp.at after })) → IsRead table in_value text after found
read_text table in_value text after found left quiet reads = read_run table in_value text after found left (no_run found.is_ambiguous quiet) reads

module _ (table : Entities) (in_value : Bool) (text after : List Placed) (is_table : IsTable table) (e : Entry)
    (found : longest table (key_bytes text) ≡ Some e) (same : longest table (key_bytes text ++ characters after) ≡ longest table (key_bytes text)) where
  among : (k : ℕ) × (slice_get table k ≡ Some e) × (starts_with nat_eq (key_bytes text) e.key ≡ true)
  among = longest_among table (key_bytes text) e found

  opens : Opens e.key
  opens = key_opens e.key (is_key_of table among.0 e is_table among.1)

  pub least : 2 ≤ length e.key
  least = some_key table among.0 e is_table among.1

  pub most : length e.key ≤ length text + 1
  most = let count : length (characters text) ≡ length text = length-map text (λ p. p.ch) in omega (arith, no_longer (key_bytes text) e.key among.2)

  key_is : e.key ≡ 38 ∷ characters (take (length e.key - 1) text)
  key_is = let size : 2 ≤ length e.key = least in let next : length e.key ≡ suc (length e.key - 1) = omega arith in
      key_of (key_bytes text) e.key among.2 ∙ ap (λ n. take n (key_bytes text)) next ∙ ap (λ cs. 38 ∷ cs) (take-map (length e.key - 1) text)

  name_is : characters (take (length e.key - 1) text) ≡ opens.first ∷ opens.others
  name_is = let h : 38 ∷ characters (take (length e.key - 1) text) ≡ 38 ∷ opens.first ∷ opens.others = sym key_is ∙ opens.is in cc

  name_opens : begins is_alphanumeric (take (length e.key - 1) text) ≡ true
  name_opens = begins_first is_alphanumeric (take (length e.key - 1) text) opens.first opens.others name_is ∙ opens.alphanumeric

  always : (amp : Placed) → amp.ch ≡ 38 → (rest : List Placed) → rest ≡ text ++ after → longest table (characters (amp ∷ rest)) ≡ Some e
  always amp is rest rest-is = ap (longest table) (ap (λ (r : List Placed). amp.ch ∷ characters r) rest-is ∙ ap (λ c. c ∷ characters (text ++ after)) is
      ∙ ap (λ cs. 38 ∷ cs) (map-append (λ (p : Placed). p.ch) text after)) ∙ same ∙ found

  joined : take (length e.key - 1) text ++ (drop (length e.key - 1) text ++ after) ≡ text ++ after
  joined =
      sym (append_assoc (take (length e.key - 1) text) (drop (length e.key - 1) text) after) ∙ ap (λ xs. xs ++ after) (take-append-drop (length e.key - 1) text)

  no_more : (xs : List ParseError) → xs ++ [] ++ [] ≡ xs
  no_more xs = append-nil (xs ++ []) ∙ append-nil xs

  pub read_named : (cs : Characters) (left : ℕ) → characters_of cs ≡ e.stands_for → left ≡ length text - (length e.key - 1)
      → is_kept_as_text in_value e.key (drop (length e.key - 1) text ++ after) ≡ false → IsRead table in_value text after
      (record { characters = cs; left = left; missing_semicolon = not (ends_in_semicolon e.key); fault = None; is_ambiguous = false })
  read_named cs left stands left-is free = let two : 2 ≤ length e.key = least in let belongs : length text - left ≡ length e.key - 1 = omega (arith, most) in
      record {
        within = omega (arith, most);
        run = no_run false refl;
        reads = λ amp is. rw belongs
            (named amp (take (length e.key - 1) text) e is name_opens
            (always amp is (take (length e.key - 1) text ++ (drop (length e.key - 1) text ++ after)) joined)
            (ap (λ c. c ∷ characters (take (length e.key - 1) text)) is ∙ sym key_is) free (λ i. record {
              text = amp ∷ take (length e.key - 1) text;
              gives = stands i;
              errors = no_more (error_if (not (ends_in_semicolon e.key)) MissingSemicolonAfterCharacterReference amp.at) i;
            }));
      }

  pub read_kept : (left : ℕ) → left ≡ length text → is_kept_as_text in_value e.key (drop (length e.key - 1) text ++ after) ≡ true
      → IsRead table in_value text after (record { characters = One 38; left = left; missing_semicolon = false; fault = None; is_ambiguous = false })
  read_kept left left-is keeps =
      read_text table in_value text after _ left-is refl (λ amp is. kept amp e is (subst (λ xs. begins is_alphanumeric xs ≡ true) joined
      (begins-append is_alphanumeric (take (length e.key - 1) text) (drop (length e.key - 1) text ++ after) name_opens)) (always amp is (text ++ after) refl)
      (ap (is_kept_as_text in_value e.key) (drop-append-le (length e.key - 1) text after (omega (arith, most))) ∙ keeps) refl)

last_follows : (c : ℕ) → (is_equals c || is_alphanumeric c) ≡ goes_on_name (last_of c)
last_follows c = choose (is_alphanumeric c) (nat_eq c 59) (is_equals c) refl refl where
  choose : (a b d : Bool) → nat_eq c 59 ≡ b → is_equals c ≡ d → (d || a) ≡ goes_on_name (cond a Alphanumeric (cond b Semicolon (cond d Equals Other)))
  choose true b d y z = or-true d
  choose false true true y z = absurd (grind (arith, nat_tests))
  choose false true false y z = refl
  choose false false true y z = refl
  choose false false false y z = refl

-- whether a key is kept, by what is left after it and the last character
is_kept_at : (in_value : Bool) (front : List Placed) (p : Placed) (after : List Placed) (key : List ℕ) (n left : ℕ) → all is_alphanumeric front ≡ true
    → n ≤ length front + 1 → left ≡ length (front ++ p ∷ []) - n → (left ≡ 0 → is_kept_as_text in_value key after ≡ false)
    → is_kept_as_text in_value key (drop n (front ++ p ∷ []) ++ after) ≡ is_kept_before in_value (ends_in_semicolon key) left (last_of p.ch)
is_kept_at in_value front p after key n left run most left-is whole = by (cases_order n (length front)) where
  size : length (front ++ p ∷ []) ≡ length front + 1
  size = length-append front (p ∷ [])

  by : (n ≡ length front) ⊎ ((n < length front) ⊎ (length front < n))
      → is_kept_as_text in_value key (drop n (front ++ p ∷ []) ++ after) ≡ is_kept_before in_value (ends_in_semicolon key) left (last_of p.ch)
  by (inr (inl less)) = let many : nat_lt 1 left ≡ true = (let h : 1 < left = omega (arith, size) in grind (arith, nat_tests)) in
      let begins-is : begins (λ c. is_equals c || is_alphanumeric c) (drop n (front ++ p ∷ []) ++ after) ≡ true =
      begins-append (λ c. is_equals c || is_alphanumeric c) (drop n (front ++ p ∷ [])) after
      (begins_or (drop n (front ++ p ∷ [])) (begins-drop front (p ∷ []) n run less)) in
      rw (begins-is, many)
  by (inl is) = let one : left ≡ 1 = omega (arith, size) in rw (drop_at front (p ∷ []) n (sym is), one, last_follows p.ch)
  by (inr (inr past)) = let none : left ≡ 0 = omega (arith, size) in
      rw (drop_all n (front ++ p ∷ []) (omega (arith, size)), none, whole none) (sym (and-false (in_value && not (ends_in_semicolon key))))

-- no key: the errors are those of the run of alphanumerics
unknown_errors : (front : List Placed) (p : Placed) (after : List Placed) (at left : ℕ) → all is_alphanumeric front ≡ true
    → errors_of (unknown_of left (last_of p.ch)) at after
    ≡ error_if (begins (λ c. c == 59) (past is_alphanumeric (front ++ p ∷ [] ++ after))) UnknownNamedCharacterReference at
unknown_errors front p after at left run = by (is_alphanumeric p.ch) (nat_eq p.ch 59) (is_equals p.ch) refl refl refl
    ∙ ap (λ xs. error_if (begins (λ c. c == 59) xs) UnknownNamedCharacterReference at) (sym (past-run front (p ∷ after) run))
    ∙ ap (λ (xs : List Placed). error_if (begins (λ c. c == 59) (past is_alphanumeric xs)) UnknownNamedCharacterReference at)
    (sym (append_assoc front (p ∷ []) after)) where
      by : (a b d : Bool) → is_alphanumeric p.ch ≡ a → nat_eq p.ch 59 ≡ b → is_equals p.ch ≡ d
          → errors_of (unknown_of left (cond a Alphanumeric (cond b Semicolon (cond d Equals Other)))) at after
          ≡ error_if (begins (λ c. c == 59) (cond (not a) (p ∷ after) (past is_alphanumeric after))) UnknownNamedCharacterReference at
      by true b d x y z = refl
      by false true d x y z = rw y refl
      by false false true x y z = rw y refl
      by false false false x y z = rw y refl

run_opens : (front : List Placed) (p : Placed) (after : List Placed) → all is_alphanumeric front ≡ true → (is_empty front ≡ true → is_alphanumeric p.ch ≡ true)
    → begins is_alphanumeric (front ++ p ∷ [] ++ after) ≡ true
run_opens [] p after run first = first refl
run_opens (q ∷ qs) p after run first = (and_parts _ _ run).0

pub read_unknown : (table : Entities) (in_value : Bool) (front : List Placed) (p : Placed) (after : List Placed) (left : ℕ) → all is_alphanumeric front ≡ true
    → (is_empty front ≡ true → is_alphanumeric p.ch ≡ true) → left ≡ length (front ++ p ∷ []) → longest table (key_bytes (front ++ p ∷ [])) ≡ None
    → IsSettled table in_value (front ++ p ∷ []) after → IsRead table in_value (front ++ p ∷ []) after (unknown_of left (last_of p.ch))
read_unknown table in_value front p after left run first left-is none settled =
    read_run table in_value (front ++ p ∷ []) after (unknown_of left (last_of p.ch)) left-is
    (λ told. all-append is_alphanumeric front (p ∷ []) run (and_from (is_alphanumeric p.ch) true (sym (letter_of p.ch) ∙ told) refl))
    (λ amp is.
    unknown amp is (run_opens front p after run first) (ap (λ c. longest table (c ∷ characters (front ++ p ∷ [] ++ after))) is
    ∙ ap (λ cs. longest table (38 ∷ cs)) (map-append (λ (q : Placed). q.ch) (front ++ p ∷ []) after) ∙ settled.same ∙ none)
    (λ i. record { text = amp ∷ []; gives = 38 ∷ []; errors = unknown_errors front p after amp.at left run i }))

-- the key at an index: it is kept, or its characters come
module _ (table : Entities) (in_value : Bool) (k : ℕ) (key : List ℕ) (at : (e : Entry) × (slice_get table k ≡ Some e) × (key ≡ e.key))
    (is_table : IsTable table) (front : List Placed) (p : Placed) (after : List Placed) (run : all is_alphanumeric front ≡ true)
    (best : slice_get table k ≡ longest table (key_bytes (front ++ p ∷ []))) (settled : IsSettled table in_value (front ++ p ∷ []) after) (left : ℕ)
    (left-is : left ≡ length (front ++ p ∷ []) - (length key - 1)) (semicolon keeps : Bool) (last : Last)
    (semicolon-is : semicolon ≡ ends_in_semicolon key) (last-is : last ≡ last_of p.ch) (keeps-is : keeps ≡ is_kept_before in_value semicolon left last) where
  found_at : longest table (key_bytes (front ++ p ∷ [])) ≡ Some at.0
  found_at = sym best ∙ at.1

  left_at : left ≡ length (front ++ p ∷ []) - (length at.0.key - 1)
  left_at = left-is ∙ ap (λ (xs : List ℕ). length (front ++ p ∷ []) - (length xs - 1)) at.2

  semicolon_at : semicolon ≡ ends_in_semicolon at.0.key
  semicolon_at = semicolon-is ∙ ap ends_in_semicolon at.2

  kept_at : is_kept_as_text in_value at.0.key (drop (length at.0.key - 1) (front ++ p ∷ []) ++ after) ≡ keeps
  kept_at = let size : length (front ++ p ∷ []) ≡ length front + 1 = length-append front (p ∷ []) in
      let top : length at.0.key ≤ length (front ++ p ∷ []) + 1 = most table in_value (front ++ p ∷ []) after is_table at.0 found_at settled.same in
      is_kept_at in_value front p after at.0.key (length at.0.key - 1) left run (omega (arith, some_key table k at.0 is_table at.1)) left_at
      (λ none. settled.not_kept at.0 found_at (omega (arith, left_at, some_key table k at.0 is_table at.1))) ∙ sym
      (keeps-is ∙ ap (λ (s : Bool). is_kept_before in_value s left last) semicolon_at ∙ ap (is_kept_before in_value (ends_in_semicolon at.0.key) left) last-is)

  pub decides_text : (read : ℕ) → read ≡ length (front ++ p ∷ []) → keeps ≡ true → IsRead table in_value (front ++ p ∷ []) after
      (record { characters = One 38; left = read; missing_semicolon = false; fault = None; is_ambiguous = false })
  decides_text read all is = read_kept table in_value (front ++ p ∷ []) after is_table at.0 found_at settled.same read all (kept_at ∙ is)

  pub decides_key : (cs : Characters) → (e : Entry) × (slice_get table k ≡ Some e) × (characters_of cs ≡ e.stands_for) → keeps ≡ false → IsRead table in_value
      (front ++ p ∷ []) after (record { characters = cs; left = left; missing_semicolon = not semicolon; fault = None; is_ambiguous = false })
  decides_key cs (e, got, stands) is = rw semicolon_at (read_named table in_value (front ++ p ∷ []) after is_table at.0 found_at settled.same cs left
      (stands ∙ ap (λ (y : Entry). y.stands_for) (some_same e at.0 (sym got ∙ at.1))) left_at (kept_at ∙ is))
