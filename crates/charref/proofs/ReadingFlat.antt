-- Keys in order, one after another, and reading a flat form, entry by entry.
use Rattle.charref.proofs.Names.{◌≡◌, ℕ, List, [], ◌∷◌, ◌++◌, Less, refl, slice_cmp, AllByRecursion, nat_list_cmp_total, arith, ◌+◌, ◌-◌, ◌*◌, ◌≤◌, ◌<◌, Bool, true, false, true≢false, ◌&&◌, nat_le, map, length, take, drop, get_or, is_lt, sym, ap, ◌∙◌, subst, append_assoc, and_parts, and_from, nat_tests, take-append-drop, take_rest, drop-drop, length-drop, map-append, list_all, flat_map, Entity, Characters, characters_of, Entry, Entities, is_key, is_character, key_at, entry, entries, is_one_or_two, flat_character, flat_characters, flat_entry, flat_of, IsReadable, BeginsWith, BeginsWithNone, HasNoKey, IsEntity, IsEntryTo, is_table_entry, entity_to, next_start, characters_in, All, length-append, Ordering, drop_more, get_or-drop, length-take-le, list_all-append, All-push}
use Rattle.std.specs.List.Sorted.{IsStrictlySortedBy}
use Rattle.std.proofs.Common.{nat_cmp}
use Rattle.charref.proofs.Naming.{key_size}
use Rattle.charref.proofs.Members.{readable_from, are_entries}
use Rattle.charref.proofs.Forms.{flat_more, read_characters, count_follows, same_entries, Rest, rest_of, tail_of}

-- the last of some keys, or the empty key, which is before all
abbrev pub last_key : List (List ℕ) → List ℕ
last_key [] = []
last_key (k ∷ []) = k
last_key (k ∷ m ∷ ks) = last_key (m ∷ ks)

pub last_key-more : (ks : List (List ℕ)) (key : List ℕ) → last_key (ks ++ key ∷ []) ≡ key
last_key-more [] key = refl
last_key-more (k ∷ []) key = refl
last_key-more (k ∷ m ∷ ks) key = last_key-more (m ∷ ks) key

abbrev Below : List ℕ → List ℕ → Type 0
Below a b = slice_cmp nat_cmp a b ≡ Less

below_last : (k m : List ℕ) (ks : List (List ℕ)) (key : List ℕ) → AllByRecursion (Below k) (m ∷ ks) → Below (last_key (m ∷ ks)) key → Below k key
below_last k m [] key all last = nat_list_cmp_total.trans k m key all.0 last
below_last k m (n ∷ ks) key all last = below_last k n ks key all.1 last

all_more : (k : List ℕ) (ks : List (List ℕ)) (key : List ℕ) → AllByRecursion (Below k) ks → Below k key → AllByRecursion (Below k) (ks ++ key ∷ [])
all_more k [] key all below = (below, tt)
all_more k (m ∷ ks) key all below = (all.0, all_more k ks key all.1 below)

pub sorted_more : (ks : List (List ℕ)) (key : List ℕ) → IsStrictlySortedBy (slice_cmp nat_cmp) ks → Below (last_key ks) key
    → IsStrictlySortedBy (slice_cmp nat_cmp) (ks ++ key ∷ [])
unfolding IsStrictlySortedBy
sorted_more [] key sorted below = (tt, tt)
sorted_more (k ∷ []) key sorted below = ((below, tt), (tt, tt))
sorted_more (k ∷ m ∷ ks) key sorted below = (all_more k (m ∷ ks) key sorted.0 (below_last k m ks key sorted.0 below), sorted_more (m ∷ ks) key sorted.1 below)

pub last_below : (ks : List (List ℕ)) (key : List ℕ) (more : List (List ℕ)) → Below [] key → IsStrictlySortedBy (slice_cmp nat_cmp) (ks ++ key ∷ more)
    → Below (last_key ks) key
unfolding IsStrictlySortedBy
last_below [] key more first sorted = first
last_below (k ∷ []) key more first sorted = sorted.0.0
last_below (k ∷ m ∷ ks) key more first sorted = last_below (m ∷ ks) key more first sorted.1

-- Reading a flat form, entry by entry.

-- CHARACTERS

-- what comes after a byte
abbrev pub after_first : List ℕ → List ℕ
after_first bytes = take (length bytes - 1) (drop 1 bytes)

pub no_characters : (bytes : List ℕ) → BeginsWithNone is_character flat_character (after_first bytes) → BeginsWithNone is_one_or_two flat_characters bytes
no_characters bytes none [] rest is same = true≢false (sym is)
no_characters bytes none (c ∷ cs) rest is same = none c (flat_map flat_character cs ++ rest)
    (and_parts (is_character c) _ (and_parts _ (list_all is_character (c ∷ cs)) is).1).0 (take_rest bytes 1 ∙ ap (drop 1) same)

pub no_second : (bytes : List ℕ) → get_or bytes 0 0 ≡ 2
    → BeginsWithNone is_character flat_character (take (length (after_first bytes) - 4) (drop 4 (after_first bytes)))
    → BeginsWithNone is_one_or_two flat_characters bytes
no_second bytes two none [] rest is same = true≢false (sym is)
no_second bytes two none (c ∷ []) rest is same = (let one : get_or bytes 0 0 ≡ 1 = ap (λ bs. get_or bs 0 0) same in omega (arith, one, two))
no_second bytes two none (c ∷ d ∷ []) rest is same = none d rest (and_parts (is_character d) true (and_parts (is_character c) (is_character d && true) is).1).0
    (take_rest (after_first bytes) 4 ∙ ap (drop 4) (take_rest bytes 1) ∙ ap (λ bs. drop 4 (drop 1 bs)) same)
no_second bytes two none (c ∷ d ∷ e ∷ es) rest is same = (omega (arith, ap (λ bs. get_or bs 0 0) same, two))

-- ENTRIES

pub no_entry_key : (bytes : List ℕ) → HasNoKey bytes → BeginsWithNone is_table_entry flat_entry bytes
no_entry_key bytes none e rest is same = none e.key (flat_characters e.stands_for ++ rest) (and_parts (is_key e.key) _ is).0 (count_follows e rest is)
    (same ∙ append_assoc e.key (flat_characters e.stands_for) rest)

some_count : (cs : List ℕ) → is_one_or_two cs ≡ true → 1 ≤ length cs
some_count [] is = absurd (true≢false (sym is))
some_count (c ∷ cs) is = omega arith

pub entry_stands : (text : List ℕ) (start n : ℕ) (cs : Characters) → start ≤ length text → n ≤ length (drop start text)
    → is_key (take n (drop start text)) ≡ true → is_one_or_two (characters_of cs) ≡ true
    → BeginsWith (flat_characters (characters_of cs)) (drop (start + n) text) (1 + 4 * length (characters_of cs)) → IsEntryTo text start (start + n)
entry_stands text start n cs within less key ones chars = let left : length (drop start text) ≡ length text - start = length-drop start text in
    let first : nat_le start (start + n) ≡ true = grind (arith, nat_tests) in
    let last : nat_le (start + n) (length text) ≡ true = (let le : start + n ≤ length text = omega arith in grind (arith, nat_tests)) in
    let size : start + n - start ≡ n = omega arith in
    let d : Entity = entity_to start (start + n) in
    let key-is : key_at text d ≡ take n (drop start text) = ap (λ k. take k (drop start text)) size in
    let count : ℕ = 1 + 4 * length (characters_of cs) in
    let reads : characters_in (drop (start + n) text) ≡ characters_of cs = read_characters (characters_of cs) (drop (start + n) text) count ones chars in
    let counts : get_or text (start + n) 0 ≡ length (characters_of cs) =
    ap (λ k. get_or text k 0) (omega arith) ∙ sym (get_or-drop (start + n) text 0 0) ∙ ap (λ bs. get_or bs 0 0) chars.is in
    let next : (start + n) + count ≡ next_start text (start + n) = omega (arith, counts) in
    let old : Entry = record { key = key_at text d; stands_for = characters_of cs } in
    let same : old ≡ entry text d = ap (λ xs. record { key = key_at text d; stands_for = xs }) (sym reads) in
    let room : length (drop (start + n) text) ≡ length text - (start + n) = length-drop (start + n) text in
    let fits : count ≤ length (drop (start + n) text) = chars.within in
    let many : 1 ≤ length (characters_of cs) = some_count (characters_of cs) ones in
    let two : 2 ≤ n = omega (arith, key_size (take n (drop start text)) key, length-take-le n (drop start text) less) in
    record {
      passing = subst (λ (e : Entry). is_table_entry e ≡ true) same (and_from (is_key (key_at text d)) _ (ap is_key key-is ∙ key) ones);
      is_entity = record {
        some = omega arith;
        inside = and_from (nat_le start (start + n)) (nat_le (start + n) (length text)) first last;
        passing = ap is_one_or_two reads ∙ ones;
        rest = drop count (drop (start + n) text);
        stands = chars.is ∙ ap (λ xs. flat_characters xs ++ drop count (drop (start + n) text)) (sym reads);
      };
      some = omega arith;
      more = omega arith;
      within = omega arith;
      is = sym (take-append-drop n (drop start text)) ∙ ap (λ bs. take n (drop start text) ++ bs) (drop-drop n start text ∙ chars.is
          ∙ ap (λ bs. flat_characters (characters_of cs) ++ bs) (drop-drop count (start + n) text ∙ ap (λ k. drop k text) next))
          ∙ sym (append_assoc (take n (drop start text)) (flat_characters (characters_of cs)) (drop (next_start text (start + n)) text))
          ∙ ap (λ k. (k ++ flat_characters (characters_of cs)) ++ drop (next_start text (start + n)) text) (sym key-is)
          ∙ ap (λ (e : Entry). flat_entry e ++ drop (next_start text (start + n)) text) same;
    }

-- the order of two keys, as it is computed of what they begin
pub keys_before : (text : List ℕ) (a b m n : ℕ) (r : Bool)
    → r ≡ is_lt (slice_cmp nat_cmp (take (b - a) (take (length text - a) (drop a text))) (take (n - m) (take (length text - m) (drop m text))))
    → r ≡ is_lt (slice_cmp nat_cmp (key_at text (entity_to a b)) (key_at text (entity_to m n)))
keys_before text a b m n r is =
    is ∙ ap (λ xs. is_lt (slice_cmp nat_cmp (take (b - a) xs) (take (n - m) (take (length text - m) (drop m text))))) (take_rest text a)
    ∙ ap (λ ys. is_lt (slice_cmp nat_cmp (take (b - a) (drop a text)) (take (n - m) ys))) (take_rest text m)

-- TABLES

-- The entries of the text up to this index have been read, and this is the key of the last.
pub record HasReadTo (text : List ℕ) (entities : List Entity) (last : List ℕ) (start : ℕ) : Type 0 where
  pub readable : IsReadable (entries text entities)
  pub inside : All (IsEntity text) entities
  pub few : 7 * length entities < start
  pub within : start ≤ length text
  pub is : text ≡ flat_of (entries text entities) ++ drop start text
  pub last_is : last ≡ last_key (map (λ e. e.key) (entries text entities))

nothing_readable : IsReadable []
unfolding IsStrictlySortedBy
nothing_readable = readable_from [] refl tt

pub begun : (text : List ℕ) → 1 ≤ length text → get_or text 0 0 ≡ 1 → HasReadTo text [] [] 1
begun text some first = record {
  readable = nothing_readable;
  inside = λ k d less. absurd (omega (arith, less));
  few = omega arith;
  within = some;
  is = drop_more text 0 0 some ∙ ap (λ b. b ∷ drop 1 text) first;
  last_is = refl;
}

readable_more : (table : Entities) (e : Entry) → IsReadable table → is_table_entry e ≡ true → slice_cmp nat_cmp (last_key (map (λ e. e.key) table)) e.key ≡ Less
    → IsReadable (table ++ e ∷ [])
readable_more table e was is below =
    readable_from (table ++ e ∷ []) (list_all-append is_table_entry table (e ∷ []) ∙ and_from _ _ (are_entries table was) (and_from _ true is refl))
    (rw (map-append (λ (e : Entry). e.key) table (e ∷ [])) (sorted_more (map (λ e. e.key) table) e.key was.sorted.sorted below))

is_less : (a b : List ℕ) → is_lt (slice_cmp nat_cmp a b) ≡ true → slice_cmp nat_cmp a b ≡ Less
is_less a b h = by (slice_cmp nat_cmp a b) h where
  by : (o : Ordering) → is_lt o ≡ true → o ≡ Less
  by Less h = refl
  by _ h = cc

pub one_more : (text : List ℕ) (es : List Entity) (last : List ℕ) (start end : ℕ) → HasReadTo text es last start → IsEntryTo text start end
    → is_lt (slice_cmp nat_cmp last (key_at text (entity_to start end))) ≡ true
    → HasReadTo text (es ++ entity_to start end ∷ []) (key_at text (entity_to start end)) (next_start text end)
one_more text es last start end was at before = let table = entries text es in let d : Entity = entity_to start end in let e : Entry = entry text d in
    let more : entries text (es ++ d ∷ []) ≡ table ++ e ∷ [] = map-append (entry text) es (d ∷ []) in
    let below = ap (λ k. slice_cmp nat_cmp k e.key) (sym was.last_is) ∙ is_less last e.key before in
    let size : length (es ++ d ∷ []) ≡ length es + 1 = length-append es (d ∷ []) in
    record {
      readable = subst IsReadable (sym more) (readable_more table e was.readable at.passing below);
      inside = All-push (IsEntity text) es d was.inside at.is_entity;
      few = omega (arith, size, was.few, at.some, at.more);
      within = at.within;
      is = was.is ∙ ap (λ bs. flat_of table ++ bs) at.is ∙ sym (append_assoc (flat_of table) (flat_entry e) (drop (next_start text end) text))
          ∙ ap (λ bs. bs ++ drop (next_start text end) text) (flat_more table e) ∙ ap (λ t. flat_of t ++ drop (next_start text end) text) (sym more);
      last_is = sym (ap (λ (t : Entities). last_key (map (λ e. e.key) t)) more ∙ ap last_key (map-append (λ (e : Entry). e.key) table (e ∷ []))
          ∙ last_key-more (map (λ e. e.key) table) e.key);
    }

-- NO TABLE

-- No readable table has this flat form.
abbrev pub HasNoTable : List ℕ → Type 0
HasNoTable bytes = (table : Entities) → IsReadable table → flat_of table ≡ bytes → ⊥

others : (text : List ℕ) (es : List Entity) (last : List ℕ) (start : ℕ) (table : Entities) → HasReadTo text es last start → IsReadable table
    → flat_of table ≡ text → Rest (entries text es) table (drop start text)
others text es last start table was readable is =
    rest_of (entries text es) table (drop start text) (are_entries (entries text es) was.readable) (are_entries table readable) (tail_of 1 _ _ (is ∙ was.is))

pub no_entry : (text : List ℕ) (es : List Entity) (last : List ℕ) (start : ℕ) → HasReadTo text es last start → start < length text
    → BeginsWithNone is_table_entry flat_entry (drop start text) → HasNoTable text
no_entry text es last start was some none table readable is = by rest.more rest.flat rest.entries where
  rest : Rest (entries text es) table (drop start text)
  rest = others text es last start table was readable is

  by : (more : Entities) → flat_map flat_entry more ≡ drop start text → list_all is_table_entry more ≡ true → ⊥
  by [] flat are = (let no : 0 ≡ length (drop start text) = ap length flat in omega (arith, length-drop start text))
  by (e ∷ more) flat are = none e (flat_map flat_entry more) (and_parts (is_table_entry e) (list_all is_table_entry more) are).0 (sym flat)

below_first : (key : List ℕ) → is_key key ≡ true → slice_cmp nat_cmp [] key ≡ Less
below_first [] is = absurd (true≢false (sym is))
below_first (c ∷ cs) is = refl

pub no_order : (text : List ℕ) (es : List Entity) (last : List ℕ) (start end : ℕ) → HasReadTo text es last start → IsEntryTo text start end
    → is_lt (slice_cmp nat_cmp last (key_at text (entity_to start end))) ≡ false → HasNoTable text
no_order text es last start end was at before table readable is = by rest.more rest.is rest.flat rest.entries where
  e : Entry
  e = entry text (entity_to start end)

  rest : Rest (entries text es) table (drop start text)
  rest = others text es last start table was readable is

  some : [] ≡ flat_entry e ++ drop (next_start text end) text → ⊥
  some none = (let no : 0 ≡ length (drop start text) = ap length (none ∙ sym at.is) in omega (arith, at.some, at.more, at.within, length-drop start text))

  by : (more : Entities) → table ≡ entries text es ++ more → flat_map flat_entry more ≡ drop start text → list_all is_table_entry more ≡ true → ⊥
  by [] whole flat are = some (flat ∙ at.is)
  by (f ∷ more) whole flat are =
      let same : (f ≡ e) × (flat_map flat_entry more ≡ drop (next_start text end) text) = same_entries f e (flat_map flat_entry more)
      (drop (next_start text end) text) (and_parts (is_table_entry f) (list_all is_table_entry more) are).0 at.passing (flat ∙ at.is) in
      let keys = ap (map (λ (e : Entry). e.key)) whole ∙ map-append (λ (e : Entry). e.key) (entries text es) (f ∷ more)
      ∙ ap (λ (x : Entry). map (λ e. e.key) (entries text es) ++ x.key ∷ map (λ e. e.key) more) same.0 in
      let below : slice_cmp nat_cmp (last_key (map (λ e. e.key) (entries text es))) e.key ≡ Less = last_below (map (λ e. e.key) (entries text es)) e.key
      (map (λ e. e.key) more) (below_first e.key (and_parts (is_key e.key) (is_one_or_two e.stands_for) at.passing).0) (rw (← keys) readable.sorted.sorted) in
      true≢false (ap is_lt (sym below) ∙ ap (λ k. is_lt (slice_cmp nat_cmp k e.key)) (sym was.last_is) ∙ before)
