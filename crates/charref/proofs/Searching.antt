-- The range of the keys that begin with what was read: how a byte narrows it, a search byte by byte, the index of the first bytes, and where a range ends.
use Rattle.charref.proofs.Names.{arith, ◌≡◌, inl, inr, ℕ, ◌+◌, ◌≤◌, ◌<◌, true, ◌&&◌, nat_eq, nat_lt, nat_le, List, [], ◌∷◌, ◌++◌, length, slice_get, get_or, Some, option_map, Less, sym, ap, ◌∙◌, subst, and_parts, and_from, nat_tests, slice_get-get_or, slice_get_within, length-map, slice_cmp, nat_cmp, starts_with, some_same, Entity, Entry, Entities, entry, entries, code_at, IsSortedTable, IsRange, IsRising, IsParted, cases_lt, slice_get-map, ◌-◌, false, None, refl, length-append, Search, longest, is_key, best_entry, IsTable, IsOver, EntryGoesOn, HasNone, SearchHasRead, take, drop, take_rest, ◌⊎◌, zero, suc, IsStart, IsIndex, slice_get_cases, Bool, IsAfterKey, AreMarked, set, get_or-set_at, get_or-set_other, slice_get_past, both_ways, slice_get-append, character_code}
use Rattle.charref.proofs.Keys.{code_at-le, starts_with-more, begins_later, in_order, begins_itself, IsOnly, whole, no_longer, longest-whole, longest-more, longest-none, longest-over, begins_between, begins_on}
use Rattle.charref.proofs.Naming.{Opens, is_key_of, key_opens, rest_of_key}

-- what a slice of entities has at an index
pub entry_at : (text : List ℕ) (es : List Entity) (k : ℕ) (d : Entity) → k < length es → slice_get (entries text es) k ≡ Some (entry text (get_or es k d))
entry_at text es k d h = slice_get-map (entry text) es k ∙ ap (option_map (entry text)) (slice_get-get_or es k d h)

pub entry_in : (text : List ℕ) (es : List Entity) (table : Entities) (k : ℕ) (d : Entity) → entries text es ≡ table → k < length table → d ≡ get_or es k d
    → slice_get table k ≡ Some (entry text d)
entry_in text es table k d is less got = let size : length (entries text es) ≡ length es = length-map es (entry text) in
    ap (λ t. slice_get t k) (sym is) ∙ entry_at text es k d (omega (arith, ap length is)) ∙ ap (λ x. Some (entry text x)) (sym got)

-- A search for the index that parts a range: it is known what is below `from`, and what is not below `to`.
pub record IsPartedTo (table : Entities) (low from to high depth code : ℕ) : Type 0 where
  pub below : (k : ℕ) (e : Entry) → slice_get table k ≡ Some e → low ≤ k → k < from → code_at e.key depth < code
  pub above : (k : ℕ) (e : Entry) → slice_get table k ≡ Some e → to ≤ k → k < high → code ≤ code_at e.key depth

pub parted_up : (table : Entities) (low from to high depth code middle : ℕ) (e : Entry) → IsRising table low high depth
    → IsPartedTo table low from to high depth code → slice_get table middle ≡ Some e → middle < high → code_at e.key depth < code
    → IsPartedTo table low (middle + 1) to high depth code
parted_up table low from to high depth code middle e rising was got within less = record
    { below = λ k f p l h. omega (arith, rising.at k middle f e p got l (omega arith) within); above = was.above }

pub parted_down : (table : Entities) (low from to high depth code middle : ℕ) (e : Entry) → IsRising table low high depth
    → IsPartedTo table low from to high depth code → slice_get table middle ≡ Some e → low ≤ middle → code ≤ code_at e.key depth
    → IsPartedTo table low from middle high depth code
parted_down table low from to high depth code middle e rising was got within least = record
    { below = was.below; above = λ k f p m h. let more : code_at e.key depth ≤ code_at f.key depth = rising.at middle k e f got p within m h in omega arith }

-- The bytes after what was read rise within the range.
pub within : (low high k : ℕ) → (nat_le low k && nat_lt k high) ≡ true → (low ≤ k) × (k < high)
within low high k h = let parts : (nat_le low k ≡ true) × (nat_lt k high ≡ true) = and_parts _ _ h in
    (grind (arith, nat_tests, parts.0), grind (arith, nat_tests, parts.1))

pub inside : (low high k : ℕ) → low ≤ k → k < high → (nat_le low k && nat_lt k high) ≡ true
inside low high k l h = and_from (nat_le low k) (nat_lt k high) (grind (arith, nat_tests)) (grind (arith, nat_tests))

pub range_rises : (table : Entities) (bytes : List ℕ) (low high : ℕ) → IsSortedTable table → IsRange table bytes low high
    → IsRising table low high (length bytes)
range_rises table bytes low high sorted range = record {
  at = λ j k e f p q from le to.
      let first : starts_with nat_eq e.key bytes ≡ true = range.exact j e p ∙ inside low high j from (omega arith) in
      elim (cases_lt j k) [
        | inl less ↦ code_at-le bytes e.key f.key first (range.exact k f q ∙ inside low high k (omega arith) to) (in_order table sorted.sorted j k e f p q less)
        | inr most ↦ let index : j ≡ k = omega (arith, le, most) in let same : e ≡ f = some_same e f (sym p ∙ ap (slice_get table) index ∙ q) in
            subst (λ (y : Entry). code_at e.key (length bytes) ≤ code_at y.key (length bytes)) same (omega arith)
      ];
}

-- a part of what rises rises
pub rises_later : (table : Entities) (low middle high depth : ℕ) → low ≤ middle → IsRising table low high depth → IsRising table middle high depth
rises_later table low middle high depth h rising = record { at = λ j k e f p q from le to. rising.at j k e f p q (omega arith) le to }

-- A code that rises with the index is this one between the two indices that part the range.
between : (low from to high k at code : ℕ) → low ≤ from → from ≤ to → to ≤ high → (low ≤ k → k < from → at < code) → (from ≤ k → k < high → code ≤ at)
    → (from ≤ k → k < to → at < code + 1) → (to ≤ k → k < high → code < at)
    → ((nat_le low k && nat_lt k high) && nat_eq code at) ≡ (nat_le from k && nat_lt k to)
between low from to high k at code a b c below above same past = grind (arith, nat_tests)

-- The keys that begin with one byte more.
pub range_more : (table : Entities) (bytes : List ℕ) (byte low high from to : ℕ) → IsRange table bytes low high → low ≤ from → from ≤ to → to ≤ high
    → IsParted table low from high (length bytes) (byte + 1) → IsParted table from to high (length bytes) (byte + 1 + 1)
    → IsRange table (bytes ++ byte ∷ []) from to
range_more table bytes byte low high from to range a b c first second = record {
  ordered = b;
  within = (let w : high ≤ length table = range.within in omega arith);
  exact = λ k e p. starts_with-more bytes byte e.key ∙ ap (λ t. t && nat_eq (byte + 1) (code_at e.key (length bytes))) (range.exact k e p)
      ∙ between low from to high k (code_at e.key (length bytes)) (byte + 1) a b c (first.below k e p) (first.above k e p)
      (λ h g. omega (arith, second.below k e p h g)) (λ h g. let le : byte + 1 + 1 ≤ code_at e.key (length bytes) = second.above k e p h g in omega arith);
}

-- the key that is what was read is first in the range
pub only_first : (table : Entities) (bytes : List ℕ) (low high : ℕ) → IsSortedTable table → IsRange table bytes low high → IsOnly table bytes low
only_first table bytes low high sorted range = record {
  here = λ k e p is.
      let at : (low ≤ k) × (k < high) =
      within low high k (sym (range.exact k e p) ∙ subst (λ x. starts_with nat_eq x bytes ≡ true) (sym is) (begins_itself bytes)) in
      elim (cases_lt low k) [
        | inr most ↦ (let least : low ≤ k = at.0 in omega arith)
        | inl less ↦ absurd
            (let inside_table : k < length table = slice_get_within table k e p in let to : k < high = at.1 in let f : Entry = get_or table low e in
            let got : slice_get table low ≡ Some f = slice_get-get_or table low e (omega arith) in
            let begins : starts_with nat_eq f.key bytes ≡ true = range.exact low f got ∙ inside low high low (omega arith) (omega arith) in
            begins_later f.key bytes begins (subst (λ x. slice_cmp nat_cmp f.key x ≡ Less) is (in_order table sorted.sorted low k f e got p less)))
      ];
}

-- A search, byte by byte.

-- Every key begins with the `&`, and no key is the `&` alone.
begins_with_ampersand : (key : List ℕ) → is_key key ≡ true → (starts_with nat_eq key (38 ∷ []) ≡ true) × (starts_with nat_eq (38 ∷ []) key ≡ false)
begins_with_ampersand key is = rw (key_opens key is).is (refl, refl)

pub read_ampersand : (table : Entities) (high : ℕ) → IsSortedTable table → high ≡ length table
    → SearchHasRead (record { depth = 1; low = 0; high = high; best = None }) table (38 ∷ [])
read_ampersand table high sorted all = record {
  depth = refl;
  range = record {
    ordered = omega arith;
    within = omega arith;
    exact = λ k e p. (begins_with_ampersand e.key (is_key_of table k e sorted.is_table p)).0
        ∙ sym (inside 0 high k (omega arith) (let w : k < length table = slice_get_within table k e p in omega arith));
  };
  within = tt;
  best = sym (longest-none table (38 ∷ []) (λ k e at. (begins_with_ampersand e.key (is_key_of table k e sorted.is_table at)).1));
}

-- The range of one byte more, by the two indices that part the range.
pub range_narrowed : (table : Entities) (search : Search) (bytes : List ℕ) (byte from to : ℕ) → IsSortedTable table → SearchHasRead search table bytes
    → search.low ≤ from → from ≤ to → to ≤ search.high
    → (IsRising table search.low search.high search.depth → IsParted table search.low from search.high search.depth (byte + 1))
    → (IsRising table from search.high search.depth → IsParted table from to search.high search.depth (byte + 1 + 1))
    → IsRange table (bytes ++ byte ∷ []) from to
range_narrowed table search bytes byte from to sorted was after ordered before first second =
    let rising : IsRising table search.low search.high search.depth = rw was.depth (range_rises table bytes search.low search.high sorted was.range) in
    range_more table bytes byte search.low search.high from to was.range after ordered before (rw (← was.depth) (first rising))
    (rw (← was.depth) (second (rises_later table search.low from search.high search.depth after rising)))

-- One byte more, by its range.
module _ (table : Entities) (search : Search) (bytes : List ℕ) (byte from to : ℕ) (sorted : IsSortedTable table) (was : SearchHasRead search table bytes)
    (range : IsRange table (bytes ++ byte ∷ []) from to) where
  deeper : search.depth + 1 ≡ length (bytes ++ byte ∷ [])
  deeper = let was-depth : search.depth ≡ length bytes = was.depth in omega (arith, length-append bytes (byte ∷ []))

  -- the first of the range is what was read
  pub read_key : (e : Entry) → from < to → slice_get table from ≡ Some e → length e.key ≡ search.depth + 1
      → SearchHasRead (record { depth = search.depth + 1; low = from; high = to; best = Some from }) table (bytes ++ byte ∷ [])
  read_key e open' got size = record {
    depth = deeper;
    range = range;
    within = slice_get_within table from e got;
    best = got ∙ sym (longest-whole table (bytes ++ byte ∷ []) from e (only_first table (bytes ++ byte ∷ []) from to sorted range) got
        (sym (whole e.key (bytes ++ byte ∷ []) (range.exact from e got ∙ inside from to from (omega arith) open') (sym (size ∙ deeper)))));
  }

  -- or it is not
  pub read_no_key : ((e : Entry) → slice_get table from ≡ Some e → from < to → length e.key ≡ search.depth + 1 → ⊥)
      → SearchHasRead (record { depth = search.depth + 1; low = from; high = to; best = search.best }) table (bytes ++ byte ∷ [])
  read_no_key other = record {
    depth = deeper;
    range = range;
    within = was.within;
    best = was.best ∙ sym (longest-more table bytes byte (λ k e p is. let index = (only_first table (bytes ++ byte ∷ []) from to sorted range).here k e p is in
        other e (ap (slice_get table) (sym index) ∙ p) (within from to from (sym (range.exact from e (ap (slice_get table) (sym index) ∙ p))
        ∙ subst (λ x. starts_with nat_eq x (bytes ++ byte ∷ []) ≡ true) (sym is) (begins_itself (bytes ++ byte ∷ [])))).1 (ap length is ∙ sym deeper)));
  }

-- What was read decides where no key goes on with the next byte.
pub read_past : (table : Entities) (search : Search) (bytes rest : List ℕ) (byte : ℕ) → SearchHasRead search table bytes → HasNone table (bytes ++ byte ∷ [])
    → best_entry table search.best ≡ longest table ((bytes ++ byte ∷ []) ++ rest)
read_past table search bytes rest byte read none =
    read.best ∙ sym (longest-more table bytes byte (λ k e at is. none.none k e at (rw (← is) (begins_itself e.key))))
    ∙ sym (longest-over table (bytes ++ byte ∷ []) rest (record { no_more = λ k e at opens. absurd (none.none k e at opens) }))

-- A text that does not begin with `&` begins with no key.
begins_elsewhere : (text key : List ℕ) → (0 < length text → get_or text 0 0 ≡ 38 → ⊥) → Opens key → starts_with nat_eq text key ≡ false
begins_elsewhere [] key other opens = rw opens.is refl
begins_elsewhere (c ∷ cs) key other opens = let differs : nat_eq 38 c ≡ false = (grind (arith, nat_tests, other (omega arith))) in rw (opens.is, differs) refl

pub none_elsewhere : (table : Entities) (text : List ℕ) → IsTable table → (0 < length text → get_or text 0 0 ≡ 38 → ⊥) → None ≡ longest table text
none_elsewhere table text is_table other =
    sym (longest-none table text (λ k e at. begins_elsewhere text e.key other (key_opens e.key (is_key_of table k e is_table at))))

pub text_of : (text : List ℕ) → 1 ≤ length text → get_or text 0 0 ≡ 38 → text ≡ 38 ∷ take (length text - 1) (drop 1 text)
text_of [] some is = absurd (omega arith)
text_of (c ∷ cs) some is = ap (λ (x : ℕ). x ∷ cs) is ∙ ap (λ (xs : List ℕ). 38 ∷ xs) (sym (take_rest (c ∷ cs) 1))

-- The last key of the range is longer than what was read where any is.
pub last_longer : (table : Entities) (search : Search) (bytes : List ℕ) (e : Entry) → SearchHasRead search table bytes → search.low < search.high
    → slice_get table (search.high - 1) ≡ Some e → search.depth < length e.key → EntryGoesOn table bytes
last_longer table search bytes e read open' got size = record {
  index = search.high - 1;
  entry = e;
  stands = got;
  opens = read.range.exact (search.high - 1) e got ∙ inside search.low search.high (search.high - 1) (omega arith) (omega arith);
  is_longer = (let d : search.depth ≡ length bytes = read.depth in omega arith);
}

pub last_over : (table : Entities) (search : Search) (bytes : List ℕ) (e : Entry) → IsSortedTable table → SearchHasRead search table bytes
    → search.low < search.high → slice_get table (search.high - 1) ≡ Some e → length e.key ≤ search.depth → IsOver table bytes
last_over table search bytes e sorted read open' got size =
    let begins = read.range.exact (search.high - 1) e got ∙ inside search.low search.high (search.high - 1) (omega arith) (omega arith) in
    let is : bytes ≡ e.key = whole e.key bytes begins (omega (arith, read.depth, no_longer e.key bytes begins)) in
    let first : search.high - 1 ≡ search.low = (only_first table bytes search.low search.high sorted read.range).here (search.high - 1) e got (sym is) in
    record {
      no_more = λ k f p opens.
          let at : (search.low ≤ k) × (k < search.high) = within search.low search.high k (sym (read.range.exact k f p) ∙ opens) in
          let index : k ≡ search.high - 1 = (let to : k < search.high = at.1 in omega (arith, read.depth, no_longer e.key bytes begins, at.0)) in
          let same : f ≡ e = some_same f e (sym p ∙ ap (slice_get table) index ∙ got) in
          omega (arith, read.depth, ap (λ (y : Entry). length y.key) same, no_longer e.key bytes begins);
    }

pub none_over : (table : Entities) (search : Search) (bytes : List ℕ) → SearchHasRead search table bytes → search.high ≤ search.low → IsOver table bytes
none_over table search bytes read none = record
    { no_more = λ k e p begins. absurd (let at = within search.low search.high k (sym (read.range.exact k e p) ∙ begins) in omega (arith, at.0, at.1)) }

-- The index of the bytes after the `&`.

-- what is at an index of a list with one element more
at_or_last : {A : Type 0} (xs : List A) (y z : A) (i : ℕ) → slice_get (xs ++ y ∷ []) i ≡ Some z → (slice_get xs i ≡ Some z) ⊎ ((length xs ≡ i) × (y ≡ z))
at_or_last [] y z zero h = inr (refl, some_same y z h)
at_or_last [] y z (suc i) h = absurd (cc)
at_or_last (x ∷ xs) y z zero h = inl h
at_or_last (x ∷ xs) y z (suc i) h = elim (at_or_last xs y z i h) [ inl before ↦ inl before | inr last ↦ inr (ap suc last.0, last.1) ]

-- one start more
pub start_more : (table : Entities) (starts : List ℕ) (count index : ℕ) → IsIndex table starts count → IsStart table index count
    → IsIndex table (starts ++ index ∷ []) (count + 1)
start_more table starts count index indexed start = record {
  size = length-append starts (index ∷ []) ∙ ap (λ n. n + 1) indexed.size;
  at = λ code other got. elim (at_or_last starts index other code got)
      [ inl before ↦ indexed.at code other before | inr last ↦ rw (← last.1) (subst (IsStart table index) (sym indexed.size ∙ last.0) start) ];
}

-- All before this index are below the code.
abbrev pub AreBelow : Entities → ℕ → ℕ → Type 0
AreBelow table index code = (k : ℕ) (e : Entry) → slice_get table k ≡ Some e → k < index → code_at e.key 1 < code

-- a start, by the first that is not
pub start_at : (table : Entities) (index code : ℕ) → IsSortedTable table → index ≤ length table → AreBelow table index code
    → ((e : Entry) → slice_get table index ≡ Some e → code ≤ code_at e.key 1) → IsStart table index code
start_at table index code sorted within below least =
    let rising : IsRising table 0 (length table) 1 =
    range_rises table (38 ∷ []) 0 (length table) sorted (read_ampersand table (length table) sorted refl).range in
    record {
      within = within;
      parted = record {
        below = λ k e p l h. below k e p h;
        above = λ k e p l h. elim (slice_get_cases table index).1 [
          | inl some ↦ (omega (arith, rising.at index k some.0 e some.2 p (omega arith) l h, least some.0 some.2))
          | inr none ↦ absurd (omega (arith, none.0))
        ];
      };
    }

-- where an index moves on to the first key of a code
pub start_moved : (table : Entities) (low index code : ℕ) → IsSortedTable table → low ≤ index → index ≤ length table → AreBelow table low code
    → (IsRising table low (length table) 1 → IsParted table low index (length table) 1 code) → IsStart table index code
start_moved table low index code sorted least within below moved =
    let all : IsRising table 0 (length table) 1 = range_rises table (38 ∷ []) 0 (length table) sorted (read_ampersand table (length table) sorted refl).range in
    let parted = moved (record { at = λ j k e f one other from order to. all.at j k e f one other (omega arith) order to }) in
    start_at table index code sorted within
    (λ k e got less. elim (cases_lt k low) [ inl before ↦ below k e got before | inr past ↦ parted.below k e got past less ])
    (λ e got. parted.above index e got (omega arith) (slice_get_within table index e got))

pub below_next : (table : Entities) (index code : ℕ) → IsStart table index code → AreBelow table index (code + 1)
below_next table index code start k e p h = (let less : code_at e.key 1 < code = start.parted.below k e p (omega arith) h in omega arith)

-- the starts of a byte's code and of the next are the range of the byte
starts_ordered : (table : Entities) (code from to : ℕ) → IsStart table from code → IsStart table to (code + 1) → from ≤ to
starts_ordered table code from to first second = elim (cases_lt to from) [
  | inr le ↦ le
  | inl less ↦ elim (slice_get_cases table to).1 [
    | inl some ↦ absurd
        (let below : code_at some.0.key 1 < code = first.parted.below to some.0 some.2 (omega (arith, first.within)) less in
        omega (arith, second.parted.above to some.0 some.2 (omega arith) (omega arith), first.within))
    | inr none ↦ absurd (let past : length table ≤ to = none.0 in omega (arith, first.within))
  ]
]

pub start_range : (table : Entities) (byte from to : ℕ) → IsSortedTable table → IsStart table from (byte + 1) → IsStart table to (byte + 1 + 1)
    → IsRange table (38 ∷ byte ∷ []) from to
start_range table byte from to sorted first second = range_more table (38 ∷ []) byte 0 (length table) from to
    (read_ampersand table (length table) sorted refl).range (omega arith) (starts_ordered table (byte + 1) from to first second) second.within first.parted
    (record { below = λ k e p l h. second.parted.below k e p (omega arith) h; above = second.parted.above })

-- what the index has of a character
pub range_of : (table : Entities) (starts : List ℕ) (byte : ℕ) → IsSortedTable table → IsIndex table starts 130 → byte < 128
    → IsRange table (38 ∷ byte ∷ []) (get_or starts (byte + 1) 0) (get_or starts (byte + 1 + 1) 0)
range_of table starts byte sorted indexed small = let size : length starts ≡ 130 = indexed.size in
    start_range table byte _ _ sorted (indexed.at (byte + 1) _ (slice_get-get_or starts (byte + 1) 0 (omega arith)))
    (indexed.at (byte + 1 + 1) _ (slice_get-get_or starts (byte + 1 + 1) 0 (omega arith)))

-- after the `&` alone the byte is the first
pub range_first : (table : Entities) (search : Search) (byte low high : ℕ) → search.depth ≡ 1 → IsRange table (38 ∷ byte ∷ []) low high → (bytes : List ℕ)
    → SearchHasRead search table (38 ∷ bytes) → IsRange table (38 ∷ bytes ++ byte ∷ []) low high
range_first table search byte low high one range [] read = range
range_first table search byte low high one range (b ∷ bs) read = absurd (omega (arith, one, read.depth))

-- Where the keys that begin with a key end, and the codes with which they go on after it.

-- From one index up to another, all keys begin with these bytes.
abbrev pub AllBegin : Entities → List ℕ → ℕ → ℕ → Type 0
AllBegin table bytes low high = (k : ℕ) (e : Entry) → slice_get table k ≡ Some e → low ≤ k → k < high → starts_with nat_eq e.key bytes ≡ true

-- a key alone, and after it those that begin with one that begins with it
pub one_begins : (table : Entities) (index : ℕ) (e : Entry) → slice_get table index ≡ Some e → AllBegin table e.key index (index + 1)
one_begins table index e stands k f at low high = let same : e ≡ f = some_same e f (sym stands ∙ ap (slice_get table) (omega arith) ∙ at) in
    subst (λ (y : Entry). starts_with nat_eq y.key e.key ≡ true) same (begins_itself e.key)

pub more_begin : (table : Entities) (bytes : List ℕ) (low middle high : ℕ) (f : Entry) → AllBegin table bytes low middle → starts_with nat_eq f.key bytes ≡ true
    → IsRange table f.key middle high → AllBegin table bytes low high
more_begin table bytes low middle high f before opens range k e at from to = elim (cases_lt k middle) [
  | inl less ↦ before k e at from less
  | inr past ↦ let front : starts_with nat_eq e.key f.key ≡ true = range.exact k e at ∙ inside middle high k past to in
      subst (λ xs. starts_with nat_eq xs bytes ≡ true) (sym (rest_of_key e.key f.key front)) (begins_on f.key (drop (length f.key) e.key) bytes opens)
]

-- they are all, where the next key does not begin with it
pub range_ends : (table : Entities) (index end : ℕ) (e : Entry) → IsSortedTable table → slice_get table index ≡ Some e → index < end → end ≤ length table
    → AllBegin table e.key index end → ((f : Entry) → slice_get table end ≡ Some f → starts_with nat_eq f.key e.key ≡ true → ⊥) → IsRange table e.key index end
range_ends table index end e sorted stands some most all stops = record {
  ordered = omega arith;
  within = most;
  exact = λ k f at. both_ways _ _ (λ opens. inside index end k (from k f at opens) (to k f at opens)) (λ is.
      let there = within index end k is in all k f at there.0 there.1);
} where
  from : (k : ℕ) (f : Entry) → slice_get table k ≡ Some f → starts_with nat_eq f.key e.key ≡ true → index ≤ k
  from k f at opens = elim (cases_lt k index)
      [ inl less ↦ absurd (begins_later f.key e.key opens (in_order table sorted.sorted k index f e at stands less)) | inr least ↦ least ]

  to : (k : ℕ) (f : Entry) → slice_get table k ≡ Some f → starts_with nat_eq f.key e.key ≡ true → k < end
  to k f at opens = elim (cases_lt k end) [
    | inl less ↦ less
    | inr past ↦ let g : Entry = get_or table end f in let next = slice_get-get_or table end f (omega (arith, slice_get_within table k f at)) in
        elim (cases_lt end k) [
          | inl less ↦ absurd (stops g next (begins_between e.key g.key f.key opens (in_order table sorted.sorted index end e g stands next some)
              (in_order table sorted.sorted end k g f next at less)))
          | inr most ↦ absurd (stops f (ap (slice_get table) (omega (arith, slice_get_within table k f at)) ∙ at) opens)
        ]
  ]

-- a key is itself in its range
pub ends_later : (table : Entities) (index end : ℕ) (e : Entry) → slice_get table index ≡ Some e → IsRange table e.key index end → index < end
ends_later table index end e stands range = (within index end index (sym (range.exact index e stands) ∙ begins_itself e.key)).1

-- what another key of the range begins with is longer
longer_there : (table : Entities) (low high k : ℕ) (e f : Entry) → IsSortedTable table → slice_get table k ≡ Some f → IsRange table e.key low high → low < k
    → k < high → (starts_with nat_eq f.key e.key ≡ true) × (length e.key < length f.key)
longer_there table low high k e f sorted at range less to = let opens = range.exact k f at ∙ inside low high k (omega arith) to in
    let other : length e.key ≡ length f.key → ⊥ = λ size. omega
    (arith, (only_first table e.key low high sorted range).here k f at (sym (whole f.key e.key opens size))) in
    (opens, omega (arith, other, no_longer f.key e.key opens))

-- the look-up that has read a key
pub after_key : (table : Entities) (index end depth : ℕ) (e : Entry) → IsSortedTable table → slice_get table index ≡ Some e → IsRange table e.key index end
    → depth ≡ length e.key → index + 1 < end → IsAfterKey table (record { depth = depth; low = index; high = end; best = Some index })
after_key table index end depth e sorted stands range size longer = let next = slice_get-get_or table (index + 1) e (omega (arith, range.within)) in
    let opens = longer_there table index end (index + 1) e (get_or table (index + 1) e) sorted next range (omega (arith, range.within)) longer in
    record {
      entry = e;
      stands = stands;
      read = record {
        depth = size;
        range = range;
        within = slice_get_within table index e stands;
        best = stands ∙ sym (longest-whole table e.key index e (only_first table e.key index end sorted range) stands refl);
      };
      goes_on = record { index = index + 1; entry = get_or table (index + 1) e; stands = next; opens = opens.0; is_longer = opens.1 };
    }

-- the end of the key itself is marked first
pub first_marked : (table : Entities) (search : Search) (marks : List Bool) → IsAfterKey table search → get_or marks 0 false ≡ true
    → AreMarked table search (search.low + 1) marks
first_marked table search marks after marked = record {
  at = λ k f at low high.
      let same : after.entry ≡ f = some_same after.entry f (sym after.stands ∙ ap (slice_get table) (omega arith) ∙ at) in
      let depth : search.depth ≡ length f.key = after.read.depth ∙ ap (λ (y : Entry). length y.key) same in
      ap (λ n. get_or marks n false) (ap character_code (slice_get_past f.key search.depth (omega arith))) ∙ marked;
}

-- a key that begins with a longer one has its code
same_code : (key front : List ℕ) (depth : ℕ) → starts_with nat_eq key front ≡ true → depth < length front → code_at key depth ≡ code_at front depth
same_code key front depth opens less = let at : slice_get front depth ≡ Some (get_or front depth 0) = slice_get-get_or front depth 0 less in
    ap character_code
    (ap (λ xs. slice_get xs depth) (rest_of_key key front opens) ∙ slice_get-append front (drop (length front) key) depth (get_or front depth 0) at ∙ sym at)

-- what is marked for the keys that begin with the one here
pub marked_more : (table : Entities) (search : Search) (index code next : ℕ) (f : Entry) (marks : List Bool) → IsSortedTable table → IsAfterKey table search
    → AreMarked table search index marks → slice_get table index ≡ Some f → search.low < index → index < search.high → IsRange table f.key index next
    → code ≡ code_at f.key search.depth → code < length marks → AreMarked table search next (set marks code true)
marked_more table search index code next f marks sorted after before stands later open' range is within = record {
  at = λ k g at low high. elim (cases_lt k index) [
    | inl less ↦ by (code_at g.key search.depth) (before.at k g at low less) (nat_eq (code_at g.key search.depth) code) refl
    | inr from ↦ let depth : search.depth ≡ length after.entry.key = after.read.depth in
        get_or-set_at marks code (code_at g.key search.depth) true false
        (same_code g.key f.key search.depth (range.exact k g at ∙ inside index next k from high)
        (omega (arith, (longer_there table search.low search.high index after.entry f sorted stands after.read.range later open').1)) ∙ sym is) within
  ];
} where
  by : (other : ℕ) → get_or marks other false ≡ true → (same : Bool) → nat_eq other code ≡ same → get_or (set marks code true) other false ≡ true
  by other marked true same = get_or-set_at marks code other true false (grind (arith, nat_tests)) within
  by other marked false same = get_or-set_other marks code other true false (grind (arith, nat_tests)) ∙ marked
