-- What the bytes after an `&` settle of it.
use Rattle.charref.proofs.Names.{arith, ◌≡◌, inl, inr, ℕ, ◌+◌, ◌-◌, ◌≤◌, ◌<◌, min, true, false, true≢false, not, nat_eq, List, [], ◌∷◌, ◌++◌, length, take, drop, slice_get, get_or, encode_utf8_all, Option, Some, None, refl, sym, ap, ◌∙◌, subst, length-append, append_assoc, and_parts, and_from, nat_tests, take_more, length-map, is_ascii, starts_with, list_all, some_same, Placed, placed, characters, all, is_alphanumeric, is_empty, Reference, Characters, Alphanumeric, Walk, Entry, Entities, IsTable, Piece, is_key, is_key_name, ends_in_semicolon, code_at, IsAfterKey, IsOpenKey, OpenKey, IsSortedTable, IsRange, IsOver, EntryGoesOn, HasNone, SearchHasRead, key_bytes, IsOpenReference, IsRead, characters_of, errors_of, unknown_of, WalkHasTaken, IsOpenKeyOf, HasWalked, Settles, SettlesNothing, take-take, length-take, length-take-le, get_or-take, character_code, cases_lt, list_all_at, placed-append, TakesCharacter, HasWhole}
use Rattle.std.proofs.Common.{take-append-drop}
use Rattle.charref.proofs.Keys.{longest-whole, longest-over, no_longer, begins_itself, begins_later, in_order, whole as whole_key}
use Rattle.charref.proofs.Core.{once}
use Rattle.charref.proofs.Naming.{is_key_of, key_of, key_opens, name_all, some_placed, Opens}
-- under the name by which the crates above cite it
pub use Rattle.charref.proofs.Naming.{characters-placed}
use Rattle.charref.proofs.Searching.{within, read_ampersand}
use Rattle.charref.proofs.Fronts.{run_more}
use Rattle.charref.proofs.Telling.{opens_more, front_of, last_letter, best_before, settled_before, read_named, read_unknown}
use Rattle.charref.proofs.Opening.{open_taken}
use Rattle.charref.proofs.OneReference.{one_of}

-- ONE BYTE MORE

abbrev pub last_at : ℕ → List ℕ → ℕ → Placed
last_at at bytes k = record { ch = get_or bytes k 0; at = at + length (encode_utf8_all (take k bytes)) }

pub more_bytes : (bytes : List ℕ) (k : ℕ) → k < length bytes → (at : ℕ) → placed at (take (k + 1) bytes) ≡ placed at (take k bytes) ++ last_at at bytes k ∷ []
more_bytes bytes k within at = ap (placed at) (take_more bytes k 0 within) ∙ placed-append at (take k bytes) (get_or bytes k 0 ∷ [])

module _ (table : Entities) (bytes : List ℕ) (k : ℕ) (walk next : Walk) (within : k < length bytes) (ascii : is_ascii (get_or bytes k 0) ≡ true)
    (before : HasWalked walk table bytes k) where
  abbrev takes : Option Reference → Type 0
  takes answer =
      (text : List Placed) (p : Placed) → WalkHasTaken walk table false text → p.ch ≡ get_or bytes k 0 → TakesCharacter table false (text ++ p ∷ []) answer next

  taken_more : (answer : Option Reference) → takes answer → (at : ℕ) → TakesCharacter table false (placed at (take (k + 1) bytes)) answer next
  taken_more answer take-next at = rw (more_bytes bytes k within at) (take-next (placed at (take k bytes)) (last_at at bytes k) (before.taken at) refl)

  pub walked_more : takes None → HasWalked next table bytes (k + 1)
  walked_more take-next = record { few = omega arith; ascii = run_more is_ascii bytes k within before.ascii ascii; taken = taken_more None take-next }

  pub walk_settles : (found : Reference) → takes (Some found) → Settles table bytes (k + 1) found
  walk_settles found take-next = record
      { some = omega arith; few = omega arith; ascii = run_more is_ascii bytes k within before.ascii ascii; read = taken_more (Some found) take-next }

-- WHAT SETTLES NOTHING

some_more : (ps : List Placed) → is_empty ps ≡ false → 1 ≤ length ps
some_more [] some = absurd (true≢false some)
some_more (p ∷ ps) some = omega arith

-- what may become a longer reference is settled by none of its characters
unsettled : (table : Entities) (amp : Placed) (text rest : List Placed) (found : Reference) → amp.ch ≡ 38 → IsOpenReference table amp (text ++ rest)
    → ((after : List Placed) → IsRead table false text after found) → ⊥
unsettled table amp text rest found is open' reads = let n : ℕ = length text - found.left in let after : List Placed = (rest ++ open'.more) ++ open'.rest in
    let seam = ap (λ xs. xs ++ after) (sym (take-append-drop n text)) ∙ append_assoc (take n text) (drop n text) after in
    let joined = ap (λ xs. xs ++ open'.rest) (append_assoc text rest open'.more) ∙ append_assoc text (rest ++ open'.more) open'.rest in
    let other : Piece = record { text = amp ∷ take n text; gives = characters_of found.characters; errors = errors_of found amp.at after } in
    let same : open'.piece ≡ other = (one_of table false open'.piece other open'.rest (drop n text ++ after) open'.is_reference ((reads after).reads amp is)
    (ap (λ xs. xs ++ open'.rest) open'.text_is ∙ ap (λ xs. amp ∷ xs) (joined ∙ seam))).0 in
    let some : 1 ≤ length open'.more = some_more open'.more open'.is_more in
    let cut : length (take n text) ≡ min n (length text) = length-take n text in
    absurd (omega (arith, ap length (sym open'.text_is ∙ ap (λ (q : Piece). q.text) same), length-append (text ++ rest) open'.more, length-append text rest))

front_placed : (at n : ℕ) (xs : List ℕ) → (rest : List Placed) × (placed at xs ≡ placed at (take n xs) ++ rest)
front_placed at n xs = (_, ap (placed at) (sym (take-append-drop n xs)) ∙ placed-append at (take n xs) (drop n xs))

-- a walk that has taken all of the bytes, or all before one that is not ASCII
pub nothing_settled : (walk : Walk) (table : Entities) (bytes : List ℕ) (count : ℕ) → IsTable table → HasWalked walk table bytes count
    → (count < length bytes → is_ascii (get_or bytes count 0) ≡ false) → SettlesNothing table bytes
nothing_settled walk table bytes count is_table walked stops n found settles =
    let few : n ≤ count = elim (cases_lt count n) [ inl within ↦ absurd (past within) | inr most ↦ most ] in let more = front_placed 0 n (take count bytes) in
    let amp : Placed = record { ch = 38; at = 0 } in
    let text-is : placed 0 (take count bytes) ≡ placed 0 (take n bytes) ++ more.0 = more.1 ∙ ap (λ xs. placed 0 xs ++ more.0) (take-take n count bytes few) in
    unsettled table amp (placed 0 (take n bytes)) more.0 found refl
    (subst (IsOpenReference table amp) text-is (open_taken walk table (placed 0 (take count bytes)) amp is_table (walked.taken 0) refl)) (settles.read 0) where
      past : count < n → ⊥
      past within = true≢false (sym settles.ascii ∙ list_all_at is_ascii (take n bytes) count 0 (omega (arith, length-take-le n bytes settles.few))
          (ap is_ascii (get_or-take n bytes count 0 within) ∙ stops (omega (arith, length-take-le n bytes settles.few))))

-- no key begins with the first letter
none_over : (table : Entities) (bytes : List ℕ) (low high : ℕ) → IsRange table bytes low high → low ≡ high → HasNone table bytes
none_over table bytes low high range over = record
    { none = λ k e at opens. (let parts : (low ≤ k) × (k < high) = within low high k (sym (range.exact k e at) ∙ opens) in absurd (omega arith)) }

pub no_first : (table : Entities) (bytes : List ℕ) (byte low high : ℕ) → IsSortedTable table → Some byte ≡ slice_get bytes 0 → is_alphanumeric byte ≡ true
    → IsRange table (38 ∷ byte ∷ []) low high → low ≡ high → Settles table bytes 1 (unknown_of 1 Alphanumeric)
no_first table [] byte low high sorted first letter range over = absurd (cc)
no_first table (b ∷ bs) byte low high sorted first letter range over = record {
  some = omega arith;
  few = omega arith;
  ascii = and_from _ _ (grind (arith, nat_tests)) refl;
  read = λ at after.
      let p : Placed = record { ch = b; at = at } in let begun = read_ampersand table (length table) sorted refl in
      let none : HasNone table (38 ∷ b ∷ []) = subst (λ x. HasNone table (38 ∷ x ∷ [])) same (none_over table (38 ∷ byte ∷ []) low high range over) in
      subst (λ l. IsRead table false (p ∷ []) after (unknown_of 1 l)) (sym (last_letter b letter')) (read_unknown table false [] p after 1 refl (λ is. letter')
      refl (sym (best_before table false [] after p _ begun none)) (settled_before table false [] after p _ begun none));
} where
  same : byte ≡ b
  same = some_same byte b first

  letter' : is_alphanumeric b ≡ true
  letter' = subst (λ x. is_alphanumeric x ≡ true) same letter

-- KEYS THAT END IN A SEMICOLON

-- letters and digits do not end in it
no_semicolon : (c : ℕ) (text : List Placed) → is_alphanumeric c ≡ true → all is_alphanumeric text ≡ true → ends_in_semicolon (c ∷ characters text) ≡ true → ⊥
no_semicolon c [] letter run h = absurd (grind (arith, nat_tests))
no_semicolon c (p ∷ ps) letter run h = no_semicolon p.ch ps (and_parts _ _ run).0 (and_parts _ _ run).1 h

no_semicolon_after : (text : List Placed) → all is_alphanumeric text ≡ true → ends_in_semicolon (key_bytes text) ≡ true → ⊥
no_semicolon_after [] run h = true≢false (sym h)
no_semicolon_after (p ∷ ps) run h = no_semicolon p.ch ps (and_parts _ _ run).0 (and_parts _ _ run).1 h

-- no key goes on after it
closed_over : (table : Entities) (text : List Placed) → IsTable table → ends_in_semicolon (key_bytes text) ≡ true → IsOver table (key_bytes text)
closed_over table text is_table closed = record {
  no_more = λ k e at opens. elim (cases_lt (length (key_bytes text)) (length e.key)) [
    | inl longer ↦
        absurd (no_semicolon_after text (front_of table text is_table (record { index = k; entry = e; stands = at; opens = opens; is_longer = longer })) closed)
    | inr most ↦ most
  ];
}

-- so it is with a key of the table
key_closed_over : (table : Entities) (k : ℕ) (e : Entry) → IsTable table → slice_get table k ≡ Some e → ends_in_semicolon e.key ≡ true → IsOver table e.key
key_closed_over table k e is_table stands closed = let opens : Opens e.key = key_opens e.key (is_key_of table k e is_table stands) in
    let is : key_bytes (placed 0 (opens.first ∷ opens.others)) ≡ e.key = ap (λ cs. 38 ∷ cs) (characters-placed 0 (opens.first ∷ opens.others)) ∙ sym opens.is in
    subst (IsOver table) is (closed_over table (placed 0 (opens.first ∷ opens.others)) is_table (subst (λ xs. ends_in_semicolon xs ≡ true) (sym is) closed))

-- and no other key begins with it
pub closed_alone : (table : Entities) (k : ℕ) (e f : Entry) → IsSortedTable table → slice_get table k ≡ Some e → slice_get table (k + 1) ≡ Some f
    → ends_in_semicolon e.key ≡ true → starts_with nat_eq f.key e.key ≡ true → ⊥
closed_alone table k e f sorted at next closed opens =
    let most : length f.key ≤ length e.key = (key_closed_over table k e sorted.is_table at closed).no_more (k + 1) f next opens in
    let same : e.key ≡ f.key = whole_key f.key e.key opens (omega (arith, no_longer f.key e.key opens)) in
    begins_later e.key f.key (subst (λ xs. starts_with nat_eq e.key xs ≡ true) same (begins_itself e.key))
    (in_order table sorted.sorted k (k + 1) e f at next (omega (arith, no_longer f.key e.key opens)))

-- so what it stands for comes, whatever follows
abbrev whole : Characters → Reference
whole cs = record { characters = cs; left = 0; missing_semicolon = false; fault = None; is_ambiguous = false }

read_closed : (table : Entities) (text after : List Placed) (k : ℕ) (e : Entry) (cs : Characters) → IsTable table → slice_get table k ≡ Some e
    → e.key ≡ key_bytes text → ends_in_semicolon e.key ≡ true → characters_of cs ≡ e.stands_for → IsRead table false text after (whole cs)
read_closed table text after k e cs is_table at is closed stands =
    let found = longest-whole table (key_bytes text) k e (record { here = λ j f q same. once table is_table.distinct j k f e q at (same ∙ sym is) }) at is in
    let over : IsOver table (key_bytes text) = closed_over table text is_table (subst (λ bs. ends_in_semicolon bs ≡ true) is closed) in
    let none : 0 ≡ length text - (length e.key - 1) = (omega (arith, ap length is, length-map text (λ p. p.ch))) in
    subst (λ b. IsRead table false text after (record { characters = cs; left = 0; missing_semicolon = not b; fault = None; is_ambiguous = false })) closed
    (read_named table false text after is_table e found (longest-over table (key_bytes text) (characters after) over) cs 0 stands none refl)

-- it is ASCII
key_name_ascii : (name : List ℕ) → is_key_name name ≡ true → list_all is_ascii name ≡ true
key_name_ascii name = name_all is_ascii (λ c letter. grind (arith, nat_tests)) refl name

-- These bytes begin with the name of this key, so many of them.
pub record StandsAt (bytes key : List ℕ) (count : ℕ) : Type 0 where
  pub some : 0 < count
  pub few : count ≤ length bytes
  pub ascii : list_all is_ascii (take count bytes) ≡ true
  pub is : (at : ℕ) → key ≡ key_bytes (placed at (take count bytes))

pub key_stands : (bytes key : List ℕ) (count : ℕ) → is_key key ≡ true → starts_with nat_eq bytes (drop 1 key) ≡ true → count ≡ length key - 1
    → StandsAt bytes key count
key_stands bytes [] count key opens size = absurd (true≢false (sym key))
key_stands bytes (c ∷ []) count key opens size = absurd (true≢false (sym (and_parts _ _ key).1))
key_stands bytes (c ∷ d ∷ ds) count key opens size = let amp : c ≡ 38 = (let t : nat_eq c 38 ≡ true = (and_parts _ _ key).0 in grind (arith, nat_tests)) in
    let count-is : length (d ∷ ds) ≡ count = omega arith in
    subst (StandsAt bytes (c ∷ d ∷ ds)) count-is (record {
      some = omega arith;
      few = no_longer bytes (d ∷ ds) opens;
      ascii = subst (λ xs. list_all is_ascii xs ≡ true) (key_of bytes (d ∷ ds) opens) (key_name_ascii (d ∷ ds) (and_parts _ _ key).1);
      is = λ at. ap (λ x. x ∷ d ∷ ds) amp ∙ ap (λ xs. 38 ∷ xs) (key_of bytes (d ∷ ds) opens ∙ sym (characters-placed at (take (length (d ∷ ds)) bytes)));
    })

pub key_settles : (table : Entities) (bytes : List ℕ) (index count : ℕ) (cs : Characters) → (has : HasWhole table bytes index)
    → count ≡ length has.entry.key - 1 → characters_of cs ≡ has.entry.stands_for → Settles table bytes count (whole cs)
key_settles table bytes index count lent has size stands =
    let at-front = key_stands bytes has.entry.key count (is_key_of table index has.entry has.is_table has.stands) has.opens size in
    record {
      some = at-front.some;
      few = at-front.few;
      ascii = at-front.ascii;
      read = λ at after. read_closed table (placed at (take count bytes)) after index has.entry lent has.is_table has.stands (at-front.is at) has.closed stands;
    }

-- FRONTS

-- the next byte settles the key, where it does after the text of the key
pub key_settles_before : (table : Entities) (bytes : List ℕ) (count : ℕ) (key : OpenKey) (found : Reference) → IsTable table → IsOpenKeyOf table bytes key
    → count ≡ key.search.depth - 1 → count < length bytes → is_ascii (get_or bytes count 0) ≡ true
    → ((text : List Placed) (p : Placed) → SearchHasRead key.search table (key_bytes text) → is_empty text ≡ false → all is_alphanumeric text ≡ true
    → p.ch ≡ get_or bytes count 0 → (after : List Placed) → IsRead table false (text ++ p ∷ []) after found) → Settles table bytes (count + 1) found
key_settles_before table bytes count key found is_table has size within ascii reads = let front : IsAfterKey table key.search = has.is.read in
    let depth : key.search.depth ≡ length front.entry.key = front.read.depth in
    let at-front = key_stands bytes front.entry.key count (is_key_of table key.search.low front.entry is_table front.stands) has.opens (omega arith) in
    record {
      some = omega arith;
      few = omega arith;
      ascii = run_more is_ascii bytes count within at-front.ascii ascii;
      read = λ at after.
          let text = placed at (take count bytes) in let goes : EntryGoesOn table (key_bytes text) = subst (EntryGoesOn table) (at-front.is at) front.goes_on in
          rw (more_bytes bytes count within at) (reads text (last_at at bytes count) (rw (← (at-front.is at)) front.read) (some_placed at (take count bytes)
          (let few : length (take count bytes) ≡ count = length-take-le count bytes (omega arith) in let more : 0 < count = at-front.some in omega arith))
          (front_of table text is_table goes) refl after);
    }

-- no key goes on with a byte that is not marked
pub none_unmarked : (table : Entities) (key : OpenKey) (byte : ℕ) (text : List Placed) → IsOpenKey table key → SearchHasRead key.search table (key_bytes text)
    → get_or key.goes_on (byte + 1) false ≡ false → HasNone table (key_bytes text ++ byte ∷ [])
none_unmarked table key byte text is read unmarked = record {
  none = λ k e at opens.
      let parts = opens_more e.key (key_bytes text) byte opens in
      let range = within key.search.low key.search.high k (sym (read.range.exact k e at) ∙ parts.0) in
      let code : code_at e.key key.search.depth ≡ byte + 1 = ap (code_at e.key) read.depth ∙ ap character_code parts.1 in
      true≢false (sym (is.marked.at k e at range.0 range.1) ∙ ap (λ n. get_or key.goes_on n false) code ∙ unmarked);
}
