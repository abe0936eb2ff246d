-- Laws of a table's texts.
use Rattle.names.proofs.Vocabulary.{◌≡◌, ◌||◌, Bool, ℕ, zero, suc, ◌+◌, ◌<◌, ◌≤◌, true, false, List, [], ◌∷◌, ◌++◌, length, map, get_or, Option, Some, None, sym, refl, ap, ◌∙◌, arith, length-append, bytes_eq-Decides, String, option_map, slice_get, position, list_all, list_any, append-nil, zero-add, nat_lt, not, ◌&&◌, cases_lt, and_parts, get_or-map, slice_get-get_or, slice_get-map, inl, inr, Texts, text_of, AreDistinct, AreNames, known, AreOthers, ◌-◌, ◌^◌, map-append, get_or_append_left, apart_from_distinct, cases_order, ◌⊎◌, false≢true, position-Some, IsDistinct, position_or_len, IndexMap, insert_entry, keys, keys_of, true≢false, cases_Bool, nat_tests, string_eq, take-append_seam, list_all-append, list_any-append, list_any_at, interned, Grows, is_other, append_assoc, bytes_eq, string_bytes, length-map, or_parts, get_or-append_right}
use Rattle.names.proofs.Handing.{slice_get-append}
use Rattle.names.proofs.KnownTexts.{known-distinct}

-- the test of two texts says whether they are equal
pub bytes_eq-true : (xs ys : List ℕ) → bytes_eq xs ys ≡ true → xs ≡ ys
bytes_eq-true xs ys h = (bytes_eq-Decides xs ys).0 h

pub bytes_eq-same : (xs : List ℕ) → bytes_eq xs xs ≡ true
bytes_eq-same xs = (bytes_eq-Decides xs xs).1 refl

-- no two texts of a table are equal
distinct_from : {A : Type 0} (keys : List (String A)) → IsDistinct string_eq keys → AreDistinct (map string_bytes keys)
distinct_from [] h i j p q same = absurd (omega (arith, p))
distinct_from (k ∷ ks) h i j p q same = let p' : i < length (k ∷ ks) = simp length-map at p in let q' : j < length (k ∷ ks) = simp length-map at q in
    let e = sym (get_or-map string_bytes (k ∷ ks) i k [] p') ∙ same ∙ get_or-map string_bytes (k ∷ ks) j k [] q' in
    let there : string_eq (get_or (k ∷ ks) i k) (get_or (k ∷ ks) j k) ≡ true = (bytes_eq-Decides _ _).1 e in
    let back : string_eq (get_or (k ∷ ks) j k) (get_or (k ∷ ks) i k) ≡ true = (bytes_eq-Decides _ _).1 (sym e) in elim (cases_order i j) [
      | inl equal ↦ equal
      | inr differ ↦ absurd (elim differ [
        | inl less ↦ false≢true (sym (apart_from_distinct string_eq (k ∷ ks) i j k h less q') ∙ there)
        | inr less ↦ false≢true (sym (apart_from_distinct string_eq (k ∷ ks) j i k h less p') ∙ back)
      ])
    ]

-- a text that is found has the number of its place
pub number_from_position : (names : Texts) (i : ℕ) (text : List ℕ) → position (bytes_eq text) names ≡ Some i → slice_get names i ≡ Some text
number_from_position names i text h = let at = position-Some (bytes_eq text) names i [] h in
    slice_get-get_or names i [] at.0 ∙ ap Some (sym (bytes_eq-true _ _ at.1))

-- one that is not is none of them
any-position : {X : Type 0} (test : X → Bool) (xs : List X) → list_any test xs ≡ nat_lt (position_or_len test xs) (length xs)
any-position test [] = refl
any-position test (x ∷ xs) = grind (arith, any-position test xs, nat_tests)

none_there : {X : Type 0} (test : X → Bool) (xs : List X) → position test xs ≡ None → list_any test xs ≡ false
none_there test xs none = grind (arith, any-position test xs)

any-keys : {A : Type 0} (text : List ℕ) (keys : List (String A))
    → list_any (bytes_eq text) (map string_bytes keys) ≡ list_any (λ k. bytes_eq text (string_bytes k)) keys
any-keys text [] = refl
any-keys text (k ∷ ks) = ap (λ b. bytes_eq text (string_bytes k) || b) (any-keys text ks)

-- and its key goes last
put_last : {A : Type 0} (es : List (String A × Unit {0})) (key : String A) → list_any (string_eq key) (keys_of es) ≡ false
    → insert_entry string_eq es key tt ≡ es ++ (key, tt) ∷ []
put_last [] key h = refl
put_last (e ∷ es) key h = grind (arith, put_last es key)

pub grown : {A S : Type 0} (old new : IndexMap (String A) (Unit {0}) S) (key : String A)
    → position (bytes_eq (string_bytes key)) (known ++ map string_bytes (keys old)) ≡ None → new.entries ≡ insert_entry string_eq old.entries key tt
    → (list_any (bytes_eq (string_bytes key)) known ≡ false) × (keys new ≡ keys old ++ key ∷ [])
grown old new key none e = let text = string_bytes key in
    let parts = or_parts (list_any (bytes_eq text) known) (list_any (bytes_eq text) (map string_bytes (keys old)))
    (sym (list_any-append (bytes_eq text) known (map string_bytes (keys old))) ∙ none_there (bytes_eq text) (known ++ map string_bytes (keys old)) none) in (
      parts.0,
      ap keys_of (e ∙ put_last old.entries key (sym (any-keys text (keys old)) ∙ parts.1))
          ∙ map-append (λ (x : String _ × Unit {0}). x.0) old.entries ((key, tt) ∷ []),
    )

-- the key of the entry at a place
pub key_at : {A S : Type 0} (m : IndexMap (String A) (Unit {0}) S) (i : ℕ) (o : Option (String A × Unit {0})) → o ≡ slice_get m.entries i
    → option_map (λ e. e.0) o ≡ slice_get (keys m) i
key_at m i o e = ap (option_map (λ x. x.0)) e ∙ sym (slice_get-map (λ (x : String _ × Unit {0}). x.0) m.entries i)

-- the texts besides the known ones, with a new one last
pub others_grown : {A : Type 0} (old new : List (String A)) (key : String A) → AreOthers old → length known + length old < 2 ^ 32
    → list_any (bytes_eq (string_bytes key)) known ≡ false → IsDistinct string_eq new → new ≡ old ++ key ∷ [] → AreOthers new
others_grown old new key h room other distinct e = record {
  others = rw e (list_all-append is_other old (key ∷ []) ∙ ap (λ b. b && (not (list_any (bytes_eq (string_bytes key)) known) && true)) h.others
      ∙ ap (λ b. not b && true) other);
  distinct = distinct;
  fits = omega (arith, room, ap length e, length-append old (key ∷ []));
}

-- what is after others
pub slice_get-after : (xs ys : Texts) (i : ℕ) → slice_get (xs ++ ys) (length xs + i) ≡ slice_get ys i
slice_get-after [] ys i = ap (slice_get ys) (zero-add i)
slice_get-after (x ∷ xs) ys i = let e : suc (length xs) + i ≡ suc (length xs + i) = omega arith in ap (slice_get (x ∷ xs ++ ys)) e ∙ slice_get-after xs ys i

-- where a text of two lists is
split : (xs ys : Texts) (i : ℕ) → i < length (xs ++ ys) → ((i < length xs) × (text_of (xs ++ ys) i ≡ text_of xs i))
    ⊎ ((k : ℕ) × (i ≡ length xs + k) × (k < length ys) × (text_of (xs ++ ys) i ≡ text_of ys k))
split xs ys i p = elim (cases_lt i (length xs)) [
  | inl within ↦ inl (within, get_or_append_left xs ys [] i within)
  | inr past ↦ inr (i - length xs, omega (arith, past), omega (arith, past, length-append xs ys, p), get_or-append_right xs ys i [] past)
]

-- texts that are different, after others that are
pub joined : (xs ys : Texts) → AreDistinct xs → AreDistinct ys → ((i j : ℕ) → i < length xs → j < length ys → text_of xs i ≡ text_of ys j → ⊥)
    → AreDistinct (xs ++ ys)
joined xs ys first last differ i j p q same = elim (split xs ys i p) [
  | inl m ↦ elim (split xs ys j q)
      [ inl n ↦ first i j m.0 n.0 (sym m.1 ∙ same ∙ n.1) | inr n ↦ absurd (differ i n.0 m.0 n.2 (sym m.1 ∙ same ∙ n.3)) ]
  | inr m ↦ elim (split xs ys j q) [
    | inl n ↦ absurd (differ j m.0 n.0 m.2 (sym n.1 ∙ sym same ∙ m.3))
    | inr n ↦ cc (m.1, n.1, last m.0 n.0 m.2 n.2 (sym m.3 ∙ same ∙ n.3))
  ]
]

-- none of the others is a known name
none_known : {A : Type 0} (keys : List (String A)) (i j : ℕ) → list_all is_other keys ≡ true → i < length known → j < length (map string_bytes keys)
    → text_of known i ≡ text_of (map string_bytes keys) j → ⊥
none_known [] i j h p q e = absurd (omega (arith, q))
none_known (k ∷ ks) i zero h p q e =
    let is : list_any (bytes_eq (string_bytes k)) known ≡ true =
    list_any_at (bytes_eq (string_bytes k)) known i [] p ((bytes_eq-Decides (string_bytes k) (text_of known i)).1 (sym e)) in
    true≢false (sym (and_parts (is_other k) (list_all is_other ks) h).0 ∙ ap not is)
none_known (k ∷ ks) i (suc j) h p q e = none_known ks i j (and_parts (is_other k) (list_all is_other ks) h).1 p (omega (arith, q)) e

-- a table's texts are names
pub are_names : {A : Type 0} (keys : List (String A)) → AreOthers keys → AreNames (known ++ map string_bytes keys)
are_names keys h = record {
  known_first = take-append_seam known (map string_bytes keys);
  distinct = joined known (map string_bytes keys) known-distinct (distinct_from keys h.distinct) (λ i j. none_known keys i j h.others);
}

-- how long a table is, and what it is with one more
pub table_length : {A : Type 0} (keys : List (String A)) (names : Texts) → known ++ map string_bytes keys ≡ names → length names ≡ length known + length keys
table_length keys names e = ap length (sym e) ∙ length-append known (map string_bytes keys) ∙ ap (λ n. length known + n) (length-map keys string_bytes)

pub table_grown : {A : Type 0} (old new : List (String A)) (key : String A) (names : Texts) → known ++ map string_bytes old ≡ names → new ≡ old ++ key ∷ []
    → known ++ map string_bytes new ≡ names ++ string_bytes key ∷ []
table_grown old new key names is e = ap (λ (x : Texts). known ++ x) (ap (map string_bytes) e ∙ map-append string_bytes old (key ∷ []))
    ∙ sym (append_assoc known (map string_bytes old) (string_bytes key ∷ [])) ∙ ap (λ (x : Texts). x ++ string_bytes key ∷ []) is

-- what is at a place after the known names
pub slice_get-past : (xs ys : Texts) (i : ℕ) → length xs ≤ i → slice_get (xs ++ ys) i ≡ slice_get ys (i - length xs)
slice_get-past xs ys i past = let e : i ≡ length xs + (i - length xs) = omega (arith, past) in
    ap (slice_get (xs ++ ys)) e ∙ slice_get-after xs ys (i - length xs)

pub other_at : {A : Type 0} (keys : List (String A)) (names : Texts) (i : ℕ) (key : Option (String A)) → known ++ map string_bytes keys ≡ names
    → length known ≤ i → key ≡ slice_get keys (i - length known) → slice_get names i ≡ option_map string_bytes key
other_at keys names i key is past found = ap (λ (x : Texts). slice_get x i) (sym is) ∙ slice_get-past known (map string_bytes keys) i past
    ∙ slice_get-map string_bytes keys (i - length known) ∙ ap (option_map string_bytes) (sym found)

pub slice_get-within : (xs ys : Texts) (i : ℕ) → i < length xs → slice_get (xs ++ ys) i ≡ slice_get xs i
slice_get-within xs ys i within = let e : slice_get xs i ≡ Some (text_of xs i) = slice_get-get_or xs i [] within in
    slice_get-append xs ys i (text_of xs i) e ∙ sym e

-- nothing besides the known names
pub no_others : {A : Type 0} (keys : List (String A)) → keys ≡ [] → IsDistinct string_eq keys → AreOthers keys
no_others keys none distinct = record { others = ap (list_all is_other) none; distinct = distinct; fits = omega (arith, ap length none) }

-- a number that was there, and the next one
pub interned-there : (names : Texts) (id : ℕ) (text : List ℕ) → id < length names → names ≡ interned text id names
interned-there names id text less = let t : nat_lt id (length names) ≡ true = grind (arith, nat_tests) in rw t refl

pub grows-interned : (names : Texts) (id : ℕ) (text : List ℕ) → Grows names (interned text id names)
grows-interned names id text = elim (cases_Bool (nat_lt id (length names)))
    [ inl there ↦ rw there ([], sym (append-nil names)) | inr past ↦ rw past (text ∷ [], refl) ]

pub interned-last : (names : Texts) (id : ℕ) (text : List ℕ) → length names ≤ id → interned text id names ≡ names ++ text ∷ []
interned-last names id text past = let f : nat_lt id (length names) ≡ false = grind (arith, nat_tests) in rw f refl
