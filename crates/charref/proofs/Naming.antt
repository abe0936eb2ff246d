-- A name that has been read: its key, or none.
use Rattle.charref.proofs.Names.{arith, ◌≡◌, ℕ, zero, suc, ◌-◌, ◌≤◌, ◌<◌, Bool, true, false, true≢false, ◌||◌, nat_eq, bytes_eq, bytes_eq-Decides, codes, List, [], ◌∷◌, ◌++◌, length, take, drop, slice_get, get_or, Some, refl, sym, ap, ◌∙◌, subst, take-append-drop, and_parts, and_from, nat_tests, starts_with, list_all, Placed, characters, begins, all, past, is_alphanumeric, Entry, Entities, IsTable, is_key, is_key_name, is_empty_list, ends_in_semicolon, ◌+◌, placed, is_empty, len_utf8}
-- under the name by which the crates above cite it
pub use Rattle.names.proofs.Words.{all-append}

-- what follows a character of a name
pub data Follows (cs : List ℕ) : Type 0 where
  ends : cs ≡ [] → Follows cs
  closes : cs ≡ 59 ∷ [] → Follows cs
  continues : is_key_name cs ≡ true → Follows cs

pub follows : (cs : List ℕ) → (is_empty_list cs || bytes_eq cs (codes ";") || is_key_name cs) ≡ true → Follows cs
follows [] h = ends refl
follows (c ∷ cs) h = by (bytes_eq (c ∷ cs) (codes ";")) refl h where
  by : (b : Bool) → bytes_eq (c ∷ cs) (codes ";") ≡ b → (b || is_key_name (c ∷ cs)) ≡ true → Follows (c ∷ cs)
  by true is h = closes ((bytes_eq-Decides (c ∷ cs) (codes ";")).0 is)
  by false is h = continues h

-- each byte of a name passes what all letters and digits, and the `;`, do
pub name_all : (test : ℕ → Bool) → ((c : ℕ) → is_alphanumeric c ≡ true → test c ≡ true) → test 59 ≡ true → (name : List ℕ) → is_key_name name ≡ true
    → list_all test name ≡ true
name_all test letters last [] is = refl
name_all test letters last (c ∷ cs) is = and_from (test c) _ (letters c (and_parts _ _ is).0) (elim (follows cs (and_parts _ _ is).1)
    [ ends none ↦ rw none refl | closes one ↦ rw one (and_from (test 59) true last refl) | continues more ↦ name_all test letters last cs more ])

-- the last byte of a key
pub ends_at : (xs : List ℕ) → 0 < length xs → ends_in_semicolon xs ≡ nat_eq (get_or xs (length xs - 1) 0) 59
ends_at [] h = absurd (omega arith)
ends_at (x ∷ []) h = refl
ends_at (x ∷ y ∷ xs) h = let later = ends_at (y ∷ xs) (omega arith) in let at : length (x ∷ y ∷ xs) - 1 ≡ suc (length (y ∷ xs) - 1) = omega arith in
    later ∙ ap (λ n. nat_eq (get_or (x ∷ y ∷ xs) n 0) 59) (sym at)

-- a text that begins with a key is the key and the rest
pub key_of : (bytes key : List ℕ) → starts_with nat_eq bytes key ≡ true → key ≡ take (length key) bytes
key_of bytes [] p = refl
key_of [] (c ∷ cs) p = absurd (true≢false (sym p))
key_of (x ∷ xs) (c ∷ cs) p = let first : c ≡ x = (let h : nat_eq c x ≡ true = (and_parts _ _ p).0 in grind (arith, nat_tests)) in
    let others : cs ≡ take (length cs) xs = key_of xs cs (and_parts _ _ p).1 in
    cc

pub rest_of_key : (key bytes : List ℕ) → starts_with nat_eq key bytes ≡ true → key ≡ bytes ++ drop (length bytes) key
rest_of_key key bytes p = sym (take-append-drop (length bytes) key) ∙ ap (λ xs. xs ++ drop (length bytes) key) (sym (key_of key bytes p))

pub take-map : (n : ℕ) (text : List Placed) → take n (characters text) ≡ characters (take n text)
take-map zero text = refl
take-map (suc n) [] = refl
take-map (suc n) (p ∷ ps) = ap (λ cs. p.ch ∷ cs) (take-map n ps)

pub past-run : (xs ys : List Placed) → all is_alphanumeric xs ≡ true → past is_alphanumeric (xs ++ ys) ≡ past is_alphanumeric ys
past-run [] ys h = refl
past-run (p ∷ ps) ys h = let test : is_alphanumeric p.ch ≡ true = (and_parts _ _ h).0 in rw test (past-run ps ys (and_parts _ _ h).1)

pub begins-drop : (xs ys : List Placed) (n : ℕ) → all is_alphanumeric xs ≡ true → n < length xs → begins is_alphanumeric (drop n (xs ++ ys)) ≡ true
begins-drop [] ys n h lt = absurd (omega arith)
begins-drop (p ∷ ps) ys zero h lt = (and_parts _ _ h).0
begins-drop (p ∷ ps) ys (suc n) h lt = begins-drop ps ys n (and_parts _ _ h).1 (omega arith)

-- bytes as characters of a text
pub characters-placed : (at : ℕ) (bytes : List ℕ) → characters (placed at bytes) ≡ bytes
characters-placed at [] = refl
characters-placed at (x ∷ xs) = ap (λ cs. x ∷ cs) (characters-placed (at + len_utf8 x) xs)

pub some_placed : (at : ℕ) (bytes : List ℕ) → 0 < length bytes → is_empty (placed at bytes) ≡ false
some_placed at [] some = absurd (omega arith)
some_placed at (x ∷ xs) some = refl

-- an element of a list passes where all do
pub all_at : {A : Type 0} (test : A → Bool) (xs : List A) (k : ℕ) (x : A) → list_all test xs ≡ true → slice_get xs k ≡ Some x → test x ≡ true
all_at test [] k x all h = absurd (cc)
all_at test (y ∷ ys) zero x all h = let same : y ≡ x = cc in subst (λ z. test z ≡ true) same (and_parts _ _ all).0
all_at test (y ∷ ys) (suc k) x all h = all_at test ys k x (and_parts _ _ all).1 h

-- keys of a table
pub is_key_of : (table : Entities) (k : ℕ) (e : Entry) → IsTable table → slice_get table k ≡ Some e → is_key e.key ≡ true
is_key_of table k e is_table h = all_at (λ (entry : Entry). is_key entry.key) table k e is_table.keys h

-- a key begins with `&` and an alphanumeric
pub record Opens (key : List ℕ) : Type 0 where
  pub first : ℕ
  pub others : List ℕ
  pub is : key ≡ 38 ∷ first ∷ others
  pub alphanumeric : is_alphanumeric first ≡ true

pub key_opens : (key : List ℕ) → is_key key ≡ true → Opens key
key_opens [] h = absurd (true≢false (sym h))
key_opens (c ∷ []) h = absurd (true≢false (sym (and_parts _ _ h).1))
key_opens (c ∷ d ∷ cs) h = let amp : c ≡ 38 = (let t : nat_eq c 38 ≡ true = (and_parts _ _ h).0 in grind (arith, nat_tests)) in
    record { first = d; others = cs; is = ap (λ x. x ∷ d ∷ cs) amp; alphanumeric = (and_parts (is_alphanumeric d) _ (and_parts _ _ h).1).0 }

pub key_size : (key : List ℕ) → is_key key ≡ true → 2 ≤ length key
key_size key is = omega (arith, ap length (key_opens key is).is)

pub some_key : (table : Entities) (k : ℕ) (e : Entry) → IsTable table → slice_get table k ≡ Some e → 2 ≤ length e.key
some_key table k e is_table h = key_size e.key (is_key_of table k e is_table h)
