-- The members of an object, one after another.
use Rattle.charref.proofs.Names.{◌≡◌, inl, ℕ, Bool, true, true≢false, not, List, [], ◌∷◌, ◌++◌, map, Some, encode_utf8_all, Result, Ok, Err, string_bytes, Less, refl, sym, ap, ◌∙◌, subst, append_assoc, and_parts, and_from, append-nil, map-append, bytes_eq-Decides, list_all, AllByRecursion, slice_cmp, nat_cmp, TableFault, view, members_view, Value, Entry, Entities, is_key, is_empty_list, codepoints, entry_of_json, entities_of, IsRefusedWith, Refusal, Memory, is_one_or_two, is_table_entry, IsReadable, list_all-append, IsDistinct, String, Global, IsDistinct-from_sorted, is_eq-slice_cmp, keys_of, string_cmp, Data, Items, fields, and_entry}
use Rattle.std.specs.List.Sorted.{IsStrictlySortedBy}

abbrev pub Pair : Type 0
Pair = String Global × Value

-- the entries before the others
abbrev pub followed_by : Entities → Result Entities TableFault → Result Entities TableFault
followed_by [] others = others
followed_by (entry ∷ entries) others = and_entry (Ok entry) (followed_by entries others)

-- an entry more, before what follows
pub followed_by-append : (es ds : Entities) (others : Result Entities TableFault) → followed_by (es ++ ds) others ≡ followed_by es (followed_by ds others)
followed_by-append [] ds others = refl
followed_by-append (e ∷ es) ds others = ap (and_entry (Ok e)) (followed_by-append es ds others)

-- a fault stays one behind the entries before it
pub followed_by-Err : (es : Entities) (cause : TableFault) → followed_by es (Err cause) ≡ Err cause
followed_by-Err [] cause = refl
followed_by-Err (e ∷ es) cause = ap (and_entry (Ok e)) (followed_by-Err es cause)

pub followed_by-nothing : (es : Entities) → followed_by es (Ok []) ≡ Ok es
followed_by-nothing [] = refl
followed_by-nothing (e ∷ es) = ap (and_entry (Ok e)) (followed_by-nothing es)

-- The members up to these have been read, and gave these entries.
pub record HasReadMembers (all rest : List Pair) (table : Entities) : Type 0 where
  pub done : List Pair
  pub are : all ≡ done ++ rest
  pub so_far : (more : List Pair) → entities_of (members_view (done ++ more)) ≡ followed_by table (entities_of (members_view more))
  pub keys : map (λ e. e.key) table ≡ map string_bytes (keys_of done)
  pub passing : list_all is_table_entry table ≡ true

pub read_member : (all left : List Pair) (pair : Pair) (table : Entities) (e : Entry) → HasReadMembers all (pair ∷ left) table
    → entry_of_json (string_bytes pair.0) (view pair.1) ≡ Ok e → e.key ≡ string_bytes pair.0 → is_table_entry e ≡ true
    → HasReadMembers all left (table ++ e ∷ [])
read_member all left pair table e was is key passes = record {
  done = was.done ++ pair ∷ [];
  are = was.are ∙ sym (append_assoc was.done (pair ∷ []) left);
  so_far = λ more. ap (λ (ms : List Pair). entities_of (members_view ms)) (append_assoc was.done (pair ∷ []) more) ∙ was.so_far (pair ∷ more)
      ∙ ap (λ r. followed_by table (and_entry r (entities_of (members_view more)))) is
      ∙ sym (followed_by-append table (e ∷ []) (entities_of (members_view more)));
  keys = map-append (λ (e : Entry). e.key) table (e ∷ []) ∙ (λ i. was.keys i ++ key i ∷ [])
      ∙ sym (ap (map string_bytes) (map-append (λ (p : Pair). p.0) was.done (pair ∷ [])) ∙ map-append string_bytes (keys_of was.done) (pair.0 ∷ []));
  passing = list_all-append is_table_entry table (e ∷ []) ∙ and_from _ _ was.passing (and_from _ true passes refl);
}

pub read_fault : (all left : List Pair) (pair : Pair) (table : Entities) (cause : TableFault) → HasReadMembers all (pair ∷ left) table
    → entry_of_json (string_bytes pair.0) (view pair.1) ≡ Err cause → entities_of (members_view all) ≡ Err cause
read_fault all left pair table cause was is = ap (λ (ms : List Pair). entities_of (members_view ms)) was.are ∙ was.so_far (pair ∷ left)
    ∙ ap (λ r. followed_by table (and_entry r (entities_of (members_view left)))) is ∙ followed_by-Err table cause

pub read_all : (all : List Pair) (table : Entities) → HasReadMembers all [] table → entities_of (members_view all) ≡ Ok table
read_all all table was = ap (λ (ms : List Pair). entities_of (members_view ms)) was.are ∙ was.so_far [] ∙ followed_by-nothing table

-- a refusal of the next member refuses all
pub memory_refuses : {A : Type 0} (r : Result A TableFault) (refusal : Refusal) → refusal ≡ Memory → IsRefusedWith r refusal
memory_refuses (Ok x) refusal is = is
memory_refuses (Err cause) refusal is = inl is

pub read_refused : (all left : List Pair) (pair : Pair) (table : Entities) (refusal : Refusal) → HasReadMembers all (pair ∷ left) table
    → IsRefusedWith (entry_of_json (string_bytes pair.0) (view pair.1)) refusal → IsRefusedWith (entities_of (members_view all)) refusal
read_refused all left pair table refusal was refused = by (entry_of_json (string_bytes pair.0) (view pair.1)) refl refused where
  by : (r : Result Entry TableFault) → entry_of_json (string_bytes pair.0) (view pair.1) ≡ r → IsRefusedWith r refusal
      → IsRefusedWith (entities_of (members_view all)) refusal
  by (Ok e) is memory = memory_refuses (entities_of (members_view all)) refusal memory
  by (Err cause) is refused = subst (λ (r : Result Entities TableFault). IsRefusedWith r refusal) (sym (read_fault all left pair table cause was is)) refused

-- WHAT A READ TABLE IS

-- the entry that a key, a list and a text give
pub entry_is : (key text : List ℕ) (value : Data) (items : Items) (cs : List ℕ) → is_key key ≡ true → fields value ≡ Some (items, text)
    → codepoints items ≡ Some cs → text ≡ encode_utf8_all cs → entry_of_json key value ≡ Ok (record { key = key; stands_for = cs })
entry_is key text value items cs key-is has numbers is = rw (key-is, has, numbers, (bytes_eq-Decides text (encode_utf8_all cs)).1 is) refl

-- the texts of names in order are in order
texts_below : (k : String Global) (ks : List (String Global)) → AllByRecursion (λ y. string_cmp k y ≡ Less) ks
    → AllByRecursion (λ y. slice_cmp nat_cmp (string_bytes k) y ≡ Less) (map string_bytes ks)
texts_below k [] h = tt
texts_below k (x ∷ ks) h = (h.0, texts_below k ks h.1)

texts_sorted : (ks : List (String Global)) → IsStrictlySortedBy string_cmp ks → IsStrictlySortedBy (slice_cmp nat_cmp) (map string_bytes ks)
unfolding IsStrictlySortedBy
texts_sorted [] h = tt
texts_sorted (k ∷ ks) h = (texts_below k ks h.0, texts_sorted ks h.1)

some_characters : (cs : List ℕ) → is_one_or_two cs ≡ true → not (is_empty_list cs) ≡ true
some_characters [] is = absurd (true≢false (sym is))
some_characters (c ∷ cs) is = refl

-- what passes both tests, each, passes another one
all_both : {A : Type 0} (p q r : A → Bool) → ((x : A) → p x ≡ true → q x ≡ true → r x ≡ true) → (xs : List A) → list_all p xs ≡ true → list_all q xs ≡ true
    → list_all r xs ≡ true
all_both p q r both [] h k = refl
all_both p q r both (x ∷ xs) h k =
    and_from (r x) _ (both x (and_parts _ _ h).0 (and_parts _ _ k).0) (all_both p q r both xs (and_parts _ _ h).1 (and_parts _ _ k).1)

pub are_entries : (table : Entities) → IsReadable table → list_all is_table_entry table ≡ true
are_entries table readable = all_both (λ (e : Entry). is_key e.key) (λ (e : Entry). is_one_or_two e.stands_for) is_table_entry
    (λ e key ones. and_from _ _ key ones) table readable.sorted.is_table.keys readable.characters

pub readable_from : (table : Entities) → list_all is_table_entry table ≡ true → IsStrictlySortedBy (slice_cmp nat_cmp) (map (λ e. e.key) table)
    → IsReadable table
readable_from table entries sorted = record {
  characters = each (λ e. is_one_or_two e.stands_for) (λ e is. (and_parts (is_key e.key) _ is).1);
  sorted = record {
    sorted = sorted;
    is_table = record {
      keys = each (λ e. is_key e.key) (λ e is. (and_parts (is_key e.key) _ is).0);
      characters = each (λ e. not (is_empty_list e.stands_for)) (λ e is. some_characters e.stands_for (and_parts (is_key e.key) _ is).1);
      distinct = subst (λ (same : List ℕ → List ℕ → Bool). IsDistinct same (map (λ e. e.key) table)) (λ i k x. is_eq-slice_cmp k x i)
          (IsDistinct-from_sorted (slice_cmp nat_cmp) (map (λ e. e.key) table) sorted);
    };
  };
} where
  each : (test : Entry → Bool) → ((e : Entry) → is_table_entry e ≡ true → test e ≡ true) → list_all test table ≡ true
  each test from = all_both is_table_entry is_table_entry test (λ e is also. from e is) table entries entries

pub readable_table : (all : List Pair) (table : Entities) → IsStrictlySortedBy string_cmp (keys_of all) → HasReadMembers all [] table → IsReadable table
readable_table all table sorted read = readable_from table read.passing (subst (IsStrictlySortedBy (slice_cmp nat_cmp))
    (ap (λ (ps : List Pair). map string_bytes (keys_of ps)) (read.are ∙ append-nil read.done) ∙ sym read.keys) (texts_sorted (keys_of all) sorted))
