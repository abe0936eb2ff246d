-- A flat form is of one table only.
use Rattle.charref.proofs.Names.{arith, ◌≡◌, ℕ, ◌≤◌, ◌<◌, true, not, ◌&&◌, ◌||◌, nat_le, nat_eq, ◌==◌, List, [], ◌∷◌, ◌++◌, length, Result, Ok, Err, inl, inr, refl, sym, ap, ◌∙◌, subst, append_assoc, and_parts, nat_tests, append-nil, list_all, flat_map, Refusal, TableFault, Entry, Entities, is_key, is_character, IsRefusedWith, is_one_or_two, flat_character, flat_characters, flat_entry, flat_of, IsReadable, is_count, ends_key, is_table_entry, BeginsWith, drop, take, suc, numbers_in, characters_in, ◌^◌, IfOk, IfErr, from_le_bytes-to_le_bytes_4, flat_map-append, w32, from_le_bytes, IsRefusedFlat, drop-append_seam, take-append_seam}
use Rattle.charref.proofs.Fronts.{name_size, key_length}
use Rattle.charref.proofs.Members.{are_entries}

-- CHARACTERS

small : (c : ℕ) → is_character c ≡ true → c < 2 ^ 32
small c is = let most : nat_le c 0x10FFFF ≡ true = (and_parts (not (c == 0)) (nat_le c 0x10FFFF) (and_parts (not (c == 0) && nat_le c 0x10FFFF) _ is).0).1 in
    let le : c ≤ 0x10FFFF = grind (arith, nat_tests) in
    omega arith

-- what four bytes each are read as
decoded : (cs rest : List ℕ) → list_all is_character cs ≡ true → numbers_in (length cs) (flat_map flat_character cs ++ rest) ≡ cs
decoded [] rest is = refl
decoded (c ∷ cs) rest is = let first : from_le_bytes w32 (flat_character c) ≡ c = from_le_bytes-to_le_bytes_4 c (small c (and_parts (is_character c) _ is).0) in
    let others : numbers_in (length cs) (flat_map flat_character cs ++ rest) ≡ cs = decoded cs rest (and_parts (is_character c) _ is).1 in
    ((λ i. first i ∷ others i))

same_characters : (cs ds r s : List ℕ) → list_all is_character cs ≡ true → list_all is_character ds ≡ true → length cs ≡ length ds
    → flat_map flat_character cs ++ r ≡ flat_map flat_character ds ++ s → (cs ≡ ds) × (r ≡ s)
same_characters cs ds r s p q size is = let same : cs ≡ ds = sym (decoded cs r p) ∙ (λ i. numbers_in (size i) (is i)) ∙ decoded ds s q in (
  same,
  sym (drop-append_seam (flat_map flat_character cs) r) ∙ (λ i. drop (length (flat_map flat_character (same i))) (is i))
      ∙ drop-append_seam (flat_map flat_character ds) s,
)

pub read_characters : (cs bytes : List ℕ) (n : ℕ) → is_one_or_two cs ≡ true → BeginsWith (flat_characters cs) bytes n → characters_in bytes ≡ cs
read_characters cs bytes n is begins = ap characters_in begins.is ∙ decoded cs (drop n bytes) (and_parts _ (list_all is_character cs) is).1

pub counted : (cs : List ℕ) → is_one_or_two cs ≡ true → is_count (length cs) ≡ true
counted cs is = let few : (nat_eq (length cs) 1 || nat_eq (length cs) 2) ≡ true = (and_parts _ (list_all is_character cs) is).0 in grind (arith, nat_tests)

pub few : (cs : List ℕ) → is_one_or_two cs ≡ true → length cs ≤ 2
few cs is = let test : is_count (length cs) ≡ true = counted cs is in grind (arith, nat_tests)

-- ENTRIES

-- the bytes after the key of an entry
pub count_follows : (e : Entry) (r : List ℕ) → is_table_entry e ≡ true → ends_key (flat_characters e.stands_for ++ r) ≡ true
count_follows e r is = counted e.stands_for (and_parts (is_key e.key) _ is).1

pub same_entries : (e f : Entry) (r s : List ℕ) → is_table_entry e ≡ true → is_table_entry f ≡ true → flat_entry e ++ r ≡ flat_entry f ++ s → (e ≡ f) × (r ≡ s)
same_entries e f r s p q is = let e-ones : is_one_or_two e.stands_for ≡ true = (and_parts (is_key e.key) _ p).1 in
    let f-ones : is_one_or_two f.stands_for ≡ true = (and_parts (is_key f.key) _ q).1 in
    let both : e.key ++ (flat_characters e.stands_for ++ r) ≡ f.key ++ (flat_characters f.stands_for ++ s) =
    sym (append_assoc e.key (flat_characters e.stands_for) r) ∙ is ∙ append_assoc f.key (flat_characters f.stands_for) s in
    let sizes : length e.key ≡ length f.key = key_length e.key _ (and_parts (is_key e.key) _ p).0 (count_follows e r p)
    ∙ ap (λ bs. suc (name_size (drop 1 bs))) both ∙ sym (key_length f.key _ (and_parts (is_key f.key) _ q).0 (count_follows f s q)) in
    let keys : e.key ≡ f.key = sym (take-append_seam e.key _) ∙ ap (λ n. take n (e.key ++ (flat_characters e.stands_for ++ r))) sizes
    ∙ ap (take (length f.key)) both ∙ take-append_seam f.key _ in
    let lists : length e.stands_for ∷ (flat_map flat_character e.stands_for ++ r) ≡ length f.stands_for ∷ (flat_map flat_character f.stands_for ++ s) =
    sym (drop-append_seam e.key _) ∙ ap (λ n. drop n (e.key ++ (flat_characters e.stands_for ++ r))) sizes ∙ ap (drop (length f.key)) both
    ∙ drop-append_seam f.key _ in
    let size : length e.stands_for ≡ length f.stands_for = cc in
    let rest : flat_map flat_character e.stands_for ++ r ≡ flat_map flat_character f.stands_for ++ s = cc in
    let chars : (e.stands_for ≡ f.stands_for) × (r ≡ s) =
    same_characters e.stands_for f.stands_for r s (and_parts _ _ e-ones).1 (and_parts _ _ f-ones).1 size rest in
    ((λ i. record { key = keys i; stands_for = chars.0 i }), chars.1)

-- TABLES

some_bytes : (e : Entry) (r : List ℕ) → is_table_entry e ≡ true → [] ≡ flat_entry e ++ r → ⊥
some_bytes e r is none = by e.key (none ∙ append_assoc e.key (flat_characters e.stands_for) r) where
  by : (key : List ℕ) → [] ≡ key ++ (flat_characters e.stands_for ++ r) → ⊥
  by [] is = cc
  by (c ∷ cs) is = cc

-- the entries after those whose flat form is the front
pub record Rest (done whole : Entities) (rest : List ℕ) : Type 0 where
  pub more : Entities
  pub is : whole ≡ done ++ more
  pub flat : flat_map flat_entry more ≡ rest
  pub entries : list_all is_table_entry more ≡ true

pub rest_of : (done whole : Entities) (rest : List ℕ) → list_all is_table_entry done ≡ true → list_all is_table_entry whole ≡ true
    → flat_map flat_entry whole ≡ flat_map flat_entry done ++ rest → Rest done whole rest
rest_of [] whole rest p q is = record { more = whole; is = refl; flat = is; entries = q }
rest_of (e ∷ es) [] rest p q is =
    absurd (some_bytes e (flat_map flat_entry es ++ rest) (and_parts _ _ p).0 (is ∙ append_assoc (flat_entry e) (flat_map flat_entry es) rest))
rest_of (e ∷ es) (f ∷ fs) rest p q is =
    let both : (f ≡ e) × (flat_map flat_entry fs ≡ flat_map flat_entry es ++ rest) = same_entries f e (flat_map flat_entry fs) (flat_map flat_entry es ++ rest)
    (and_parts _ _ q).0 (and_parts _ _ p).0 (is ∙ append_assoc (flat_entry e) (flat_map flat_entry es) rest) in
    let later : Rest es fs rest = rest_of es fs rest (and_parts _ _ p).1 (and_parts _ _ q).1 both.1 in
    record { more = later.more; is = (λ i. both.0 i ∷ later.is i); flat = later.flat; entries = later.entries }

pub no_more : (more : Entities) → list_all is_table_entry more ≡ true → flat_map flat_entry more ≡ [] → more ≡ []
no_more [] p is = refl
no_more (e ∷ es) p is = absurd (some_bytes e (flat_map flat_entry es) (and_parts _ _ p).0 (sym is))

pub tail_of : (x : ℕ) (xs ys : List ℕ) → x ∷ xs ≡ x ∷ ys → xs ≡ ys
tail_of x xs ys is = cc

pub one_table : (a b : Entities) → IsReadable a → IsReadable b → flat_of a ≡ flat_of b → a ≡ b
one_table a b p q is =
    let rest : Rest b a [] = rest_of b a [] (are_entries b q) (are_entries a p) (tail_of 1 _ _ is ∙ sym (append-nil (flat_map flat_entry b))) in
    rest.is ∙ ap (λ more. b ++ more) (no_more rest.more rest.entries rest.flat) ∙ append-nil b

-- one entry more
pub flat_more : (table : Entities) (e : Entry) → flat_of table ++ flat_entry e ≡ flat_of (table ++ e ∷ [])
flat_more table e = ap (λ bs. 1 ∷ bs) (sym (flat_map-append flat_entry table (e ∷ []) ∙ ap (λ bs. flat_map flat_entry table ++ bs) (append-nil (flat_entry e))))

-- what is read of the flat form of a table
pub reads_table : (table : Entities) (bytes : List ℕ) (r : Result Entities Refusal) → IsReadable table → flat_of table ≡ bytes → IfOk r IsReadable
    → IfOk r (λ t. flat_of t ≡ bytes) → IfOk r (λ t. t ≡ table)
reads_table table bytes (Ok t) readable is found flat = one_table t table found readable (flat ∙ sym is)
reads_table table bytes (Err e) readable is found flat = tt

pub reads_parsed : {E : Type 0} (parsed : Result Entities E) (table : Entities) (bytes : List ℕ) (r : Result Entities Refusal) → parsed ≡ Ok table
    → IsReadable table → flat_of table ≡ bytes → IfOk r IsReadable → IfOk r (λ t. flat_of t ≡ bytes) → IfOk r (λ t. parsed ≡ Ok t)
reads_parsed parsed table bytes (Ok t) known readable is found flat = known ∙ ap Ok (sym (one_table t table found readable (flat ∙ sym is)))
reads_parsed parsed table bytes (Err e) known readable is found flat = tt

pub refuses_parsed : (parsed : Result Entities TableFault) (table : Entities) (bytes : List ℕ) (r : Result Entities Refusal) → parsed ≡ Ok table
    → IsReadable table → flat_of table ≡ bytes → IfErr r (IsRefusedFlat bytes) → IfErr r (IsRefusedWith parsed)
refuses_parsed parsed table bytes (Ok t) known readable is refused = tt
refuses_parsed parsed table bytes (Err e) known readable is refused = elim refused
    [ inl memory ↦ subst (λ p. IsRefusedWith p e) (sym known) memory | inr none ↦ absurd (none.1 table readable is) ]
