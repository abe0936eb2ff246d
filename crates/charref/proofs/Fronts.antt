-- The names and keys that bytes begin with.
use Rattle.charref.proofs.Names.{arith, ◌≡◌, inl, inr, ℕ, suc, ◌+◌, ◌-◌, ◌≤◌, ◌<◌, Bool, true, false, true≢false, nat_eq, ◌==◌, ◌||◌, ◌&&◌, cond, bytes_eq, codes, List, [], ◌∷◌, ◌++◌, length, take, drop, slice_get, get_or, Some, slice_get-get_or, refl, sym, ◌∙◌, subst, and_parts, and_from, nat_tests, append-nil, take_rest, ap, list_all, is_alphanumeric, is_key, is_key_name, is_empty_list, ends_key, IsOnlyKey, HasNoKey, or-true, prefix_len, ◌≢◌, drop-cons, cases_lt, drop_all, take_all, list_all_more}
use Rattle.charref.proofs.Naming.{follows, ends, closes, continues}

-- a run, byte by byte
pub run_more : (test : ℕ → Bool) (bytes : List ℕ) (n : ℕ) → n < length bytes → list_all test (take n bytes) ≡ true → test (get_or bytes n 0) ≡ true
    → list_all test (take (n + 1) bytes) ≡ true
run_more test bytes n less run one = list_all_more test bytes n 0 less ∙ and_from _ _ run one

-- a byte that was read
pub byte_at : (bytes : List ℕ) (n b : ℕ) → n < length bytes → b ≡ get_or bytes n 0 → slice_get bytes n ≡ Some b
byte_at bytes n b l is = slice_get-get_or bytes n 0 l ∙ ap (λ (x : ℕ). Some x) (sym is)

-- how many bytes a name at the front has: its letters and digits, and a `;`
abbrev pub closing : List ℕ → ℕ
closing [] = 0
closing (c ∷ cs) = cond (c == 59) 1 0

abbrev pub name_size : List ℕ → ℕ
name_size [] = 0
name_size (c ∷ cs) = cond (is_alphanumeric c) (suc (name_size cs)) (closing (c ∷ cs))

pub size_is : (bytes : List ℕ) → name_size bytes ≡ prefix_len is_alphanumeric bytes + closing (drop (prefix_len is_alphanumeric bytes) bytes)
size_is [] = refl
size_is (c ∷ cs) = by (is_alphanumeric c) (size_is cs) where
  by : (b : Bool) → name_size cs ≡ prefix_len is_alphanumeric cs + closing (drop (prefix_len is_alphanumeric cs) cs) → cond b (suc (name_size cs))
      (closing (c ∷ cs)) ≡ cond b (1 + prefix_len is_alphanumeric cs) 0 + closing (drop (cond b (1 + prefix_len is_alphanumeric cs) 0) (c ∷ cs))
  by true more = let next : 1 + prefix_len is_alphanumeric cs ≡ suc (prefix_len is_alphanumeric cs) = omega arith in rw next (omega (arith, more))
  by false more = omega arith

size_within : (bytes : List ℕ) → name_size bytes ≤ length bytes
size_within [] = omega arith
size_within (c ∷ cs) = by (is_alphanumeric c) (c == 59) (size_within cs) where
  by : (a b : Bool) → name_size cs ≤ length cs → cond a (suc (name_size cs)) (cond b 1 0) ≤ suc (length cs)
  by true b more = omega (arith, more)
  by false true more = omega arith
  by false false more = omega arith

-- what may follow a character of a name
abbrev goes_on : List ℕ → Bool
goes_on xs = is_empty_list xs || bytes_eq xs (codes ";") || is_key_name xs

-- they are a name, where there is a letter or digit
may_follow : (bytes : List ℕ) → goes_on (take (name_size bytes) bytes) ≡ true
may_follow [] = refl
may_follow (c ∷ cs) = by (is_alphanumeric c) (c == 59) refl refl (may_follow cs) where
  by : (a b : Bool) → is_alphanumeric c ≡ a → (c == 59) ≡ b → goes_on (take (name_size cs) cs) ≡ true
      → goes_on (take (cond a (suc (name_size cs)) (cond b 1 0)) (c ∷ cs)) ≡ true
  by true b letter close more = ap (λ x. bytes_eq (c ∷ take (name_size cs) cs) (codes ";") || x) (and_from (is_alphanumeric c) _ letter more) ∙ or-true _
  by false true letter close more = ap (λ x. (x && true) || is_key_name (c ∷ [])) close
  by false false letter close more = refl

is_name : (bytes : List ℕ) → 0 < prefix_len is_alphanumeric bytes → is_key_name (take (name_size bytes) bytes) ≡ true
is_name [] some = absurd (omega (arith, some))
is_name (c ∷ cs) some = by (is_alphanumeric c) refl some where
  by : (b : Bool) → is_alphanumeric c ≡ b → 0 < cond b (1 + prefix_len is_alphanumeric cs) 0
      → is_key_name (take (cond b (suc (name_size cs)) (closing (c ∷ cs))) (c ∷ cs)) ≡ true
  by true letter some = and_from (is_alphanumeric c) _ letter (may_follow cs)
  by false letter some = absurd (omega (arith, some))

-- and no other name is one that the bytes end after, or a count
no_more : (rest : List ℕ) → ends_key rest ≡ true → name_size rest ≡ 0
no_more [] end = refl
no_more (c ∷ cs) end = let letter : is_alphanumeric c ≡ false = grind (arith, nat_tests) in let close : (c == 59) ≡ false = grind (arith, nat_tests) in
    rw (letter, close) refl

only_name : (name rest : List ℕ) → is_key_name name ≡ true → ends_key rest ≡ true → name_size (name ++ rest) ≡ length name
only_name [] rest is end = absurd (true≢false (sym is))
only_name (c ∷ cs) rest is end = let letter : is_alphanumeric c ≡ true = (and_parts (is_alphanumeric c) _ is).0 in
    let others : name_size (cs ++ rest) ≡ length cs = elim (follows cs (and_parts (is_alphanumeric c) _ is).1)
    [ ends none ↦ rw none (no_more rest end) | closes one ↦ rw one refl | continues more ↦ only_name cs rest more end ] in
    rw letter (ap suc others)

-- KEYS

pub key_length : (key rest : List ℕ) → is_key key ≡ true → ends_key rest ≡ true → length key ≡ suc (name_size (drop 1 (key ++ rest)))
key_length [] rest is end = absurd (true≢false (sym is))
key_length (c ∷ cs) rest is end = ap suc (sym (only_name cs rest (and_parts _ _ is).1 end))

only_key : (bytes : List ℕ) → 1 ≤ length bytes → get_or bytes 0 0 ≡ 38 → 0 < prefix_len is_alphanumeric (drop 1 bytes)
    → IsOnlyKey bytes (suc (name_size (drop 1 bytes)))
only_key [] some first letter = absurd (omega (arith, some))
only_key (b ∷ bs) some first letter = record {
  within = omega (arith, size_within bs);
  passing = and_from (b == 38) _ (grind (arith, nat_tests, first)) (is_name bs letter);
  only = λ key rest key-is end same. key_length key rest key-is end ∙ ap (λ bs. suc (name_size (drop 1 bs))) (sym same);
}

-- by the run of letters and digits after the first byte
pub found_key : (bytes : List ℕ) (n size more : ℕ) → 1 ≤ length bytes → get_or bytes 0 0 ≡ 38
    → n ≡ prefix_len is_alphanumeric (take (length bytes - 1) (drop 1 bytes)) → n ≢ 0 → closing (drop n (take (length bytes - 1) (drop 1 bytes))) ≡ more
    → size ≡ n + 1 + more → IsOnlyKey bytes size
found_key bytes n size more some first run letter close is = let name = drop 1 bytes in let run' = run ∙ ap (prefix_len is_alphanumeric) (take_rest bytes 1) in
    let close' : closing (drop n name) ≡ more = ap (λ xs. closing (drop n xs)) (sym (take_rest bytes 1)) ∙ close in
    let whole : name_size name ≡ n + closing (drop n name) = size_is name ∙ ap (λ m. m + closing (drop m name)) (sym run') in
    let same : suc (name_size name) ≡ size = omega arith in
    subst (IsOnlyKey bytes) same (only_key bytes some first (omega arith))

pub closed : (bytes : List ℕ) (n : ℕ) → n < length bytes → get_or bytes n 0 ≡ 59 → closing (drop n bytes) ≡ 1
closed bytes n less is = ap closing (drop-cons bytes n 0 less) ∙ ap (λ c. cond (c == 59) 1 0) is

pub open_end : (bytes : List ℕ) (n : ℕ) → (n < length bytes → get_or bytes n 0 ≢ 59) → closing (drop n bytes) ≡ 0
open_end bytes n other = elim (cases_lt n (length bytes)) [
  | inl less ↦
      (let test : (get_or bytes n 0 == 59) ≡ false = grind (arith, nat_tests, other less) in ap closing (drop-cons bytes n 0 less) ∙ ap (λ b. cond b 1 0) test)
  | inr past ↦ ap closing (drop_all n bytes past)
]

-- whether all the bytes are a key
pub whole_key : (key : List ℕ) (size : ℕ) → IsOnlyKey key size → nat_eq size (length key) ≡ is_key key
whole_key key size only = by (is_key key) refl where
  by : (b : Bool) → is_key key ≡ b → nat_eq size (length key) ≡ b
  by true is = let same : length key ≡ size = only.only key [] is refl (sym (append-nil key)) in grind (arith, nat_tests, same)
  by false is = let other : size ≡ length key → ⊥ = λ same. true≢false (sym only.passing ∙ ap is_key (take_all size key (omega (arith, same))) ∙ is) in
      grind (arith, nat_tests, other)

pub none_whole : (key : List ℕ) → HasNoKey key → false ≡ is_key key
none_whole key none = by (is_key key) refl where
  by : (b : Bool) → is_key key ≡ b → false ≡ b
  by true is = absurd (none key [] is refl (sym (append-nil key)))
  by false is = refl
