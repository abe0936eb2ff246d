-- Bytes that may still become a character, and bytes that no more can.
use Rattle.htext.proofs.Names.{encode_ascii, length-append, nil_from_length, ◌≡◌, ℕ, ◌<◌, ◌≤◌, ◌+◌, ◌-◌, ◌*◌, ◌/◌, ◌%◌, true, List, [], ◌∷◌, ◌++◌, length, take, drop, sym, refl, ap, ◌∙◌, arith, inl, inr, append_assoc, None, Some, is_in_range, nat_tests, cases_lt, lt-ltb, le-ltb, le-leb, leb-true, and_parts, take_at, take-append-drop, take-append-le, low_scalar, utf8_valid_len, utf8_error_len, second_byte_min, second_byte_max, IsScalar, encode_utf8, valid_len, BeginsCharacter, scalar_cases, Bool, false, eqb, list_all, Bom, Whole, read_as, Character, read_items, is_plain_byte, is_plain_character, is_clean, is_of_clean_bytes, is_clean_byte, is_text_byte}
use Rattle.htext.proofs.Valid.{starts_back, none_valid, tested, next_tests, is_by_bytes, test_passed, tested_short, error_bounds, error_more}

pub in_range : (low high c : ℕ) → low ≤ c → c ≤ high → is_in_range low high c ≡ true
in_range low high c a b = rw (le-leb low c a, le-leb c high b) refl

pub from_range : (low high c : ℕ) → is_in_range low high c ≡ true → (low ≤ c) × (c ≤ high)
from_range low high c h = let k = and_parts _ _ h in (leb-true low c k.0, leb-true c high k.1)

-- This byte may be second, after that first one (Unicode, table 3-7).
pub record MayFollow (first byte : ℕ) : Type 0 where
  pub least : 128 ≤ byte
  pub most : byte ≤ 191
  pub after_e0 : first ≡ 0xE0 → 0xA0 ≤ byte
  pub after_ed : first ≡ 0xED → byte ≤ 0x9F
  pub after_f0 : first ≡ 0xF0 → 0x90 ≤ byte
  pub after_f4 : first ≡ 0xF4 → byte ≤ 0x8F

pub follows_tested : (x y : ℕ) → MayFollow x y → is_in_range (second_byte_min x) (second_byte_max x) y ≡ true
follows_tested x y h = grind (arith, nat_tests, h.least, h.most, h.after_e0, h.after_ed, h.after_f0, h.after_f4)

pub tested_follows : (x y : ℕ) → is_in_range (second_byte_min x) (second_byte_max x) y ≡ true → MayFollow x y
tested_follows x y h = grind (arith, nat_tests)

-- FRONTS OF A CHARACTER

pub one_open : (x : ℕ) → 0xC2 ≤ x → x ≤ 0xF4 → utf8_error_len (x ∷ []) ≡ None
one_open x a b = is_by_bytes (x ∷ []) ∙ rw (in_range 0xC2 0xF4 x a b) refl

two_open : (x y : ℕ) → 0xC2 ≤ x → x ≤ 0xF4 → MayFollow x y → utf8_error_len (x ∷ y ∷ []) ≡ None
two_open x y a b h = is_by_bytes (x ∷ y ∷ []) ∙ rw (in_range 0xC2 0xF4 x a b, follows_tested x y h) refl

three_open : (x y z : ℕ) → 0xC2 ≤ x → x ≤ 0xF4 → MayFollow x y → 128 ≤ z → z ≤ 191 → utf8_error_len (x ∷ y ∷ z ∷ []) ≡ None
three_open x y z a b h d e = is_by_bytes (x ∷ y ∷ z ∷ []) ∙ rw (in_range 0xC2 0xF4 x a b, follows_tested x y h, in_range 0x80 0xBF z d e) refl

-- the bytes of a character of two, three and four bytes
pub two_bytes : (c : ℕ) → 128 ≤ c → c < 2048 → encode_utf8 c ≡ (192 + c / 64) ∷ (128 + c % 64) ∷ []
unfolding encode_utf8
two_bytes c a b = rw (le-ltb c 128 a, lt-ltb c 2048 b) refl

pub three_bytes : (c : ℕ) → 2048 ≤ c → c < 65536 → encode_utf8 c ≡ (224 + c / 4096) ∷ (128 + c / 64 % 64) ∷ (128 + c % 64) ∷ []
unfolding encode_utf8
three_bytes c a b = grind (arith, nat_tests)

pub four_bytes : (c : ℕ) → 65536 ≤ c → encode_utf8 c ≡ (240 + c / 262144) ∷ (128 + c / 4096 % 64) ∷ (128 + c / 64 % 64) ∷ (128 + c % 64) ∷ []
unfolding encode_utf8
four_bytes c a = grind (arith, nat_tests)

pub second_of_two : (c : ℕ) → 128 ≤ c → c < 2048 → MayFollow (192 + c / 64) (128 + c % 64)
second_of_two c a b = grind arith

pub second_of_three : (c : ℕ) → 2048 ≤ c → c < 65536 → IsScalar c → MayFollow (224 + c / 4096) (128 + c / 64 % 64)
second_of_three c a b s = elim (scalar_cases c s) [ inl low ↦ grind arith | inr high ↦ grind (arith, high.0) ]

pub second_of_four : (c : ℕ) → 65536 ≤ c → c < 1114112 → MayFollow (240 + c / 262144) (128 + c / 4096 % 64)
second_of_four c a b = grind arith

pub below_all : (c : ℕ) → IsScalar c → c < 1114112
below_all c s = elim (scalar_cases c s) [ inl low ↦ omega arith | inr high ↦ high.1 ]

-- the bytes of a character, by how many there are
pub data BytesOf (c : ℕ) : List ℕ → Type 0 where
  takes_one : c < 128 → BytesOf c (c ∷ [])
  takes_two : 128 ≤ c → c < 2048 → BytesOf c ((192 + c / 64) ∷ (128 + c % 64) ∷ [])
  takes_three : 2048 ≤ c → c < 65536 → BytesOf c ((224 + c / 4096) ∷ (128 + c / 64 % 64) ∷ (128 + c % 64) ∷ [])
  takes_four : 65536 ≤ c → BytesOf c ((240 + c / 262144) ∷ (128 + c / 4096 % 64) ∷ (128 + c / 64 % 64) ∷ (128 + c % 64) ∷ [])

pub bytes_of : (c : ℕ) → BytesOf c (encode_utf8 c)
bytes_of c = elim (cases_lt c 128) [
  | inl below ↦ rw (encode_ascii c below) (takes_one below)
  | inr more ↦ elim (cases_lt c 2048) [
    | inl below ↦ rw (two_bytes c more below) (takes_two more below)
    | inr many ↦ elim (cases_lt c 65536)
        [ inl below ↦ rw (three_bytes c many below) (takes_three many below) | inr most ↦ rw (four_bytes c most) (takes_four most) ]
  ]
]

abbrev IsOpenFront : List ℕ → Type 0
IsOpenFront bytes = (n : ℕ) → 0 < n → n < length bytes → utf8_error_len (take n bytes) ≡ None

-- each front of open bytes is open
open_before : (xs : List ℕ) (n : ℕ) → utf8_error_len xs ≡ None → utf8_error_len (take n xs) ≡ None
open_before xs n h = grind (arith, error_more (take n xs) (drop n xs), take-append-drop n xs)

open_but_last : (xs : List ℕ) (y : ℕ) → utf8_error_len xs ≡ None → IsOpenFront (xs ++ y ∷ [])
open_but_last xs y h n some short = ap utf8_error_len (take-append-le n xs (y ∷ []) (omega (arith, short, length-append xs (y ∷ [])))) ∙ open_before xs n h

-- each front of a character that is not all of it is open
fronts_open : (c : ℕ) (bytes : List ℕ) → IsScalar c → BytesOf c bytes → IsOpenFront bytes
fronts_open c _ s (takes_one a) = λ n some short. absurd (omega (arith, some, short))
fronts_open c _ s (takes_two a b) = open_but_last (_ ∷ []) _ (one_open _ (omega arith) (omega arith))
fronts_open c _ s (takes_three a b) = open_but_last (_ ∷ _ ∷ []) _ (two_open _ _ (omega arith) (omega arith) (second_of_three c a b s))
fronts_open c _ s (takes_four a) = let top : c < 1114112 = below_all c s in
    open_but_last (_ ∷ _ ∷ _ ∷ []) _ (three_open _ _ _ (omega arith) (omega arith) (second_of_four c a top) (omega arith) (omega arith))

-- what begins a character, and is not one or more, is open
pub front_of : (c : ℕ) (rest more r : List ℕ) → IsScalar c → rest ++ more ≡ encode_utf8 c ++ r → 0 < length rest → utf8_valid_len rest ≡ 0
    → utf8_error_len rest ≡ None
front_of c rest more r s e some none = elim (cases_lt (length rest) (length (encode_utf8 c))) [
  | inl less ↦ let front : rest ≡ take (length rest) (encode_utf8 c) = grind (arith, take_at rest more, take-append-le (length rest) (encode_utf8 c) r) in
      ap utf8_error_len front ∙ fronts_open c (encode_utf8 c) s (bytes_of c) (length rest) some less
  | inr le ↦ let k : ℕ = length (encode_utf8 c) in
      let whole : take k rest ≡ encode_utf8 c = grind (arith, take-append-le k rest more, take_at (encode_utf8 c) r) in
      absurd (omega (arith, starts_back rest (drop k rest) c s (grind (arith, take-append-drop k rest))))
]

-- COMPLETIONS

high_scalar : (c : ℕ) → 57344 ≤ c → c < 1114112 → IsScalar c
high_scalar c a b = grind (arith, nat_tests)

complete_two : (x y : ℕ) → 0xC2 ≤ x → x ≤ 0xDF → 128 ≤ y → y ≤ 191 → (c : ℕ) × IsScalar c × (encode_utf8 c ≡ x ∷ y ∷ [])
complete_two x y a b d e = let c : ℕ = (x - 192) * 64 + (y - 128) in (c, low_scalar c (omega arith), grind (arith, two_bytes c))

three_scalar : (x y z c : ℕ) → 0xE0 ≤ x → x ≤ 0xEF → MayFollow x y → 128 ≤ z → z ≤ 191 → c ≡ (x - 224) * 4096 + (y - 128) * 64 + (z - 128) → IsScalar c
three_scalar x y z c a b h d e is = grind (arith, nat_tests, h.least, h.most, h.after_ed)

three_least : (x y z c : ℕ) → 0xE0 ≤ x → MayFollow x y → c ≡ (x - 224) * 4096 + (y - 128) * 64 + (z - 128) → 2048 ≤ c
three_least x y z c a h is = grind (arith, h.after_e0)

complete_three : (x y z : ℕ) → 0xE0 ≤ x → x ≤ 0xEF → MayFollow x y → 128 ≤ z → z ≤ 191 → (c : ℕ) × IsScalar c × (encode_utf8 c ≡ x ∷ y ∷ z ∷ [])
complete_three x y z a b h d e = let c : ℕ = (x - 224) * 4096 + (y - 128) * 64 + (z - 128) in
    (c, three_scalar x y z c a b h d e refl, grind (arith, three_bytes c, three_least x y z c a h refl, h.least, h.most))

four_range : (x y z w c : ℕ) → 0xF0 ≤ x → x ≤ 0xF4 → MayFollow x y → z ≤ 191 → w ≤ 191 → c ≡ (x - 240) * 262144 + (y - 128) * 4096 + (z - 128) * 64 + (w - 128)
    → (65536 ≤ c) × (c < 1114112)
four_range x y z w c a b h d e is = (grind (arith, h.least, h.after_f0), grind (arith, h.most, h.after_f4))

complete_four : (x y z w : ℕ) → 0xF0 ≤ x → x ≤ 0xF4 → MayFollow x y → 128 ≤ z → z ≤ 191 → 128 ≤ w → w ≤ 191
    → (c : ℕ) × IsScalar c × (encode_utf8 c ≡ x ∷ y ∷ z ∷ w ∷ [])
complete_four x y z w a b h d e f g = let c : ℕ = (x - 240) * 262144 + (y - 128) * 4096 + (z - 128) * 64 + (w - 128) in
    let range = four_range x y z w c a b h e g refl in
    (c, high_scalar c (omega (arith, range.0)) range.1, grind (arith, four_bytes c range.0, h.least, h.most))

-- one, two and three bytes that are open
after_three : (x y z : ℕ) → 0xE0 ≤ x → x ≤ 0xF4 → MayFollow x y → 128 ≤ z → z ≤ 191 → BeginsCharacter (x ∷ y ∷ z ∷ [])
after_three x y z a b h d e = elim (cases_lt x 240) [
  | inl three ↦ let c = complete_three x y z a (omega arith) h d e in record { ch = c.0; more = []; scalar = c.1; is = sym c.2 }
  | inr four ↦ let c = complete_four x y z 128 four b h d e (omega arith) (omega arith) in record { ch = c.0; more = 128 ∷ []; scalar = c.1; is = sym c.2 }
]

with_more : (xs : List ℕ) (y : ℕ) → BeginsCharacter (xs ++ y ∷ []) → BeginsCharacter xs
with_more xs y h = record { ch = h.ch; more = y ∷ h.more; scalar = h.scalar; is = sym (append_assoc xs (y ∷ []) h.more) ∙ h.is }

after_two : (x y : ℕ) → 0xC2 ≤ x → x ≤ 0xF4 → MayFollow x y → BeginsCharacter (x ∷ y ∷ [])
after_two x y a b h = elim (cases_lt x 224) [
  | inl two ↦ let c = complete_two x y a (omega arith) h.least h.most in record { ch = c.0; more = []; scalar = c.1; is = sym c.2 }
  | inr more ↦ with_more (x ∷ y ∷ []) 128 (after_three x y 128 more b h (omega arith) (omega arith))
]

after_one : (x : ℕ) → 0xC2 ≤ x → x ≤ 0xF4 → BeginsCharacter (x ∷ [])
after_one x a b = with_more (x ∷ []) (second_byte_min x) (after_two x (second_byte_min x) a b (tested_follows x (second_byte_min x) (grind (arith, nat_tests))))

-- open bytes are three at most
pub open_short : (bytes : List ℕ) → utf8_error_len bytes ≡ None → length bytes ≤ 3
open_short [] h = omega arith
open_short (x ∷ xs) h = grind (arith, is_by_bytes (x ∷ xs), tested_short (next_tests x) 1 xs)

-- open bytes, if there are any, become a character with some more
completed_by : (x : ℕ) (xs : List ℕ) → 0xC2 ≤ x → x ≤ 0xF4 → utf8_valid_len (x ∷ xs) ≡ 0 → tested (next_tests x) 1 xs ≡ None → BeginsCharacter (x ∷ xs)
completed_by x [] a b none h = after_one x a b
completed_by x (y ∷ []) a b none h = after_two x y a b (tested_follows x y (test_passed (is_in_range (second_byte_min x) (second_byte_max x) y) _ 1 h).0)
completed_by x (y ∷ z ∷ zs) a b none h = let (second, on) = test_passed (is_in_range (second_byte_min x) (second_byte_max x) y) _ 1 h in
    let (third, last) = test_passed (is_in_range 0x80 0xBF z) _ 2 on in
    let s = tested_follows x y second in
    let u = from_range 0x80 0xBF z third in
    let nil : zs ≡ [] = nil_from_length zs (omega (arith, tested_short [] 3 zs last)) in
    rw nil (elim (cases_lt x 224) [
      | inl two ↦ let c = complete_two x y a (omega arith) s.least s.most in
          let begun : 0 < utf8_valid_len (x ∷ y ∷ z ∷ zs) = starts_back (x ∷ y ∷ z ∷ zs) (z ∷ zs) c.0 c.1 (ap (λ (xs : List ℕ). xs ++ z ∷ zs) (sym c.2)) in
          absurd (omega (arith, begun, none))
      | inr more ↦ after_three x y z more b s u.0 u.1
    ])

pub completed : (bytes : List ℕ) → 0 < length bytes → utf8_valid_len bytes ≡ 0 → utf8_error_len bytes ≡ None → BeginsCharacter bytes
completed [] some none open' = absurd (omega (arith, some))
completed (x ∷ xs) some none open' = let (first, on) = test_passed _ (tested (next_tests x) 1 xs) 1 (sym (is_by_bytes (x ∷ xs)) ∙ open') in
    let r = from_range 0xC2 0xF4 x first in
    completed_by x xs r.0 r.1 none on

-- WHATEVER COMES AFTER

-- no character begins in what stays without one, whatever comes after
pub none_after : (rest more : List ℕ) (k : ℕ) → utf8_valid_len rest ≡ 0 → utf8_error_len rest ≡ Some k → utf8_valid_len (rest ++ more) ≡ 0
none_after rest more k none fault = none_valid (rest ++ more) (λ c r s e. absurd (grind (arith, error_bounds rest k fault, front_of c rest more r s e)))

-- what begins with no character does so under a limit too
pub under_limit : (n : ℕ) (bytes : List ℕ) → utf8_valid_len bytes ≡ 0 → valid_len n bytes ≡ 0
under_limit n bytes none = none_valid (take n bytes) (λ c r s e. let rest = drop n bytes in absurd (grind
    (arith, take-append-drop n bytes, append_assoc (encode_utf8 c) r rest, starts_back bytes (r ++ rest) c s)))

-- Plain and clean characters, and the bytes of characters in UTF-8.

-- a plain byte is ASCII, and a plain character
pub plain_small : (x : ℕ) → is_plain_byte x ≡ true → x < 127
plain_small x h = grind (arith, nat_tests)

pub plain_of_text : (c : ℕ) → is_clean c ≡ true → is_text_byte c ≡ true → is_plain_character c ≡ true
plain_of_text c h m = grind (arith, nat_tests)

-- IN A TEXT

pub no_return : (x : ℕ) → is_clean x ≡ true → eqb x 13 ≡ false
no_return x h = grind (arith, nat_tests)

pub as_it_came : (bom : Bom) (x at : ℕ) → is_clean x ≡ true → read_as bom false (record { ch = x; at = at }) ≡ record { ch = x; at = at } ∷ []
as_it_came bom x at h = grind (arith, nat_tests)

pub item_alone : (x at : ℕ) → is_clean x ≡ true → read_items (Whole (record { ch = x; at = at })) ≡ Character (record { ch = x; at = at }) ∷ []
item_alone x at h = let rest : (x < 0xF000 → x % 0x10000 < 0xF000) = λ h. omega arith in grind (arith, nat_tests, rest)

-- IN UTF-8

pub of_clean_bytes : (c : ℕ) → is_of_clean_bytes c ≡ true → is_clean c ≡ true
of_clean_bytes c h = let rest : (c < 0xF000 → c % 0x10000 < 0xF000) = λ h. omega arith in grind (arith, nat_tests, rest)

high : (c : ℕ) → 128 ≤ c → is_of_clean_bytes c ≡ true → (192 ≤ c) × (c ≤ 0xEFFF)
high c l h = (grind (arith, nat_tests), grind (arith, nat_tests))

-- the bytes of such a character are clean
pub clean_bytes : (c : ℕ) (bytes : List ℕ) → is_of_clean_bytes c ≡ true → BytesOf c bytes → list_all is_clean_byte bytes ≡ true
clean_bytes c _ h (takes_one a) = grind (arith, nat_tests)
clean_bytes c _ h (takes_two a b) = grind (arith, nat_tests)
clean_bytes c _ h (takes_three a b) = let is = high c (omega arith) h in grind (arith, nat_tests, is.1)
clean_bytes c _ h (takes_four a) = absurd (omega (arith, high c (omega arith) h))

-- the first byte of another one is not
abbrev pub BeginsOutside : (ℕ → Bool) → List ℕ → Type 0
BeginsOutside test bytes = (b : ℕ) × (bs : List ℕ) × (bytes ≡ b ∷ bs) × (test b ≡ false)

pub other_bytes : (c : ℕ) (bytes : List ℕ) → is_of_clean_bytes c ≡ false → BytesOf c bytes → BeginsOutside is_clean_byte bytes
other_bytes c _ h (takes_one a) = (_, _, refl, grind (arith, nat_tests))
other_bytes c _ h (takes_two a b) = (_, _, refl, grind (arith, nat_tests))
other_bytes c _ h (takes_three a b) = (_, _, refl, grind (arith, nat_tests))
other_bytes c _ h (takes_four a) = (_, _, refl, grind (arith, nat_tests))

-- the bytes of a character that is not in ASCII are not either
module _ (test : ℕ → Bool) (passes : (b : ℕ) → 128 ≤ b → test b ≡ true) where
  next_passes : (n : ℕ) → test (128 + n % 64) ≡ true
  next_passes n = passes (128 + n % 64) (omega arith)

  pub long_bytes : (c : ℕ) (bytes : List ℕ) → 128 ≤ c → BytesOf c bytes → list_all test bytes ≡ true
  long_bytes c _ l (takes_one a) = absurd (omega (arith, l, a))
  long_bytes c _ l (takes_two a b) = rw (passes (192 + c / 64) (omega arith), next_passes c) refl
  long_bytes c _ l (takes_three a b) = rw (passes (224 + c / 4096) (omega arith), next_passes (c / 64), next_passes c) refl
  long_bytes c _ l (takes_four a) = rw (passes (240 + c / 262144) (omega arith), next_passes (c / 4096), next_passes (c / 64), next_passes c) refl

-- the first byte of a character is no other byte of one
abbrev pub BeginsAnew : List ℕ → Type 0
BeginsAnew bytes = (b : ℕ) × (bs : List ℕ) × (bytes ≡ b ∷ bs) × (128 ≤ b → 192 ≤ b)

pub begins_anew : (c : ℕ) (bytes : List ℕ) → BytesOf c bytes → BeginsAnew bytes
begins_anew c _ (takes_one a) = (_, _, refl, λ l. absurd (omega (arith, l, a)))
begins_anew c _ (takes_two a b) = (_, _, refl, λ l. omega arith)
begins_anew c _ (takes_three a b) = (_, _, refl, λ l. omega arith)
begins_anew c _ (takes_four a) = (_, _, refl, λ l. omega arith)
