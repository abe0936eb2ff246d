-- Bytes that are bad parts by themselves.
use Rattle.htext.proofs.Names.{nat_tests, ◌≡◌, ℕ, zero, suc, ◌<◌, ◌≤◌, ◌+◌, Bool, true, false, List, [], ◌∷◌, ◌++◌, length, drop, refl, arith, Some, ◌↔◌, is_in_range, drop-drop, encode_ascii, low_scalar, utf8_error_len, second_byte_min, second_byte_max, IsScalar, encode_utf8, BeginsNoCharacter, AreBad, IsBadAlone, slice_index_or, IsTrue}
use Rattle.std.specs.Prelude.{not}
use Rattle.htext.proofs.Valid.{starts_back, none_valid, error_first, error_second, error_follows}
use Rattle.htext.proofs.Beginnings.{MayFollow, follows_tested, BytesOf, takes_one, takes_two, takes_three, takes_four, bytes_of, second_of_two, second_of_three, second_of_four, below_all, in_range, one_open}
use Rattle.htext.proofs.Fronts.{settled_bad, undecided_bad}

none_begins : (x : ℕ) (xs : List ℕ) → 128 ≤ x → utf8_error_len (x ∷ xs) ≡ Some 1 → BeginsNoCharacter (x ∷ xs)
none_begins x xs high bad = λ c r s e. by c (encode_utf8 c) r s e (bytes_of c) where
  -- the second byte of a character of more than one may follow the first
  follows : (y z : ℕ) (ys : List ℕ) → x ∷ xs ≡ y ∷ z ∷ ys → 0xC2 ≤ y → y ≤ 0xF4 → MayFollow y z → ⊥
  follows y z ys e low most may = grind (arith, error_follows y z ys 1 (in_range 0xC2 0xF4 y low most) (follows_tested y z may))

  by : (c : ℕ) (bytes r : List ℕ) → IsScalar c → x ∷ xs ≡ bytes ++ r → BytesOf c bytes → ⊥
  by c _ r s e (takes_one a) = grind arith
  by c _ r s e (takes_two a b) = follows _ _ r e (omega arith) (omega arith) (second_of_two c a b)
  by c _ r s e (takes_three a b) = follows _ _ _ e (omega arith) (omega arith) (second_of_three c a b s)
  by c _ r s e (takes_four a) = let top : c < 1114112 = below_all c s in follows _ _ _ e (omega arith) (omega arith) (second_of_four c a top)

alone : (x : ℕ) (xs : List ℕ) → 128 ≤ x → utf8_error_len (x ∷ xs) ≡ Some 1 → IsBadAlone (x ∷ xs)
alone x xs high bad = settled_bad false (x ∷ xs) 1 (none_valid (x ∷ xs) (none_begins x xs high bad)) bad

-- no character begins with it
pub alone_first : (bytes : List ℕ) (b : ℕ) → 0 < length bytes → b ≡ slice_index_or bytes 0 0 → 128 ≤ b → (0xC2 ≤ b → b ≤ 0xF4 → ⊥) → IsBadAlone bytes
alone_first [] b some is high out = absurd (omega (arith, some))
alone_first (x ∷ xs) b some is high out = alone x xs (omega (arith, is, high)) (error_first x xs (grind (arith, nat_tests, out)))

-- a character of one byte is none
pub not_ascii : (bytes : List ℕ) (b : ℕ) → 0 < length bytes → b ≡ slice_index_or bytes 0 0 → b < 128 → IsBadAlone bytes → ⊥
not_ascii [] b some is low h = omega (arith, some)
not_ascii (x ∷ xs) b some is low h = grind (arith, is, low, encode_ascii x, starts_back (x ∷ xs) xs x (low_scalar x (omega arith)), undecided_bad (x ∷ xs) 1 h)

-- A byte that begins a character is a bad part where the next can't follow it. The last of the bytes is none yet.
pub not_last : (bytes : List ℕ) (b : ℕ) → 0 < length bytes → length bytes ≤ 1 → b ≡ slice_index_or bytes 0 0 → 0xC2 ≤ b → b ≤ 0xF4 → IsBadAlone bytes → ⊥
not_last (x ∷ []) b some one is low most h = grind (arith, one_open x (omega (arith, is, low)) (omega (arith, is, most)), undecided_bad (x ∷ []) 1 h)
not_last _ b some one is low most h = absurd (omega (arith, some, one))

by_second : (t : Bool) (x y : ℕ) (ys : List ℕ) → 0xC2 ≤ x → x ≤ 0xF4 → is_in_range (second_byte_min x) (second_byte_max x) y ≡ t
    → IsTrue (not t) ↔ IsBadAlone (x ∷ y ∷ ys)
by_second true x y ys low most e =
    (λ never. absurd cc, λ h. grind (arith, error_follows x y ys 1 (in_range 0xC2 0xF4 x low most) e, undecided_bad (x ∷ y ∷ ys) 1 h))
by_second false x y ys low most e = (λ _. alone x (y ∷ ys) (omega (arith, low)) (error_second x y ys e), λ _. refl)

pub by_next : (bytes : List ℕ) (b y : ℕ) (t : Bool) → 1 < length bytes → b ≡ slice_index_or bytes 0 0 → y ≡ slice_index_or bytes 1 0 → 0xC2 ≤ b → b ≤ 0xF4
    → t ≡ is_in_range (second_byte_min b) (second_byte_max b) y → IsTrue (not t) ↔ IsBadAlone bytes
by_next (x ∷ z ∷ zs) b y t some is next low most e = by_second t x z zs (omega (arith, is, low)) (omega (arith, is, most)) (grind (arith, e, is, next))
by_next _ b y t some is next low most e = absurd (omega (arith, some))

-- one more of them
pub are_bad_more : (n : ℕ) (bytes : List ℕ) → AreBad n bytes → IsBadAlone (drop n bytes) → AreBad (n + 1) bytes
are_bad_more zero bytes are is = (is, tt)
are_bad_more (suc n) bytes are is = grind (arith, are_bad_more n (drop 1 bytes), drop-drop n 1 bytes)
