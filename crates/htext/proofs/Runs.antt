-- Runs of plain bytes, each a character.
use Rattle.htext.proofs.Names.{nat_tests, zero, ◌≡◌, ℕ, ◌<◌, ◌+◌, ◌-◌, suc, Bool, true, List, [], ◌∷◌, ◌++◌, length, take, drop, refl, ap, ◌∙◌, arith, encode_utf8_all, list_all, prefix_len, take-append-drop, list_all-append, and_parts, chars, IsUtf8, len_utf8, placed, is_plain_byte, slice_range, chars-IsAscii, encodes-IsAscii, IsAscii, all}
use Rattle.htext.proofs.Parts.{placed-append as placed_text}
use Rattle.htext.proofs.Beginnings.{plain_small}
-- under the name by which the crates above cite it
pub use Rattle.std.proofs.Math.Seq.{take-add as take_more}

-- the bytes and the characters of a run
plain_ascii : (xs : List ℕ) → list_all is_plain_byte xs ≡ true → IsAscii xs
plain_ascii [] h i = omega arith
plain_ascii (x ∷ xs) h zero = let small : x < 127 = plain_small x (and_parts _ _ h).0 in omega arith
plain_ascii (x ∷ xs) h (suc i) = plain_ascii xs (and_parts _ _ h).1 i

pub plain_chars : (xs : List ℕ) → list_all is_plain_byte xs ≡ true → IsUtf8 xs → chars xs ≡ xs
plain_chars xs h u = chars-IsAscii xs (plain_ascii xs h)

pub plain_bytes : (xs : List ℕ) → list_all is_plain_byte xs ≡ true → encode_utf8_all xs ≡ xs
plain_bytes xs h = encodes-IsAscii xs (plain_ascii xs h)

-- what is counted passes
pub counted : (test : ℕ → Bool) (xs : List ℕ) → list_all test (take (prefix_len test xs) xs) ≡ true
counted test [] = refl
counted test (x ∷ xs) = let next : 1 + prefix_len test xs ≡ suc (prefix_len test xs) = omega arith in grind (arith, nat_tests, counted test xs, next)

-- the front of a slice
pub front_of : (n : ℕ) (xs : List ℕ) → slice_range xs 0 n ≡ take n xs
front_of n xs = let all : n - 0 ≡ n = omega arith in ap (λ (k : ℕ). take k xs) all

-- a run as placed characters
pub all_placed : (test : ℕ → Bool) (at : ℕ) (run : List ℕ) → list_all test run ≡ true → all test (placed at run) ≡ true
all_placed test at [] h = refl
all_placed test at (x ∷ xs) h = grind (arith, all_placed test (at + len_utf8 x) xs)

pub placed-append : (at : ℕ) (xs ys : List ℕ) → list_all is_plain_byte xs ≡ true → placed at (xs ++ ys) ≡ placed at xs ++ placed (at + length xs) ys
placed-append at xs ys h = placed_text at xs ys ∙ ap (λ (n : ℕ). placed at xs ++ placed (at + n) ys) (ap length (plain_bytes xs h))

pub plain_take : (n : ℕ) (xs : List ℕ) → list_all is_plain_byte xs ≡ true → list_all is_plain_byte (take n xs) ≡ true
plain_take n xs h = grind (arith, list_all-append is_plain_byte (take n xs) (drop n xs), take-append-drop n xs)
