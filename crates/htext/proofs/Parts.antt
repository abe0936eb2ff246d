-- Characters and bad parts, one after another.
use Rattle.std.proofs.Common.{add_assoc}
use Rattle.htext.proofs.Names.{drop_at, ◌≡◌, ℕ, zero, suc, ◌<◌, ◌≤◌, ◌+◌, ◌-◌, Bool, false, cond, eqb, List, [], ◌∷◌, ◌++◌, length, map, take, drop, refl, ap, ◌∙◌, arith, append_assoc, append-nil, nat_tests, length-append, length-drop, take-append-add, drop-append-add, chars-append, chars-nil, encodes-chars, length-encode, utf8_valid_len_le, chars, IsUtf8, utf8_valid_len, utf8_invalid_len, len_utf8, placed, Read, Whole, Bad, reads_within, reads_at, map-append}
use Rattle.std.specs.Str.{encode_utf8_all}
use Rattle.htext.proofs.Valid.{utf8_valid_len-append, invalid_bounds}

-- after the first `n`, which are characters, where there are more
abbrev tail_at : ℕ → ℕ → List ℕ → ℕ → List Read
tail_at k at bytes n =
    cond (eqb n (length bytes)) [] (Bad (at + n) ∷ reads_within k (at + n + utf8_invalid_len (drop n bytes)) (drop (n + utf8_invalid_len (drop n bytes)) bytes))

same_tail : (b : Bool) (xs ys : List Read) → (b ≡ false → xs ≡ ys) → cond b [] xs ≡ cond b [] ys
same_tail b xs ys f = grind (arith, f)

pub more_left : (n : ℕ) (bytes : List ℕ) → n ≤ length bytes → eqb n (length bytes) ≡ false → 0 < length (drop n bytes)
more_left n bytes le e = let d : length (drop n bytes) ≡ length bytes - n = length-drop n bytes in grind (arith, nat_tests)

less_left : (n : ℕ) (bytes : List ℕ) → n ≤ length bytes → eqb n (length bytes) ≡ false
    → length (drop (n + utf8_invalid_len (drop n bytes)) bytes) < length bytes
less_left n bytes le e = grind (arith, more_left n bytes le e, length-drop, invalid_bounds (drop n bytes))

-- what is left of the bytes after the first bad part, and where
abbrev left : List ℕ → List ℕ
left bytes = drop (utf8_valid_len bytes + utf8_invalid_len (drop (utf8_valid_len bytes) bytes)) bytes

abbrev left_at : ℕ → List ℕ → ℕ
left_at at bytes = at + utf8_valid_len bytes + utf8_invalid_len (drop (utf8_valid_len bytes) bytes)

same_reads : (k l at : ℕ) (bytes : List ℕ)
    → (length (left bytes) < length bytes → reads_within k (left_at at bytes) (left bytes) ≡ reads_within l (left_at at bytes) (left bytes))
    → reads_within (suc k) at bytes ≡ reads_within (suc l) at bytes
unfolding reads_within
same_reads k l at bytes same = let n : ℕ = utf8_valid_len bytes in
    ap (λ (x : List Read). map Whole (placed at (chars (take n bytes))) ++ x)
    (same_tail (eqb n (length bytes)) _ _ (λ e. ap (λ (x : List Read). Bad (at + n) ∷ x) (same (less_left n bytes (utf8_valid_len_le bytes) e))))

-- more bad parts may be in bytes than do
reads_fuel : (k l at : ℕ) (bytes : List ℕ) → length bytes ≤ k → length bytes ≤ l → reads_within (suc k) at bytes ≡ reads_within (suc l) at bytes
reads_fuel zero l at bytes a b = same_reads zero l at bytes (λ less. absurd (omega (arith, less)))
reads_fuel (suc k) zero at bytes a b = same_reads (suc k) zero at bytes (λ less. absurd (omega (arith, less)))
reads_fuel (suc k) (suc l) at bytes a b =
    same_reads (suc k) (suc l) at bytes (λ less. reads_fuel k l (left_at at bytes) (left bytes) (omega (arith, less)) (omega (arith, less)))

-- READING ON

pub reads_nil : (at : ℕ) → reads_at at [] ≡ []
unfolding utf8_valid_len reads_within
reads_nil at = ap (λ (cs : List ℕ). map Whole (placed at cs) ++ []) chars-nil

pub placed-append : (at : ℕ) (cs ds : List ℕ) → placed at (cs ++ ds) ≡ placed at cs ++ placed (at + length (encode_utf8_all cs)) ds
placed-append at [] ds = ap (λ (x : ℕ). placed x ds) (omega arith)
placed-append at (c ∷ cs) ds = grind (arith, placed-append (at + len_utf8 c) cs ds, length-append, length-encode c)

tail_past : (k at : ℕ) (xs ys : List ℕ) (n : ℕ) → n ≤ length ys → tail_at k at (xs ++ ys) (length xs + n) ≡ tail_at k (at + length xs) ys n
tail_past k at xs ys n within = grind (arith, nat_tests, drop-append-add, length-append, add_assoc)

reads_text : (k at : ℕ) (xs ys : List ℕ) → IsUtf8 xs
    → reads_within (suc k) at (xs ++ ys) ≡ map Whole (placed at (chars xs)) ++ reads_within (suc k) (at + length xs) ys
unfolding reads_within
reads_text k at xs ys u = let n : ℕ = utf8_valid_len ys in let t = take n ys in let here = placed-append at (chars xs) (chars t) in
    let both = map-append Whole (placed at (chars xs)) (placed (at + length xs) (chars t)) in let rest = tail_past k at xs ys n (utf8_valid_len_le ys) in
    grind (arith, utf8_valid_len-append xs ys u, take-append-add xs ys, chars-append xs t u, here, encodes-chars xs u, both, append_assoc, rest)

-- characters, and what is after them
pub reads_after_text : (at : ℕ) (xs ys : List ℕ) → IsUtf8 xs → reads_at at (xs ++ ys) ≡ map Whole (placed at (chars xs)) ++ reads_at (at + length xs) ys
reads_after_text at xs ys u = reads_text (length (xs ++ ys)) at xs ys u ∙ ap (λ (x : List Read). map Whole (placed at (chars xs)) ++ x)
    (reads_fuel (length (xs ++ ys)) (length ys) (at + length xs) ys (omega (arith, length-append xs ys)) (omega arith))

pub reads_of_text : (at : ℕ) (xs : List ℕ) → IsUtf8 xs → reads_at at xs ≡ map Whole (placed at (chars xs))
reads_of_text at xs u = grind (arith, append-nil, reads_after_text at xs [] u, reads_nil)

-- a bad part, and what is after it
reads_bad : (k at : ℕ) (part ys : List ℕ) → utf8_valid_len (part ++ ys) ≡ 0 → utf8_invalid_len (part ++ ys) ≡ length part → 0 < length part
    → reads_within (suc k) at (part ++ ys) ≡ Bad at ∷ reads_within k (at + length part) ys
unfolding reads_within
reads_bad k at part ys none bad some = grind (arith, nat_tests, none, bad, chars-nil, length-append part ys, drop_at part ys (length part) refl)

pub reads_after_bad : (at : ℕ) (part ys : List ℕ) → utf8_valid_len (part ++ ys) ≡ 0 → utf8_invalid_len (part ++ ys) ≡ length part → 0 < length part
    → reads_at at (part ++ ys) ≡ Bad at ∷ reads_at (at + length part) ys
reads_after_bad at part ys none bad some = let k : ℕ = length (part ++ ys) - 1 in let fuel = reads_fuel k (length ys) (at + length part) ys in
    grind (arith, reads_bad (length (part ++ ys)) at part ys none bad some, fuel, length-append part ys)
