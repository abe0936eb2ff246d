-- Whether bytes begin with a name, seen 16 at a time through the mask of those that differ.
use Rattle.charref.proofs.Names.{◌≡◌, ℕ, zero, suc, ◌+◌, ◌-◌, ◌≤◌, ◌<◌, Bool, true, false, not, cond, ◌&&◌, nat_eq, nat_le, List, [], ◌∷◌, map, length, take, drop, refl, sym, ap, ◌∙◌, arith, starts_with, nat_tests, take_rest, drop-drop, nat_lt, get_or, is_lt, slice_cmp, nat_cmp, false≢true, min, Some, slice_get, length-map, All, Entity, Entry, Entities, entry, entries, IsEntity, w8, ◌^◌, ◌%◌, prefix_len, slice_range, first_set_mask_l, length-zip2, tops_compared, mask_l-mod, length-chunk, prefix_len-le-length}
use Rattle.charref.proofs.Searching.{entry_in}
use lib.Count.{count_trailing_zeros}
use lib.Lanes.{zip2, mask_l, top}

abbrev pub differs : ℕ → ℕ → Bool
differs a b = not (nat_eq a b)

-- a name of at most as many bytes as there are lanes
starts_lanes : (k n : ℕ) (xs ys : List ℕ) → n ≤ k → k ≤ length xs → k ≤ length ys
    → starts_with nat_eq xs (take n ys) ≡ nat_le n (prefix_len (λ b. not b) (zip2 differs (take k xs) (take k ys)))
starts_lanes k zero xs ys few long_x long_y = grind (arith, nat_tests)
starts_lanes zero (suc n) xs ys few long_x long_y = absurd (omega arith)
starts_lanes (suc k) (suc n) [] ys few long_x long_y = absurd (omega arith)
starts_lanes (suc k) (suc n) (x ∷ xs) [] few long_x long_y = absurd (omega arith)
starts_lanes (suc k) (suc n) (x ∷ xs) (y ∷ ys) few long_x long_y = grind (arith, nat_tests, starts_lanes k n xs ys (omega arith) (omega arith) (omega arith))

as_it_is : (bs : List Bool) → map (λ (b : Bool). b) bs ≡ bs
as_it_is [] = refl
as_it_is (b ∷ bs) = ap (λ (x : List Bool). b ∷ x) (as_it_is bs)

-- the mask of the lanes that differ, as it is computed
abbrev pub mask_of : List ℕ → List ℕ → ℕ
mask_of xs ys = mask_l (map (top 7) (zip2 (λ a b. cond (differs a b) 255 0) (take 16 xs) (take 16 ys))) % 2 ^ 64

module _ (n : ℕ) (xs ys : List ℕ) (few : n ≤ 16) (long_x : 16 ≤ length xs) (long_y : 16 ≤ length ys) where
  abbrev lanes : List Bool
  lanes = zip2 differs (take 16 xs) (take 16 ys)

  long : length lanes ≡ 16
  long = length-zip2 differs (take 16 xs) (take 16 ys) (length-chunk 0 16 xs long_x ∙ sym (length-chunk 0 16 ys long_y)) ∙ length-chunk 0 16 xs long_x

  mask_is : mask_of xs ys ≡ mask_l (map (λ (b : Bool). b) lanes)
  mask_is = ap (λ (bs : List Bool). mask_l bs % 2 ^ 64) (tops_compared w8 differs (take 16 xs) (take 16 ys)) ∙ mask_l-mod lanes 64 (omega (arith, long))
      ∙ ap mask_l (sym (as_it_is lanes))

  alike : cond (nat_eq (mask_of xs ys) 0) 16 (count_trailing_zeros 64 (mask_of xs ys)) ≡ prefix_len (λ b. not b) lanes
  alike = ap (λ (m : ℕ). cond (nat_eq m 0) 16 (count_trailing_zeros 64 m)) mask_is ∙ first_set_mask_l (λ (b : Bool). b) lanes 16 long (omega arith)

  starts : starts_with nat_eq xs (take n ys) ≡ nat_le n (cond (nat_eq (mask_of xs ys) 0) 16 (count_trailing_zeros 64 (mask_of xs ys)))
  starts = starts_lanes 16 n xs ys few long_x long_y ∙ ap (nat_le n) (sym alike)

  pub all_alike : mask_of xs ys ≡ 0 → starts_with nat_eq xs (take n ys) ≡ true
  all_alike none = starts ∙ ap (λ (m : ℕ). nat_le n (cond (nat_eq m 0) 16 (count_trailing_zeros 64 m))) none ∙ grind (arith, nat_tests, few)

  pub first_differs : nat_eq (mask_of xs ys) 0 ≡ false → starts_with nat_eq xs (take n ys) ≡ nat_le n (count_trailing_zeros 64 (mask_of xs ys))
  first_differs some = starts ∙ ap (λ (b : Bool). nat_le n (cond b 16 (count_trailing_zeros 64 (mask_of xs ys)))) some

-- WHICH KEY IS BEFORE THE OTHER

-- how many bytes are the same, of so many
abbrev pub same_bytes : ℕ → List ℕ → List ℕ → ℕ
same_bytes k xs ys = prefix_len (λ b. not b) (zip2 differs (take k xs) (take k ys))

-- whether a key of n bytes is before one of m bytes, where the bytes after them differ first at an index
abbrev pub is_earlier : ℕ → ℕ → ℕ → List ℕ → List ℕ → Bool
is_earlier index n m xs ys = cond (nat_lt index n && nat_lt index m) (nat_lt (get_or xs index 0) (get_or ys index 0)) (nat_lt n m)

order_lanes : (k n m : ℕ) (xs ys : List ℕ) → k ≤ length xs → k ≤ length ys → same_bytes k xs ys < k
    → is_lt (slice_cmp nat_cmp (take n xs) (take m ys)) ≡ is_earlier (same_bytes k xs ys) n m xs ys
order_lanes zero n m xs ys long_x long_y apart = absurd (omega (arith, apart))
order_lanes (suc k) n m [] ys long_x long_y apart = absurd (omega arith)
order_lanes (suc k) n m (x ∷ xs) [] long_x long_y apart = absurd (omega arith)
order_lanes (suc k) zero zero (x ∷ xs) (y ∷ ys) long_x long_y apart = grind (arith, nat_tests)
order_lanes (suc k) zero (suc m) (x ∷ xs) (y ∷ ys) long_x long_y apart = grind (arith, nat_tests)
order_lanes (suc k) (suc n) zero (x ∷ xs) (y ∷ ys) long_x long_y apart = grind (arith, nat_tests)
order_lanes (suc k) (suc n) (suc m) (x ∷ xs) (y ∷ ys) long_x long_y apart = by (nat_eq x y) refl apart (order_lanes k n m xs ys (omega arith) (omega arith))
  where
    by : (b : Bool) → nat_eq x y ≡ b → same_bytes (suc k) (x ∷ xs) (y ∷ ys) < suc k
        → (same_bytes k xs ys < k → is_lt (slice_cmp nat_cmp (take n xs) (take m ys)) ≡ is_earlier (same_bytes k xs ys) n m xs ys)
        → is_lt (slice_cmp nat_cmp (take (suc n) (x ∷ xs)) (take (suc m) (y ∷ ys)))
        ≡ is_earlier (same_bytes (suc k) (x ∷ xs) (y ∷ ys)) (suc n) (suc m) (x ∷ xs) (y ∷ ys)
    by true e within others = let next : same_bytes (suc k) (x ∷ xs) (y ∷ ys) ≡ suc (same_bytes k xs ys) = grind (arith, nat_tests, e) in
        rw next (grind (arith, nat_tests, others (omega (arith, next, within)), e))
    by false e within others = let here : same_bytes (suc k) (x ∷ xs) (y ∷ ys) ≡ 0 = grind (arith, nat_tests, e) in rw here (grind (arith, nat_tests, e))

none_set : (bs : List Bool) → prefix_len (λ b. not b) bs ≡ length bs → mask_l bs ≡ 0
none_set [] all = refl
none_set (true ∷ bs) all = absurd (omega (arith, all))
none_set (false ∷ bs) all = let others : mask_l bs ≡ 0 = none_set bs (omega (arith, all)) in omega (arith, others)

order_at_once : (n m : ℕ) (xs ys : List ℕ) → 16 ≤ length xs → 16 ≤ length ys → nat_eq (mask_of xs ys) 0 ≡ false
    → is_lt (slice_cmp nat_cmp (take n xs) (take m ys)) ≡ is_earlier (count_trailing_zeros 64 (mask_of xs ys)) n m xs ys
order_at_once n m xs ys long_x long_y some =
    let index = ap (λ (b : Bool). cond b 16 (count_trailing_zeros 64 (mask_of xs ys))) (sym some) ∙ alike 16 xs ys (omega arith) long_x long_y in
    let size : length (lanes 16 xs ys (omega arith) long_x long_y) ≡ 16 = long 16 xs ys (omega arith) long_x long_y in
    let most : same_bytes 16 xs ys ≤ length (zip2 differs (take 16 xs) (take 16 ys)) =
    prefix_len-le-length (λ b. not b) (zip2 differs (take 16 xs) (take 16 ys)) in
    let one : same_bytes 16 xs ys ≡ 16 → ⊥ =
    λ (all : same_bytes 16 xs ys ≡ 16).
    (let none : mask_of xs ys ≡ 0 = mask_is 16 xs ys (omega arith) long_x long_y ∙ ap mask_l (as_it_is (zip2 differs (take 16 xs) (take 16 ys)))
    ∙ none_set (zip2 differs (take 16 xs) (take 16 ys)) (all ∙ sym size) in
    false≢true (sym some ∙ ap (λ (m : ℕ). nat_eq m 0) none)) in
    let within : same_bytes 16 xs ys < 16 = omega (arith, one, most, size) in
    order_lanes 16 n m xs ys long_x long_y within ∙ ap (λ d. is_earlier d n m xs ys) (sym index)

pub order_by_byte : (n m : ℕ) (xs ys : List ℕ) → 16 ≤ length xs → 16 ≤ length ys → nat_eq (mask_of xs ys) 0 ≡ false
    → count_trailing_zeros 64 (mask_of xs ys) < n → count_trailing_zeros 64 (mask_of xs ys) < m → nat_lt (get_or xs (count_trailing_zeros 64 (mask_of xs ys)) 0)
    (get_or ys (count_trailing_zeros 64 (mask_of xs ys)) 0) ≡ is_lt (slice_cmp nat_cmp (take n xs) (take m ys))
order_by_byte n m xs ys long_x long_y some in_x in_y = sym (order_at_once n m xs ys long_x long_y some ∙ by (count_trailing_zeros 64 (mask_of xs ys)) in_x in_y)
  where
    by : (index : ℕ) → index < n → index < m → is_earlier index n m xs ys ≡ nat_lt (get_or xs index 0) (get_or ys index 0)
    by index p q = grind (arith, nat_tests, p, q)

pub order_by_size : (n m : ℕ) (xs ys : List ℕ) → 16 ≤ length xs → 16 ≤ length ys → nat_eq (mask_of xs ys) 0 ≡ false
    → min n m ≤ count_trailing_zeros 64 (mask_of xs ys) → nat_lt n m ≡ is_lt (slice_cmp nat_cmp (take n xs) (take m ys))
order_by_size n m xs ys long_x long_y some past = sym (order_at_once n m xs ys long_x long_y some ∙ by (count_trailing_zeros 64 (mask_of xs ys)) past) where
  by : (index : ℕ) → min n m ≤ index → is_earlier index n m xs ys ≡ nat_lt n m
  by index p = grind (arith, nat_tests, p)

-- THE KEY OF AN ENTRY, IN THE TEXT THAT GOES ON AFTER IT

first_off : (k : ℕ) (xs : List ℕ) → drop 1 (take (suc k) xs) ≡ take k (drop 1 xs)
first_off zero [] = refl
first_off (suc k) [] = refl
first_off k (x ∷ xs) = refl

pub opens_named : (text bytes : List ℕ) (start end : ℕ) (r : Bool) → start < end
    → r ≡ starts_with nat_eq bytes (take (end - start - 1) (take (length text - (start + 1)) (drop (start + 1) text)))
    → r ≡ starts_with nat_eq bytes (drop 1 (slice_range text start end))
opens_named text bytes start end r some e = let k : ℕ = end - start - 1 in let long : end - start ≡ suc k = omega (arith, some) in
    let name = ap (λ (n : ℕ). drop 1 (take n (drop start text))) long ∙ first_off k (drop start text) ∙ ap (take k) (drop-drop 1 start text) in
    e ∙ ap (λ (x : List ℕ). starts_with nat_eq bytes (take k x)) (take_rest text (start + 1)) ∙ ap (starts_with nat_eq bytes) (sym name)

-- the key of an entity
pub opens_entry : (text bytes : List ℕ) (es : List Entity) (table : Entities) (k : ℕ) (d : Entity) (r : Bool) → All (IsEntity text) es → entries text es ≡ table
    → k < length table → d ≡ get_or es k d
    → r ≡ starts_with nat_eq bytes (take (d.end - d.start - 1) (take (length text - (d.start + 1)) (drop (d.start + 1) text)))
    → (e : Entry) × (slice_get table k ≡ Some e) × (r ≡ starts_with nat_eq bytes (drop 1 e.key))
opens_entry text bytes es table k d r all is less got same = let size : length es ≡ length table = sym (length-map es (entry text)) ∙ ap length is in
    (entry text d, entry_in text es table k d is less got, opens_named text bytes d.start d.end r (rw got (all k d (omega (arith, less, size))).some) same)
