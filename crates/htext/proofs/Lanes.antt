-- Runs of bytes, seen a vector at a time through the mask of those that end them.
use Rattle.htext.proofs.Names.{nat_tests, ◌≡◌, ℕ, ◌+◌, ◌/◌, ◌%◌, ◌<◌, ◌≤◌, Bool, true, not, cond, eqb, List, [], ◌∷◌, map, length, drop, get_or, replicate, bit_and, refl, sym, ap, ◌∙◌, arith, zip2_splat, map-map, length-map, ◌++◌, length-append, and_le_r, prefix_len-le-length, prefix_len, zip2, count_trailing_zeros, ◌^◌, ap₂, w8, Fits, chunk-drop, length-chunk, mask_l-mod, leading_from_mask_l, trailing_mask_l, swz_l, SwzOk, SwzOk-from_below, length-swz_l, get_or-swz_l_below, length-zip2, Each1-all, Each1-weaker, Each1-zip2, Each1-get_or, Each2-splat, below_from_Fits, agree_below, agree_below_at, get_or-map, ext_get_or, prefix_len-append, not-not}
use lib.Lanes.{chunk, mask_l, top, Each1}

-- COMPARISONS, LANE BY LANE

abbrev pub hit : ℕ → ℕ → ℕ
hit a b = cond (eqb a b) 255 0

-- the comparison with a splat of what is computed lane by lane
pub hit_of : (f : ℕ → ℕ) (y n : ℕ) (v : List ℕ) {a : List ℕ} → length v ≡ n → a ≡ map f v → zip2 hit a (replicate n y) ≡ map (λ x. hit (f x) y) v
hit_of f y n v long p = ap (λ a. zip2 hit a (replicate n y)) p ∙ zip2_splat hit (map f v) n y (length-map v f ∙ long) ∙ map-map (λ x. hit x y) f v

-- LOOK-UPS IN A TABLE OF 16

abbrev pub AreBytes : List ℕ → Type 0
AreBytes v = (length v ≡ 16) × Each1 (Fits w8) v

abbrev pub down : ℕ → ℕ → ℕ
down a b = a / 2 ^ b

pub low_half : (v : List ℕ) → AreBytes v → SwzOk w8 16 16 0 (zip2 bit_and v (replicate 16 15))
low_half v are = let small = Each1-all (λ a. bit_and a 15 < 16) (λ a. omega (arith, and_le_r a 15)) v in
    SwzOk-from_below w8 16 1 16 0 (zip2 bit_and v (replicate 16 15)) refl (omega (arith, length-zip2 bit_and v (replicate 16 15) are.0))
    (Each1-zip2 bit_and (λ j. j < 16) v (replicate 16 15) (Each2-splat (λ a b. bit_and a b < 16) v 16 15 small))

pub high_half : (v : List ℕ) → AreBytes v → SwzOk w8 16 16 0 (zip2 down v (replicate 16 4))
high_half v are = let small = Each1-weaker (λ a. a < 256) (λ a. a / 16 < 16) (λ a h. omega arith) v (below_from_Fits w8 v are.1) in
    SwzOk-from_below w8 16 1 16 0 (zip2 down v (replicate 16 4)) refl (omega (arith, length-zip2 down v (replicate 16 4) are.0))
    (Each1-zip2 down (λ j. j < 16) v (replicate 16 4) (Each2-splat (λ a b. down a b < 16) v 16 4 small))

-- a table that is read at places g x below 16
pub looked_up : (table : List ℕ) (g : ℕ → ℕ) (v : List ℕ) {places : List ℕ} → AreBytes v → places ≡ map g v → ((x : ℕ) → x < 256 → g x < 16)
    → swz_l w8 16 table 0 places ≡ map (λ x. get_or table (g x) 0) v
looked_up table g v {places} are e small = let long : length places ≡ 16 = ap length e ∙ length-map v g ∙ are.0 in
    let same : length (swz_l w8 16 table 0 places) ≡ 16 = length-swz_l w8 16 table 0 places ∙ long in
    ext_get_or 0 _ _ (same ∙ sym (length-map v (λ x. get_or table (g x) 0) ∙ are.0)) (λ i h. let within : i < length v = omega (arith, same, are.0) in
    let is : get_or places i 0 ≡ g (get_or v i 0) = ap (λ l. get_or l i 0) e ∙ get_or-map g v i 0 0 within in
    let fits = (Each1-get_or (Fits w8) v i 0 within are.1).fits in
    let below : get_or places i 0 < 16 = omega (arith, is, small (get_or v i 0) fits) in
    get_or-swz_l_below w8 16 table 0 places i (omega arith) below ∙ ap (λ k. get_or table k 0) (omega arith ∙ is)
    ∙ sym (get_or-map (λ x. get_or table (g x) 0) v i 0 0 within))

-- A TEST OF EACH BYTE

each_byte : (p q : ℕ → Bool) → ((x : ℕ) → x < 256 → p x ≡ q x) → (v : List ℕ) → Each1 (Fits w8) v → map p v ≡ map q v
each_byte p q agree [] fits = refl
each_byte p q agree (x ∷ xs) fits = ap₂ (λ a b. a ∷ b) (agree x fits.0.fits) (each_byte p q agree xs fits.1)

-- two tests agree at each of the 256 bytes, which computing shows, and so they do lane by lane
pub same_mask : (p q : ℕ → Bool) → agree_below p q 256 ≡ true → (v : List ℕ) → Each1 (Fits w8) v → mask_l (map p v) ≡ mask_l (map q v)
same_mask p q all v fits = ap mask_l (each_byte p q (λ x small. agree_below_at p q 256 x all small) v fits)

-- a mask that is computed lane by lane is that of a test, where the two agree
pub masked : (f : ℕ → ℕ) (p : ℕ → Bool) (v z : List ℕ) → length v ≤ 64 → Each1 (Fits w8) v → z ≡ map f v → ((x : ℕ) → x < 256 → top 7 (f x) ≡ p x)
    → mask_l (map (top 7) z) % 2 ^ 64 ≡ mask_l (map p v)
masked f p v z short fits e agree = ap (λ l. mask_l l % 2 ^ 64) (ap (map (top 7)) e ∙ map-map (top 7) f v ∙ each_byte (λ x. top 7 (f x)) p agree v fits)
    ∙ mask_l-mod (map p v) 64 (omega (arith, length-map v p))

-- the top bit of a comparison
pub hit_top : (x y : ℕ) → top 7 (hit x y) ≡ eqb x y
hit_top x y = grind arith

-- RUNS

-- a count in lanes that are there twice, by the count in these
all_of : (n once twice : ℕ) → once ≤ n → twice ≡ cond (eqb once n) (n + once) once → twice ≡ n + n → once ≡ n
all_of n once twice few is all = grind (arith, nat_tests)

some_of : (n once twice : ℕ) → once ≤ n → twice ≡ cond (eqb once n) (n + once) once → twice < n + n → (once < n) × (twice ≡ once)
some_of n once twice few is some = (grind (arith, nat_tests), grind (arith, nat_tests))

module _ (q : ℕ → Bool) where
  abbrev pub fails : ℕ → Bool
  fails x = not (q x)

  same_run : (xs : List ℕ) → prefix_len q xs ≡ prefix_len (λ x. not (fails x)) xs
  same_run [] = refl
  same_run (x ∷ xs) = ap₂ (λ b n. cond b (1 + n) 0) (sym (not-not (q x))) (same_run xs)

  all_pass : (xs : List ℕ) → prefix_len (λ x. not (fails x)) xs ≡ length xs → mask_l (map fails xs) ≡ 0
  all_pass [] e = refl
  all_pass (x ∷ xs) e = grind (arith, nat_tests, prefix_len-le-length (λ y. not (fails y)) xs, all_pass xs)

  -- all lanes pass, or the lowest bit is of the first that does not
  all_through : (w : List ℕ) → mask_l (map fails w) ≡ 0 → prefix_len q w ≡ length w
  all_through w none = same_run w ∙ leading_from_mask_l fails w none

  first_stop : (w : List ℕ) → length w ≤ 64 → 0 < mask_l (map fails w)
      → (prefix_len q w ≡ count_trailing_zeros 64 (mask_l (map fails w))) × (prefix_len q w < length w)
  first_stop w short some = let is = same_run w ∙ sym (trailing_mask_l fails 64 w short some) in
      (is, grind (arith, some, prefix_len-le-length q w, same_run w, all_pass w))

  -- a run that goes through a chunk, or stops in it
  through : (d : List ℕ) (i n : ℕ) → i + n ≤ length d → prefix_len q (chunk i n d) ≡ n → prefix_len q (drop i d) ≡ n + prefix_len q (drop (i + n) d)
  through d i n room all = grind (arith, nat_tests, chunk-drop i n d, prefix_len-append q (chunk i n d) (drop (i + n) d), length-chunk i n d room)

  stops : (d : List ℕ) (i n : ℕ) → i + n ≤ length d → prefix_len q (chunk i n d) < n → prefix_len q (drop i d) ≡ prefix_len q (chunk i n d)
  stops d i n room some = grind (arith, nat_tests, chunk-drop i n d, prefix_len-append q (chunk i n d) (drop (i + n) d), length-chunk i n d room)

  module _ (d : List ℕ) (i n : ℕ) (room : i + n ≤ length d) where
    pub run_through : mask_l (map fails (chunk i n d)) ≡ 0 → prefix_len q (drop i d) ≡ n + prefix_len q (drop (i + n) d)
    run_through none = through d i n room (all_through (chunk i n d) none ∙ length-chunk i n d room)

    pub run_stops : n ≤ 64 → 0 < mask_l (map fails (chunk i n d)) → prefix_len q (drop i d) ≡ count_trailing_zeros 64 (mask_l (map fails (chunk i n d)))
    run_stops short some = let long = length-chunk i n d room in let first = first_stop (chunk i n d) (omega (arith, long)) some in
        stops d i n room (omega (arith, first.1, long)) ∙ first.0

    -- the same where the lanes are there twice
    abbrev both : List ℕ
    both = chunk i n d ++ chunk i n d

    long : length both ≡ n + n
    long = omega (arith, length-append (chunk i n d) (chunk i n d), length-chunk i n d room)

    once : prefix_len q (chunk i n d) ≤ n
    once = omega (arith, prefix_len-le-length q (chunk i n d), length-chunk i n d room)

    twice : prefix_len q both ≡ cond (eqb (prefix_len q (chunk i n d)) n) (n + prefix_len q (chunk i n d)) (prefix_len q (chunk i n d))
    twice = grind (arith, prefix_len-append q (chunk i n d) (chunk i n d), length-chunk i n d room)

    pub twice_through : mask_l (map fails both) ≡ 0 → prefix_len q (drop i d) ≡ n + prefix_len q (drop (i + n) d)
    twice_through none = through d i n room (all_of n _ _ once twice (omega (arith, all_through both none, long)))

    pub twice_stops : n + n ≤ 64 → 0 < mask_l (map fails both) → prefix_len q (drop i d) ≡ count_trailing_zeros 64 (mask_l (map fails both))
    twice_stops short some = let first = first_stop both (omega (arith, long)) some in let here = some_of n _ _ once twice (omega (arith, first.1, long)) in
        stops d i n room here.0 ∙ sym here.1 ∙ first.0
