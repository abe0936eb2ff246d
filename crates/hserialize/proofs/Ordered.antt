-- Attributes in the order of their names.
use Rattle.hserialize.proofs.Names.{◌≡◌, ℕ, suc, ◌+◌, ◌<◌, Bool, false, cond, List, [], ◌∷◌, get_or, map, length, refl, sym, ◌∙◌, ap, arith, AllByRecursion, IsStrictWeakOrder, AreEntriesNumbered, pair_of, in_order, get_or_default, All, IsPermutation, IsSorted, IsTotalOrder, attribute_put_in, nat_tests, recursion_from_All, ranks_by, Bor, nat_cmp_total, nat_list_cmp_total, on_total, then_total, ranked, slice_cmp, nat_cmp, is_lt, ordering_then, Ordering, Less, Equal, Greater}
use Rattle.hserialize.proofs.Sorting.{put, inserted, inserted_all, tied_equal, sorted-is}

abbrev pub Entry : Type 0
Entry = Bor (List ℕ) × ℕ × Bor (List ℕ)

-- the order of entries: by name, then by place
abbrev pub compare : Entry → Entry → Ordering
compare x y = ordering_then (ordering_then (slice_cmp nat_cmp x.0.now y.0.now) (nat_cmp x.1 y.1)) (slice_cmp nat_cmp x.2.now y.2.now)

abbrev is_less : Entry → Entry → Bool
is_less x y = is_lt (compare x y)

compare_total : IsTotalOrder compare
compare_total = then_total (then_total (on_total (λ (e : Entry). e.0.now) nat_list_cmp_total) (on_total (λ (e : Entry). e.1) nat_cmp_total))
    (on_total (λ (e : Entry). e.2.now) nat_list_cmp_total)

entries_order : IsStrictWeakOrder is_less
entries_order = ranks_by compare_total (λ (e : Entry). e)

place_tied : (a n c : Ordering) → ordering_then (ordering_then a n) c ≡ Equal → n ≡ Equal
place_tied a n c e = grind arith

-- entries that tie have one place
one_place : (x y : Entry) → is_less x y ≡ false → is_less y x ≡ false → x.1 ≡ y.1
one_place x y p q = ranked x.1 y.1 Equal (sym (place_tied _ _ _ (tied_equal compare compare_total x y p q)))

-- an entry before others of later places goes where its name does
put_pair : (a : Entry) (es : List Entry) → AllByRecursion (λ b. a.1 < b.1) es → map pair_of (put is_less a es) ≡ attribute_put_in (pair_of a) (map pair_of es)
put_pair a [] h = refl
put_pair a (b ∷ es) h = go (slice_cmp nat_cmp b.0.now a.0.now) (put_pair a es h.1) where
  go : (o : Ordering) → map pair_of (put is_less a es) ≡ attribute_put_in (pair_of a) (map pair_of es)
      → map pair_of (cond (is_lt (ordering_then (ordering_then o (nat_cmp b.1 a.1)) (slice_cmp nat_cmp b.2.now a.2.now))) (b ∷ put is_less a es) (a ∷ b ∷ es))
      ≡ cond (is_lt o) (pair_of b ∷ attribute_put_in (pair_of a) (map pair_of es)) (pair_of a ∷ pair_of b ∷ map pair_of es)
  go Less i = ap (λ l. pair_of b ∷ l) i
  go Equal i = let before = h.0 in let later : nat_cmp b.1 a.1 ≡ Greater = grind (arith, nat_tests) in rw later refl
  go Greater i = refl

inserted_pairs : (k : ℕ) (es : List Entry) → ((i : ℕ) (d : Entry) → i < length es → (get_or es i d).1 ≡ k + i)
    → map pair_of (inserted is_less es) ≡ in_order (map pair_of es)
inserted_pairs k [] h = refl
inserted_pairs k (a ∷ es) h = put_pair a (inserted is_less es) (inserted_all is_less (λ b. a.1 < b.1) es (recursion_from_All (λ b. a.1 < b.1) es later))
    ∙ ap (attribute_put_in (pair_of a)) (inserted_pairs (suc k) es (λ i d p. let next = h (suc i) d (omega arith) in omega (arith, next))) where
      later : All (λ b. a.1 < b.1) es
      later i d p = let first = h 0 a (omega arith) in let next = h (suc i) d (omega arith) in omega (arith, first, next)

-- entries that were sorted are attributes in order: each is at its place among those that were to be sorted
pub ordered : (xs ys : List Entry) → AreEntriesNumbered xs → IsPermutation xs ys → IsSorted compare ys → map pair_of ys ≡ in_order (map pair_of xs)
ordered xs ys numbered moved up = ap (map pair_of)
    (sorted-is is_less entries_order IsIt (λ x y p q less more. sym (p y) ∙ ap (λ n. get_or xs n y) (one_place x y less more) ∙ q y) xs ys moved up own)
    ∙ inserted_pairs 0 xs (λ i d p. let at = numbered i d p in omega (arith, at)) where
      IsIt : Entry → Type 0
      IsIt e = (d : Entry) → get_or xs e.1 d ≡ e

      own : All IsIt xs
      own k d inside e = ap (λ n. get_or xs n e) (numbered k d inside) ∙ get_or_default xs k e d inside
