-- Keys that begin with some bytes, in a list whose keys are in order.
use Rattle.charref.proofs.Names.{arith, ◌≡◌, ℕ, zero, suc, ◌+◌, ◌≤◌, ◌<◌, ◌⊎◌, inl, inr, Bool, true, false, true≢false, ◌&&◌, nat_eq, nat_lt, cond, List, [], ◌∷◌, ◌++◌, map, length, slice_get, Option, Some, None, Less, Equal, Greater, refl, sym, ap, ◌∙◌, subst, length-append, and_parts, and_from, nat_tests, slice_cmp, nat_cmp, starts_with, AllByRecursion, some_same, Entry, Entities, longest, longer_entry, code_at, IsOver, and_assoc, cases_lt, cases_Bool, length-take, take_all, nat_cmp_is, both_ways, ordering_then}
use Rattle.std.specs.List.Sorted.{IsStrictlySortedBy}
use Rattle.charref.proofs.Naming.{key_of}

nat_same : (x y : ℕ) → nat_eq x y ≡ true → x ≡ y
nat_same x y h = grind (arith, nat_tests)

pub above : (x y : ℕ) → y < x → nat_cmp x y ≡ Greater
above x y h = sym (nat_cmp_is x y Greater h)

-- the first bytes of two keys in order
code_at_first : (x y : ℕ) (xs ys : List ℕ) → slice_cmp nat_cmp (x ∷ xs) (y ∷ ys) ≡ Less → x + 1 ≤ y + 1
code_at_first x y xs ys h = elim (cases_lt y x) [ inl less ↦ let greater : nat_cmp x y ≡ Greater = above x y less in absurd (cc) | inr le ↦ omega arith ]

-- what follows equal first bytes of two keys in order
past_first : (x y : ℕ) (xs ys : List ℕ) → x ≡ y → slice_cmp nat_cmp (x ∷ xs) (y ∷ ys) ≡ Less → slice_cmp nat_cmp xs ys ≡ Less
past_first x y xs ys is h =
    subst (λ o. ordering_then o (slice_cmp nat_cmp xs ys) ≡ Less) (subst (λ z. nat_cmp x z ≡ Equal) is (sym (nat_cmp_is x x Equal refl))) h

-- of two keys in order that begin with these bytes, the byte after them
pub code_at-le : (bytes a b : List ℕ) → starts_with nat_eq a bytes ≡ true → starts_with nat_eq b bytes ≡ true → slice_cmp nat_cmp a b ≡ Less
    → code_at a (length bytes) ≤ code_at b (length bytes)
code_at-le [] [] b p q h = grind arith
code_at-le [] (x ∷ xs) [] p q h = absurd (cc)
code_at-le [] (x ∷ xs) (y ∷ ys) p q h = code_at_first x y xs ys h
code_at-le (c ∷ cs) [] b p q h = absurd (true≢false (sym p))
code_at-le (c ∷ cs) (x ∷ xs) [] p q h = absurd (true≢false (sym q))
code_at-le (c ∷ cs) (x ∷ xs) (y ∷ ys) p q h = let x-is : c ≡ x = nat_same c x (and_parts _ _ p).0 in let y-is : c ≡ y = nat_same c y (and_parts _ _ q).0 in
    code_at-le cs xs ys (and_parts _ _ p).1 (and_parts _ _ q).1 (past_first x y xs ys (sym x-is ∙ y-is) h)

-- to begin with one byte more
pub starts_with-more : (bytes : List ℕ) (byte : ℕ) (key : List ℕ)
    → starts_with nat_eq key (bytes ++ byte ∷ []) ≡ (starts_with nat_eq key bytes && nat_eq (byte + 1) (code_at key (length bytes)))
starts_with-more [] byte [] = grind (arith, nat_tests)
starts_with-more [] byte (x ∷ xs) = grind (arith, nat_tests)
starts_with-more (c ∷ cs) byte [] = refl
starts_with-more (c ∷ cs) byte (x ∷ xs) = ap (λ b. nat_eq c x && b) (starts_with-more cs byte xs)
    ∙ sym (and_assoc (nat_eq c x) (starts_with nat_eq xs cs) (nat_eq (byte + 1) (code_at xs (length cs))))

-- a key that begins with a key comes no earlier
pub begins_later : (key bytes : List ℕ) → starts_with nat_eq key bytes ≡ true → slice_cmp nat_cmp key bytes ≡ Less → ⊥
begins_later [] [] p h = cc
begins_later (x ∷ xs) [] p h = cc
begins_later [] (c ∷ cs) p h = true≢false (sym p)
begins_later (x ∷ xs) (c ∷ cs) p h = begins_later xs cs (and_parts _ _ p).1 (past_first x c xs cs (sym (nat_same c x (and_parts _ _ p).0)) h)

-- what is between bytes and a key that begins with them begins with them
pub begins_between : (bytes a b : List ℕ) → starts_with nat_eq b bytes ≡ true → slice_cmp nat_cmp bytes a ≡ Less → slice_cmp nat_cmp a b ≡ Less
    → starts_with nat_eq a bytes ≡ true
begins_between [] a b p h g = refl
begins_between (c ∷ cs) [] b p h g = absurd (cc)
begins_between (c ∷ cs) (x ∷ xs) [] p h g = absurd (true≢false (sym p))
begins_between (c ∷ cs) (x ∷ xs) (y ∷ ys) p h g = let y-is : c ≡ y = nat_same c y (and_parts _ _ p).0 in
    let x-is : c ≡ x = omega (arith, code_at_first c x cs xs h, code_at_first x y xs ys g) in
    and_from _ _ (grind (arith, nat_tests))
    (begins_between cs xs ys (and_parts _ _ p).1 (past_first c x cs xs x-is h) (past_first x y xs ys (sym x-is ∙ y-is) g))

-- keys in order, by their indices
pub below_each : (keys : Entities) (P : List ℕ → Type 0) (k : ℕ) (e : Entry) → AllByRecursion P (map (λ e. e.key) keys) → slice_get keys k ≡ Some e → P e.key
below_each [] P k e all h = absurd (cc)
below_each (x ∷ xs) P zero e all h = let same : x ≡ e = cc in subst (λ (y : Entry). P y.key) same all.0
below_each (x ∷ xs) P (suc k) e all h = below_each xs P k e all.1 h

pub in_order : (table : Entities) → IsStrictlySortedBy (slice_cmp nat_cmp) (map (λ e. e.key) table) → (j k : ℕ) (e f : Entry) → slice_get table j ≡ Some e
    → slice_get table k ≡ Some f → j < k → slice_cmp nat_cmp e.key f.key ≡ Less
unfolding IsStrictlySortedBy
in_order [] sorted j k e f p q h = absurd (cc)
in_order (x ∷ xs) sorted j zero e f p q h = absurd (omega arith)
in_order (x ∷ xs) sorted zero (suc k) e f p q h = let same : x ≡ e = cc in
    subst (λ (y : Entry). slice_cmp nat_cmp y.key f.key ≡ Less) same (below_each xs (λ key. slice_cmp nat_cmp x.key key ≡ Less) k f sorted.0 q)
in_order (x ∷ xs) sorted (suc j) (suc k) e f p q h = in_order xs sorted.1 j k e f p q (omega arith)

-- THE LONGEST KEY

-- a text begins with itself
pub begins_itself : (xs : List ℕ) → starts_with nat_eq xs xs ≡ true
begins_itself [] = refl
begins_itself (x ∷ xs) = and_from _ _ (grind (arith, nat_tests)) (begins_itself xs)

-- a key that the text begins with, and that is as long, is the text
pub whole : (text key : List ℕ) → starts_with nat_eq text key ≡ true → length key ≡ length text → key ≡ text
whole text key p h = key_of text key p ∙ take_all (length key) text (omega arith)

-- a text begins with no longer key
pub no_longer : (text key : List ℕ) → starts_with nat_eq text key ≡ true → length key ≤ length text
no_longer text key p = omega (arith, ap length (key_of text key p), length-take (length key) text)

-- what a text begins with, it begins with whatever follows
pub begins_on : (text rest key : List ℕ) → starts_with nat_eq text key ≡ true → starts_with nat_eq (text ++ rest) key ≡ true
begins_on text rest [] p = refl
begins_on [] rest (c ∷ cs) p = absurd (true≢false (sym p))
begins_on (x ∷ xs) rest (c ∷ cs) p = and_from _ _ (and_parts _ _ p).0 (begins_on xs rest cs (and_parts _ _ p).1)

-- a key that a longer text begins with is one that the text begins with, or begins with the text
pub begins_or_goes_on : (text rest key : List ℕ) → starts_with nat_eq (text ++ rest) key ≡ true
    → (starts_with nat_eq text key ≡ true) ⊎ ((starts_with nat_eq key text ≡ true) × (length text < length key))
begins_or_goes_on text rest [] p = inl refl
begins_or_goes_on [] rest (c ∷ cs) p = inr (refl, omega arith)
begins_or_goes_on (x ∷ xs) rest (c ∷ cs) p = elim (begins_or_goes_on xs rest cs (and_parts _ _ p).1) [
  | inl q ↦ inl (and_from _ _ (and_parts _ _ p).0 q)
  | inr q ↦ inr (and_from _ _ (let e : c ≡ x = nat_same c x (and_parts _ _ p).0 in grind (arith, nat_tests)) q.0, omega (arith, q.1))
]

-- where no key of the table tells two texts apart
longest-same : (table : Entities) (a b : List ℕ) → ((k : ℕ) (e : Entry) → slice_get table k ≡ Some e → starts_with nat_eq a e.key ≡ starts_with nat_eq b e.key)
    → longest table a ≡ longest table b
longest-same [] a b same = refl
longest-same (x ∷ xs) a b same = let others : longest xs a ≡ longest xs b = longest-same xs a b (λ k e h. same (suc k) e h) in rw (same zero x refl, others)

-- as what follows a text, where no key with which both begin goes on after it
same_test : (text rest key : List ℕ) → (starts_with nat_eq key text ≡ true → length text < length key → starts_with nat_eq (text ++ rest) key ≡ true → ⊥)
    → starts_with nat_eq (text ++ rest) key ≡ starts_with nat_eq text key
same_test text rest key none =
    both_ways _ _ (λ q. elim (begins_or_goes_on text rest key q) [ inl h ↦ h | inr h ↦ absurd (none h.0 h.1 q) ]) (begins_on text rest key)

-- then the longest key is that of the text, whatever follows
pub longest-over : (table : Entities) (text rest : List ℕ) → IsOver table text → longest table (text ++ rest) ≡ longest table text
longest-over table text rest over = longest-same table (text ++ rest) text (λ k e h.
    same_test text rest e.key (λ p longer q. let le : length e.key ≤ length text = over.no_more k e h p in omega (arith, le, longer)))

-- and where no key is the text with one byte more, the longest key stays
pub longest-more : (table : Entities) (bytes : List ℕ) (byte : ℕ) → ((k : ℕ) (e : Entry) → slice_get table k ≡ Some e → e.key ≡ bytes ++ byte ∷ [] → ⊥)
    → longest table (bytes ++ byte ∷ []) ≡ longest table bytes
longest-more table bytes byte none = longest-same table (bytes ++ byte ∷ []) bytes (λ k e h. same_test bytes (byte ∷ []) e.key (λ p longer q.
    none k e h (whole (bytes ++ byte ∷ []) e.key q (omega (arith, no_longer (bytes ++ byte ∷ []) e.key q, longer, length-append bytes (byte ∷ []))))))

-- where no key begins a text
pub longest-none : (table : Entities) (text : List ℕ) → ((k : ℕ) (e : Entry) → slice_get table k ≡ Some e → starts_with nat_eq text e.key ≡ false)
    → longest table text ≡ None
longest-none [] text none = refl
longest-none (x ∷ xs) text none = rw (none zero x refl) (longest-none xs text (λ k e h. none (suc k) e h))

-- the longest key is a key of the table that the text begins with
first_or_later : (x : Entry) (b : Bool) (o : Option Entry) (e : Entry) → cond b (longer_entry x o) o ≡ Some e → ((b ≡ true) × (x ≡ e)) ⊎ (o ≡ Some e)
first_or_later x false o e h = inr h
first_or_later x true None e h = inl (refl, some_same x e h)
first_or_later x true (Some f) e h = elim (cases_Bool (nat_lt (length f.key) (length x.key))) [
  | inl test ↦ inl (refl, some_same x e (sym (ap (λ b. cond b (Some x) (Some f)) test) ∙ h))
  | inr test ↦ inr (sym (ap (λ b. cond b (Some x) (Some f)) test) ∙ h)
]

pub longest_among : (table : Entities) (text : List ℕ) (e : Entry) → longest table text ≡ Some e
    → (k : ℕ) × (slice_get table k ≡ Some e) × (starts_with nat_eq text e.key ≡ true)
longest_among [] text e h = absurd (cc)
longest_among (x ∷ xs) text e h = elim (first_or_later x (starts_with nat_eq text x.key) (longest xs text) e h)
    [ inl here ↦ (zero, ap Some here.1, rw (← here.1) here.0) | inr later ↦ let found = longest_among xs text e later in (suc found.0, found.1, found.2) ]

-- a key that is the text at one index only is the longest of it
pub record IsOnly (table : Entities) (text : List ℕ) (k : ℕ) : Type 0 where
  pub here : (j : ℕ) (f : Entry) → slice_get table j ≡ Some f → f.key ≡ text → j ≡ k

pub longest-whole : (table : Entities) (text : List ℕ) (k : ℕ) (e : Entry) → IsOnly table text k → slice_get table k ≡ Some e → e.key ≡ text
    → longest table text ≡ Some e
longest-whole [] text k e only h is = absurd (cc)
longest-whole (x ∷ xs) text zero e only h is = let same : x ≡ e = cc in let key : x.key ≡ text = ap (λ (y : Entry). y.key) same ∙ is in
    rw (subst (λ t. starts_with nat_eq text t ≡ true) (sym key) (begins_itself text)) (by key (longest xs text) refl ∙ ap Some same) where
      by : x.key ≡ text → (o : Option Entry) → longest xs text ≡ o → longer_entry x o ≡ Some x
      by key None found = refl
      by key (Some f) found = let (j, at, begins) = longest_among xs text f found in let most : length f.key ≤ length text = no_longer text f.key begins in
          let other : length f.key ≡ length text → ⊥ = λ size. (let index : suc j ≡ 0 = only.here (suc j) f at (whole text f.key begins size) in omega arith) in
          let less : nat_lt (length f.key) (length x.key) ≡ true = grind (arith, nat_tests, most, other, ap length key) in
          rw less refl
longest-whole (x ∷ xs) text (suc k) e only h is =
    rw (longest-whole xs text k e (record { here = λ j f at same. omega (arith, only.here (suc j) f at same) }) h is)
    (by (starts_with nat_eq text x.key) refl) where
      by : (b : Bool) → starts_with nat_eq text x.key ≡ b → cond b (longer_entry x (Some e)) (Some e) ≡ Some e
      by false begins = refl
      by true begins = let least : nat_lt (length e.key) (length x.key) ≡ false = grind (arith, nat_tests, no_longer text x.key begins, ap length is) in
          rw least refl
