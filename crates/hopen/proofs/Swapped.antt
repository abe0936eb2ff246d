-- Members of a list that change places, leave or give way, and the levels that are kept of them.
use Rattle.hopen.proofs.Names.{common_steps, ne_eqb, ◌≡◌, ◌≢◌, ℕ, zero, suc, ◌-◌, ◌<◌, ◌≤◌, eqb, Bool, true, false, cond, ◌&&◌, List, length, map, get_or, set, refl, sym, ◌∙◌, ap, subst, arith, cases_Bool, cases_eq, cases_lt, eqb-true, eqb-false, eqb-zero-suc, get_or-set_same, get_or-set_other, get_or_past, length-set, map-set, set-get_or, set-set, last_up, last_same, up-sought, up-other, up-within, up-found, up-least, up-past, up-alike, IsHeldLevel, IsLinked, AreHoles, exchanged, level_exchanged, nat_tests}
use Rattle.std.proofs.Math.ListN.{get_or-map}
use Rattle.hopen.proofs.Linked.{either, eqb-same, get-set, numbered, same-from, same-hole, same-member, kept-hole, kept-member}

-- where a level goes
module _ (i j p : ℕ) where
  pub moved-upper : p ≡ suc i → level_exchanged i j p ≡ suc j
  moved-upper e = grind (arith, nat_tests)

  pub moved-lower : i < j → p ≡ suc j → level_exchanged i j p ≡ suc i
  moved-lower h e = grind (arith, nat_tests)

  pub moved-other : p ≢ suc i → p ≢ suc j → level_exchanged i j p ≡ p
  moved-other ne nf = grind (arith, nat_tests)

-- a kept level after the member at an index, which kept another level, has left
abbrev pub level_left : ℕ → ℕ → ℕ → ℕ
level_left i b p = cond (eqb p (suc i)) b p

left-other : (i b p : ℕ) → p ≢ suc i → level_left i b p ≡ p
left-other i b p ne = ap (λ v. cond v b p) (ne_eqb p (suc i) ne)

-- both tests pass
and-true : (v w : Bool) → (v && w) ≡ true → (v ≡ true) × (w ≡ true)
and-true v w e = grind arith

-- two levels that change, each at the one that keeps it
module _ (t bs : List ℕ) (i j a b m n p q : ℕ) (less : i < j) (first : p ≡ suc i) (second : q ≡ suc j) (upper : IsHeldLevel t bs a p m)
    (lower : IsHeldLevel t bs b q n) where
  pub moved-table : (k : ℕ) → cond (eqb n 0 && eqb k b) p (cond (eqb m 0 && eqb k a) q (get_or t k 0)) ≡ level_exchanged i j (get_or t k 0)
  moved-table k = grind (arith, cases_Bool, eqb-same, and-true, moved-lower, moved-upper, moved-other, nat_tests)

  pub moved-list : (k : ℕ) → cond (eqb n (suc k)) p (cond (eqb m (suc k)) q (get_or bs k 0)) ≡ level_exchanged i j (get_or bs k 0)
  moved-list k = grind (arith, cases_Bool, moved-lower, moved-upper, moved-other, nat_tests)

-- a level that changes at the one that keeps it
module _ (t bs : List ℕ) (i a n b : ℕ) (held : IsHeldLevel t bs a (suc i) n) where
  left-table : (k : ℕ) → cond (eqb n 0 && eqb k a) b (get_or t k 0) ≡ level_left i b (get_or t k 0)
  left-table k = grind (arith, cases_Bool, eqb-same, and-true, nat_tests)

  left-list : (k : ℕ) → cond (eqb n (suc k)) b (get_or bs k 0) ≡ level_left i b (get_or bs k 0)
  left-list k = grind (arith, cases_Bool, nat_tests)

-- a list in which two members have changed places
module _ {X : Type 0} (i j : ℕ) (d : X) (xs : List X) where
  pub exchanged-length : length (exchanged i j d xs) ≡ length xs
  exchanged-length = length-set (set xs i (get_or xs j d)) j (get_or xs i d) ∙ length-set xs i (get_or xs j d)

  pub exchanged-upper : i < j → j < length xs → get_or (exchanged i j d xs) i d ≡ get_or xs j d
  exchanged-upper less h = grind (arith, get_or-set_other, get_or-set_same)

  pub exchanged-lower : j < length xs → get_or (exchanged i j d xs) j d ≡ get_or xs i d
  exchanged-lower h = get_or-set_same (set xs i (get_or xs j d)) j (get_or xs i d) d (omega (arith, length-set xs i (get_or xs j d)))

  pub exchanged-apart : (m : ℕ) → m ≢ i → m ≢ j → get_or (exchanged i j d xs) m d ≡ get_or xs m d
  exchanged-apart m ne nf = get_or-set_other (set xs i (get_or xs j d)) j m (get_or xs i d) d nf ∙ get_or-set_other xs i m (get_or xs j d) d ne

  pub exchanged-same : get_or xs i d ≡ get_or xs j d → exchanged i j d xs ≡ xs
  exchanged-same e = (λ r. set (set xs i (sym e r)) j (e r)) ∙ ap (λ l. set l j (get_or xs j d)) (set-get_or xs i d) ∙ set-get_or xs j d

  pub exchanged-map : {Y : Type 0} (f : X → Y) → map f (exchanged i j d xs) ≡ exchanged i j (f d) (map f xs)
  exchanged-map f = grind (arith, map-set, get_or-map)

-- where a number is last, once two others have changed places that have holes alone between them
module _ (s : ℕ → Bool) (hole : s 0 ≡ false) (i j : ℕ) (ns : List ℕ) (less : i < j) (within : j < length ns) (holes : AreHoles i j ns) where
  abbrev ms : List ℕ
  ms = exchanged i j 0 ns

  up-before : (n : ℕ) → n ≤ i → last_up s ms n ≡ last_up s ns n
  up-before n h = up-alike s ns ms n (λ m f. ap s (exchanged-apart i j 0 ns m (λ e. absurd (omega arith)) (λ e. absurd (omega arith))))

  -- holes are not sought
  up-holes : last_up s ns j ≡ last_up s ns (suc i)
  up-holes = up-past s ns (suc i) j less (λ m a b. ap s (holes m a b) ∙ hole)

  up-between : last_up s ms j ≡ last_up s ms (suc i)
  up-between = up-past s ms (suc i) j less (λ m a b. grind (arith, exchanged-apart i j 0 ns m, holes m a b, hole))

  -- not both are sought
  module _ (one : s (get_or ns i 0) ≡ true → s (get_or ns j 0) ≡ false) where
    at-pair : last_up s ms (suc j) ≡ level_exchanged i j (last_up s ns (suc j))
    at-pair = let upper = exchanged-upper i j 0 ns less within in let lower = exchanged-lower i j 0 ns within in
        grind (arith, cases_Bool, one, up-within s ns i, up-holes, up-between, upper, lower, up-before i, up-sought, up-other, nat_tests)

    up-swapped : (n : ℕ) → j < n → last_up s ms n ≡ level_exchanged i j (last_up s ns n)
    up-swapped zero h = absurd (omega arith)
    up-swapped (suc n) h = grind (arith, up-swapped n, up-sought, exchanged-apart, moved-other, up-other, cases_Bool, at-pair, nat_tests)

-- the level of a member at an index or below it, of the same number
pub record Walks (ns : List ℕ) (i p : ℕ) : Type 0 where
  pub below : i < p
  pub most : p ≤ length ns
  pub number : get_or ns (p - 1) 0 ≡ get_or ns i 0

-- whose level it is where a number is last
up-at : (k : ℕ) (ns : List ℕ) (n i : ℕ) → last_up (numbered k) ns n ≡ suc i → get_or ns i 0 ≡ suc k
up-at k ns n i e = grind (arith, up-found (numbered k) ns n, eqb-true)

module _ (t ns bs : List ℕ) (l : IsLinked t ns bs) (i : ℕ) where
  -- whose level it is that the table says
  pub table-at : (k : ℕ) → get_or t k 0 ≡ suc i → get_or ns i 0 ≡ suc k
  table-at k e = up-at k ns (length ns) i (sym (l.says k) ∙ e)

  module _ (a : ℕ) (member : get_or ns i 0 ≡ suc a) where
    -- the one in the list that keeps its level is below it, of its number
    list-own : length bs ≡ length ns → (j : ℕ) → get_or bs j 0 ≡ suc i → (i < j) × (j < length ns) × (get_or ns j 0 ≡ suc a)
    list-own long j e = let k = get_or ns j 0 - 1 in
        let kept = kept-member t ns bs l j in
        grind (arith, nat_tests, kept-hole t ns bs l j, kept, get_or_past bs j 0, cases_lt j (length ns), up-within (numbered k) ns j, up-at k ns j i)

    -- a member past it of its number has a level past it
    past-own : (n j : ℕ) → j < n → get_or ns j 0 ≡ suc a → suc j ≤ last_up (numbered a) ns n
    past-own n j h e = up-least (numbered a) ns n j h (ap (numbered a) e ∙ eqb-same (suc a))

    -- the table says its level at its own number alone
    own-table : (k : ℕ) → get_or t k 0 ≡ suc i → k ≡ a
    own-table k e = omega (arith, table-at k e)

    module _ (long : length bs ≡ length ns) where
      -- the table keeps the level of one that has none of its number below it
      pub held-none : get_or t a 0 ≡ suc i → IsHeldLevel t bs a (suc i) 0
      held-none here = record {
        in_table = λ k e. (refl, own-table k e);
        in_list = λ j e. let own = list-own long j e in absurd (omega (arith, own.0, l.says a, past-own (length ns) j own.1 own.2));
        here = λ e. here;
        there = λ j e. absurd (omega arith);
      }

      -- else the next one keeps it, and no later one
      later : (j k : ℕ) → get_or bs j 0 ≡ suc i → get_or bs k 0 ≡ suc i → j < k → ⊥
      later j k e f less = grind (arith, list-own long j e, list-own long k f, kept-member t ns bs l k, past-own k j less)

      pub held-next : (n j : ℕ) → n ≡ suc j → get_or bs j 0 ≡ suc i → IsHeldLevel t bs a (suc i) n
      held-next n j next here = let own = list-own long j here in let after = past-own (length ns) j own.1 own.2 in record {
        in_table = λ k e. absurd (grind (arith, own-table k e, own.0, l.says a, after));
        in_list = λ k e. grind (arith, later j k here e, later k j e here, cases_lt j k, cases_lt k j);
        here = λ e. absurd (omega arith);
        there = λ k e. grind arith;
      }

      -- the member that keeps it is given, or there is none
      pub held-at : (n : ℕ) → (n ≡ 0 → get_or t a 0 ≡ suc i) → ((j : ℕ) → n ≡ suc j → get_or bs j 0 ≡ suc i) → IsHeldLevel t bs a (suc i) n
      held-at zero here there = held-none (here refl)
      held-at (suc j) here there = held-next (suc j) j refl (there j refl)

    pub walk-start : i < length ns → Walks ns i (get_or t a 0)
    walk-start h = let up = l.says a in let least = past-own (length ns) i h member in
        grind (arith, common_steps, nat_tests, eqb-true, numbered, past-own, up-found, up-within)

    -- so its number is in the table
    pub walk-in : i < length ns → a < length t
    walk-in h = grind (arith, (walk-start h).below, cases_lt a (length t), get_or_past t a 0)

    pub walk-up : (p : ℕ) → Walks ns i p → suc i < p → Walks ns i (get_or bs (p - 1) 0) × (get_or bs (p - 1) 0 < p)
    walk-up p w h = let most = w.most in let up = kept-member t ns bs l (p - 1) (omega arith) a (w.number ∙ member) in
        let least = past-own (p - 1) i (omega arith) member in
        grind (arith, common_steps, nat_tests, eqb-true, kept-member, numbered, past-own, up-found, up-within)

-- Levels that change by a map, where the numbers of a list change at two indices alone, between which there are holes.
module _ (t ns bs : List ℕ) (l : IsLinked t ns bs) (i j : ℕ) (goes : ℕ → ℕ) (ms u cs : List ℕ) (many : length ms ≡ length ns) (within : j < length ns)
    (apart : (m : ℕ) → m ≢ i → m ≢ j → get_or ms m 0 ≡ get_or ns m 0) (holes : AreHoles i j ns) (still : (p : ℕ) → p ≤ i → goes p ≡ p)
    (before : (k n : ℕ) → n ≤ i → last_up (numbered k) ms n ≡ last_up (numbered k) ns n)
    (past : (k n : ℕ) → j < n → last_up (numbered k) ms n ≡ goes (last_up (numbered k) ns n)) (table : (k : ℕ) → get_or u k 0 ≡ goes (get_or t k 0))
    (rest : (m : ℕ) → m ≢ i → m ≢ j → get_or cs m 0 ≡ goes (get_or bs m 0)) (upper : get_or cs i 0 ≡ last_same ms i)
    (lower : get_or cs j 0 ≡ last_same ms j) where
  rest-keeps : (m : ℕ) → m < length ns → m ≢ i → m ≢ j → get_or cs m 0 ≡ last_same ms m
  rest-keeps m h ne nf = same-from ms m (get_or cs m 0) (λ e. grind (arith, kept-hole t ns bs l m h, apart m ne nf, rest m ne nf, still 0))
      (λ k e. let kept = kept-member t ns bs l m h k in let up = up-within (numbered k) ns m in
      grind (arith, kept, apart m ne nf, rest m ne nf, still (get_or bs m 0), up, before k m, past k m, holes m, cases_lt m i, cases_lt j m))

  linked-by : IsLinked u ms cs
  linked-by = record {
    says = λ k. grind (arith, table k, l.says k, past k (length ns) within, many);
    kept = λ m h. grind (arith, cases_eq m i, cases_eq m j, upper, lower, rest-keeps m, many);
  }

-- two members that have holes alone between them, and are not of one number, change places
module _ (t ns bs : List ℕ) (l : IsLinked t ns bs) (i j a b : ℕ) (less : i < j) (within : j < length ns) (first : get_or ns i 0 ≡ suc a)
    (second : get_or ns j 0 ≡ suc b) (differ : a ≢ b) (holes : AreHoles i j ns) (u cs : List ℕ)
    (table : (k : ℕ) → get_or u k 0 ≡ level_exchanged i j (get_or t k 0)) (upper : get_or cs i 0 ≡ get_or bs j 0) (lower : get_or cs j 0 ≡ get_or bs i 0)
    (rest : (m : ℕ) → m ≢ i → m ≢ j → get_or cs m 0 ≡ level_exchanged i j (get_or bs m 0)) where
  abbrev after : List ℕ
  after = exchanged i j 0 ns

  -- where a number is last
  one-of : (k : ℕ) → numbered k (get_or ns i 0) ≡ true → numbered k (get_or ns j 0) ≡ false
  one-of k e = ne_eqb (get_or ns j 0) (suc k) (λ f. let g : get_or ns i 0 ≡ suc k = eqb-true _ (suc k) e in differ (omega arith))

  swapped : (k n : ℕ) → j < n → last_up (numbered k) after n ≡ level_exchanged i j (last_up (numbered k) ns n)
  swapped k n h = up-swapped (numbered k) (eqb-zero-suc k) i j ns less within holes (one-of k) n h

  before : (k n : ℕ) → n ≤ i → last_up (numbered k) after n ≡ last_up (numbered k) ns n
  before k n h = up-before (numbered k) (eqb-zero-suc k) i j ns less within holes n h

  -- what the two keep
  upper-keeps : get_or cs i 0 ≡ last_same after i
  upper-keeps = upper ∙ kept-member t ns bs l j within b second ∙ up-holes (numbered b) (eqb-zero-suc b) i j ns less within holes
      ∙ up-other (numbered b) ns i (ne_eqb (get_or ns i 0) (suc b) (λ e. differ (omega arith))) ∙ sym (before b i (omega arith))
      ∙ sym (same-member after i b (exchanged-upper i j 0 ns less within ∙ second))

  lower-keeps : get_or cs j 0 ≡ last_same after j
  lower-keeps = lower ∙ kept-member t ns bs l i (omega arith) a first ∙ sym (before a i (omega arith))
      ∙ sym (up-other (numbered a) after i (ne_eqb (get_or after i 0) (suc a) (λ e. differ (omega (arith, exchanged-upper i j 0 ns less within)))))
      ∙ sym (up-between (numbered a) (eqb-zero-suc a) i j ns less within holes) ∙ sym (same-member after j a (exchanged-lower i j 0 ns within ∙ first))

  pub linked-swapped : IsLinked u (exchanged i j 0 ns) cs
  linked-swapped = linked-by t ns bs l i j (level_exchanged i j) after u cs (exchanged-length i j 0 ns) within (exchanged-apart i j 0 ns) holes
      (λ p low. moved-other i j p (λ e. absurd (omega arith)) (λ e. absurd (omega arith))) before swapped table rest upper-keeps lower-keeps

-- where a number is last, once a member has left a hole
module _ (s : ℕ → Bool) (hole : s 0 ≡ false) (i : ℕ) (ns : List ℕ) (within : i < length ns) where
  up-above : (n : ℕ) → n ≤ i → last_up s (set ns i 0) n ≡ last_up s ns n
  up-above n h = up-alike s ns (set ns i 0) n (λ m less. ap s (get_or-set_other ns i m 0 0 (λ e. absurd (omega arith))))

  at-hole : last_up s (set ns i 0) (suc i) ≡ last_up s ns i
  at-hole = up-other s (set ns i 0) i (ap s (get_or-set_same ns i 0 0 within) ∙ hole) ∙ up-above i (omega arith)

  up-left : (n : ℕ) → i < n → last_up s (set ns i 0) n ≡ level_left i (last_up s ns i) (last_up s ns n)
  up-left zero h = absurd (omega arith)
  up-left (suc n) h = grind (arith, up-left n, up-sought, up-other, up-within s ns i, get_or-set_other, cases_Bool, at-hole, nat_tests)

-- a member leaves a hole, and the one that kept its level keeps what it kept
module _ (t ns bs : List ℕ) (l : IsLinked t ns bs) (i a next : ℕ) (within : i < length ns) (held : IsHeldLevel t bs a (suc i) next) (u cs : List ℕ)
    (table : (k : ℕ) → get_or u k 0 ≡ cond (eqb next 0 && eqb k a) (get_or bs i 0) (get_or t k 0))
    (list : (m : ℕ) → m ≢ i → get_or cs m 0 ≡ cond (eqb next (suc m)) (get_or bs i 0) (get_or bs m 0)) (gone : get_or cs i 0 ≡ 0) where
  abbrev left : List ℕ
  left = set ns i 0

  -- where a number is last past the hole
  left-past : (k n : ℕ) → i < n → level_left i (get_or bs i 0) (last_up (numbered k) ns n) ≡ last_up (numbered k) left n
  left-past k n h = grind (arith, common_steps, nat_tests, cases_eq, eqb-zero-suc, kept-member, left-other, numbered, up-at, up-left)

  pub linked-left : IsLinked u (set ns i 0) cs
  linked-left = linked-by t ns bs l i i (level_left i (get_or bs i 0)) left u cs (length-set ns i 0) within (λ m ne nf. get_or-set_other ns i m 0 0 ne)
      (λ m a b. absurd (omega arith)) (λ p low. left-other i (get_or bs i 0) p (λ e. absurd (omega arith)))
      (λ k. up-above (numbered k) (eqb-zero-suc k) i ns within) (λ k n h. sym (left-past k n h))
      (λ k. table k ∙ left-table t bs i a next (get_or bs i 0) held k) (λ m ne nf. list m ne ∙ left-list t bs i a next (get_or bs i 0) held m) hole-keeps
      hole-keeps where
        hole-keeps : get_or cs i 0 ≡ last_same left i
        hole-keeps = gone ∙ sym (same-hole left i (get_or-set_same ns i 0 0 within))

-- a hole is filled with a number that is nowhere
module _ (t ns bs : List ℕ) (l : IsLinked t ns bs) (i new : ℕ) (within : i < length ns) (new_in : new < length t) (empty : get_or ns i 0 ≡ 0)
    (fresh : get_or t new 0 ≡ 0) where
  abbrev filled : List ℕ
  filled = set ns i (suc new)

  there : get_or filled i 0 ≡ suc new
  there = get_or-set_same ns i (suc new) 0 within

  elsewhere : (m : ℕ) → m ≢ i → get_or filled m 0 ≡ get_or ns m 0
  elsewhere m ne = get_or-set_other ns i m (suc new) 0 ne

  not-new : (m : ℕ) → m < length ns → numbered new (get_or ns m 0) ≡ false
  not-new m h = grind (arith, common_steps, nat_tests, cases_Bool, numbered, up-least)

  still-not : (m : ℕ) → m < length ns → m ≢ i → numbered new (get_or filled m 0) ≡ false
  still-not m h ne = ap (numbered new) (elsewhere m ne) ∙ not-new m h

  -- the new number is last there, and nowhere before
  new-up : last_up (numbered new) filled (length ns) ≡ suc i
  new-up = grind (arith, up-past (numbered new) filled (suc i) (length ns) within, still-not, up-sought (numbered new) filled i, there, eqb-same (suc new))

  new-before : last_up (numbered new) filled i ≡ 0
  new-before = up-past (numbered new) filled 0 i (omega arith) (λ m a b. still-not m (omega arith) (λ e. absurd (omega arith)))

  -- another number is last where it was
  up-filled : (k n : ℕ) → k ≢ new → last_up (numbered k) filled n ≡ last_up (numbered k) ns n
  up-filled k n ne = up-alike (numbered k) ns filled n (λ m h. grind (arith, nat_tests, cases_eq m i, there, elsewhere m, empty))

  rest-filled : (m : ℕ) → m < length ns → m ≢ i → get_or bs m 0 ≡ last_same filled m
  rest-filled m h ne = same-from filled m (get_or bs m 0) (λ e. kept-hole t ns bs l m h (sym (elsewhere m ne) ∙ e)) (λ k e. number k (sym (elsewhere m ne) ∙ e))
    where
      number : (k : ℕ) → get_or ns m 0 ≡ suc k → get_or bs m 0 ≡ last_up (numbered k) filled m
      number k e = kept-member t ns bs l m h k e ∙ sym (up-filled k m (λ f. eqb-false (get_or ns m 0) (suc new) (not-new m h) (omega arith)))

  filled-keeps : get_or bs i 0 ≡ last_same filled i
  filled-keeps = kept-hole t ns bs l i within empty ∙ sym new-before ∙ sym (same-member filled i new there)

  filled-says : (k : ℕ) → get_or (set t new (suc i)) k 0 ≡ last_up (numbered k) filled (length ns)
  filled-says k = either (λ m. get_or (set t new (suc i)) m 0 ≡ last_up (numbered m) filled (length ns)) new k
      (get_or-set_same t new (suc i) 0 new_in ∙ sym new-up) (λ ne. get_or-set_other t new k (suc i) 0 ne ∙ l.says k ∙ sym (up-filled k (length ns) ne))

  pub linked-filled : IsLinked (set t new (suc i)) (set ns i (suc new)) bs
  linked-filled = let many = length-set ns i (suc new) in record
      { says = λ k. grind (arith, filled-says k, many); kept = λ m h. grind (arith, cases_eq m i, filled-keeps, rest-filled m, many) }

-- a number that is nowhere else leaves a hole
module _ (t ns bs : List ℕ) (l : IsLinked t ns bs) (i old : ℕ) (member : get_or ns i 0 ≡ suc old) (long : length bs ≡ length ns) (within : i < length ns)
    (none_above : get_or bs i 0 ≡ 0) (none_below : get_or t old 0 ≡ suc i) where
  pub left-alone : IsLinked (set t old 0) (set ns i 0) bs
  left-alone = linked-left t ns bs l i old 0 within (held-none t ns bs l i old member long none_below) (set t old 0) bs
      (λ k. get-set t old 0 k (walk-in t ns bs l i old member within) ∙ ap (λ b. cond (eqb k old) b (get_or t k 0)) (sym none_above))
      (λ m ne. sym (ap (λ v. cond v (get_or bs i 0) (get_or bs m 0)) (eqb-zero-suc m))) none_above

  -- or gives way to one that is nowhere
  pub linked-fresh : (new : ℕ) → new < length t → get_or t new 0 ≡ 0 → IsLinked (set (set t old 0) new (suc i)) (set ns i (suc new)) bs
  linked-fresh new new_in fresh =
      let still : get_or (set t old 0) new 0 ≡ 0 = get_or-set_other t old new 0 0 (λ e. absurd (omega (arith, ap (λ k. get_or t k 0) e))) ∙ fresh in
      subst (λ xs. IsLinked (set (set t old 0) new (suc i)) xs bs) (set-set ns i 0 (suc new)) (linked-filled (set t old 0) (set ns i 0) bs left-alone i new
      (omega (arith, length-set ns i 0)) (omega (arith, length-set t old 0)) (get_or-set_same ns i 0 0 within) still)

-- two members that have holes alone between them, and are nowhere below, change places
module _ (t ns bs : List ℕ) (l : IsLinked t ns bs) (long : length bs ≡ length ns) (i j a b : ℕ) (less : i < j) (within : j < length ns)
    (first : get_or ns i 0 ≡ suc a) (second : get_or ns j 0 ≡ suc b) (holes : AreHoles i j ns) (upper : get_or t a 0 ≡ suc i)
    (lower : get_or t b 0 ≡ suc j) where
  abbrev table : List ℕ
  table = set (set t a (suc j)) b (suc i)

  held-upper : IsHeldLevel t bs a (suc i) 0
  held-upper = held-none t ns bs l i a first long upper

  held-lower : IsHeldLevel t bs b (suc j) 0
  held-lower = held-none t ns bs l j b second long lower

  table-alone : (k : ℕ) → get_or table k 0 ≡ level_exchanged i j (get_or t k 0)
  table-alone k = grind (arith, common_steps, nat_tests, get-set, held-lower, held-upper, length-set, moved-table, walk-in)

  list-alone : (m : ℕ) → get_or bs m 0 ≡ level_exchanged i j (get_or bs m 0)
  list-alone m = grind (arith, moved-other i j (get_or bs m 0), held-upper.in_list m, held-lower.in_list m)

  differ : a ≢ b
  differ e = omega (arith, ap (λ n. get_or t n 0) e)

  pub linked-alone : IsLinked (set (set t a (suc j)) b (suc i)) (exchanged i j 0 ns) (exchanged i j 0 bs)
  linked-alone = linked-swapped t ns bs l i j a b less within first second differ holes table (exchanged i j 0 bs) table-alone
      (exchanged-upper i j 0 bs less (omega arith)) (exchanged-lower i j 0 bs (omega arith)) (λ m ne nf. exchanged-apart i j 0 bs m ne nf ∙ list-alone m)
