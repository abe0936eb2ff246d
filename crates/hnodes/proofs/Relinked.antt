-- A list of numbers that keeps where its groups are, where one number changes, or two neighbours change places.
use Rattle.hnodes.proofs.IndexSteps.{nothing, in-group, not-in-group, group-of, group-less}
use Rattle.hnodes.proofs.IndexNames.{ne_eqb, ◌≡◌, ◌≢◌, ℕ, zero, suc, ◌+◌, ◌-◌, ◌<◌, ◌≤◌, eqb, Bool, true, false, cond, List, length, get_or, set, ◌⊎◌, inl, inr, refl, sym, ◌∙◌, ap, subst, add-one, arith, cases_lt, eq-eqb, false_from_ne_true, get_or-set_same, get_or-set_other, length-map, length-set, map-set, none, last_up, link_number, before_of, numbers_of, befores_of, is_in_group, Keep, IsIndexed, AreIndexed, IndexedTo, IsNext, Link, group_of, in_group_of, FitsAt, false≢true, set_comm, cases_eq}
use Rattle.hnodes.proofs.Names.{get_or-map, set-set}
use Rattle.hnodes.proofs.LastUp.{up-within, up-found, up-least, up-past, up-alike, up-alike-from, up-sought, up-other}

-- a link, or an empty one past the end
abbrev pub nth : List Link → ℕ → Link
nth links i = get_or links i nothing

-- where the next ordinal is kept: past the last index, or at the next ordinal
abbrev pub until : (len next : ℕ) → ℕ
until len zero = len
until len (suc n) = n

module _ (w g : ℕ) where
  -- what a number of a group keeps
  pub keep-at : (xs bs : List ℕ) → Keep w xs bs → (i : ℕ) → i < length xs → is_in_group w g (get_or xs i 0) ≡ true
      → get_or bs i 0 ≡ last_up (is_in_group w g) xs i
  keep-at xs bs k i h e = let n = group-of w g (get_or xs i 0) e in rw (← n.1) (k i h n.0)

-- a walk down a group: the ordinal that it is at, and the one that it passed last
pub record Walk (s : ℕ → Bool) (xs : List ℕ) (i at next : ℕ) : Type 0 where
  pub within : i < length xs
  pub is : at ≡ last_up s xs (until (length xs) next)
  pub found : 0 < next → (suc i < next) × (next ≤ length xs) × (s (get_or xs (next - 1) 0) ≡ true)

module _ {s : ℕ → Bool} {xs : List ℕ} {i at next : ℕ} (k : Walk s xs i at next) where
  until-past : (i < until (length xs) next) × (until (length xs) next ≤ length xs)
  until-past = grind (arith, k.within, k.found)

  pub walk-within : at ≤ length xs
  walk-within = omega (arith, k.is, up-within s xs (until (length xs) next), until-past.1)

  pub walk-found : 0 < at → s (get_or xs (at - 1) 0) ≡ true
  walk-found h = rw k.is (up-found s xs (until (length xs) next) (rw k.is at h))

  -- it has reached an index
  pub walk-before : at ≤ suc i → at ≡ last_up s xs (suc i)
  walk-before h = k.is ∙ up-past s xs (suc i) (until (length xs) next) until-past.0
      (λ j a b. false_from_ne_true _ (λ e. absurd (omega (arith, k.is, up-least s xs (until (length xs) next) j b e))))

  pub walk-next : at ≤ suc i → IsNext s xs i next
  walk-next h = record { found = k.found; least = λ j a b e. grind (arith, k.is, k.found, up-least s xs (until (length xs) next) j) }

-- the numbers of links, and what they keep
pub length-numbers : (links : List Link) → length (numbers_of links) ≡ length links
length-numbers links = length-map links link_number

-- where a number was taken out, nothing is
pub freed : (links : List Link) (ys : List ℕ) (i : ℕ) → ys ≡ set (numbers_of links) i none → i < length links → get_or ys i 0 ≡ none
freed links ys i is within = ap (λ ns. get_or ns i 0) is ∙ get_or-set_same (numbers_of links) i none 0 (omega (arith, length-numbers links))

pub before-at : (links : List Link) (i : ℕ) → get_or (befores_of links) i 0 ≡ (nth links i).before
before-at links i = get_or-map before_of links i nothing

pub number-at : (links : List Link) (i : ℕ) → get_or (numbers_of links) i 0 ≡ (nth links i).number
number-at links i = get_or-map link_number links i nothing

-- a step of a walk over links
module _ {last : List ℕ} {links : List Link} (indexed : IsIndexed last links) (g : ℕ) {i at next : ℕ}
    (k : Walk (is_in_group (length last) g) (numbers_of links) i at next) where
  pub down-within : at ≤ length links
  down-within = omega (arith, length-numbers links, walk-within k)

  down-kept : 0 < at → (nth links (at - 1)).before ≡ last_up (is_in_group (length last) g) (numbers_of links) (at - 1)
  down-kept h = let within : at - 1 < length (numbers_of links) = omega (arith, length-numbers links, down-within) in
      sym (before-at links (at - 1)) ∙ keep-at (length last) g (numbers_of links) (befores_of links) indexed.to.kept (at - 1) within (walk-found k h)

  pub down-less : 0 < at → (nth links (at - 1)).before < at
  down-less h = omega (arith, down-kept h, up-within (is_in_group (length last) g) (numbers_of links) (at - 1))

  pub down-walk : suc i < at → Walk (is_in_group (length last) g) (numbers_of links) i (nth links (at - 1)).before at
  down-walk h = let some : 0 < at = omega arith in let e : at - 1 ≡ until (length (numbers_of links)) at = grind arith in
      record { within = k.within; is = rw (← e) (down-kept some); found = λ _. (h, omega (arith, length-numbers links, down-within), walk-found k some) }

-- two lists that differ at one index, in one group, and the next ordinal of that group
pub record Differ (w g i next : ℕ) (xs ys : List ℕ) : Type 0 where
  pub len : length ys ≡ length xs
  pub within : i < length xs
  pub same : (j : ℕ) → j ≢ i → get_or ys j 0 ≡ get_or xs j 0
  pub others : (h : ℕ) → h ≢ g → is_in_group w h (get_or ys i 0) ≡ is_in_group w h (get_or xs i 0)
  pub next_is : IsNext (is_in_group w g) xs i next

-- where an ordinal of a group is kept: past the end, or at a number of the group
abbrev KeptAt : (w : ℕ) → List ℕ → (group k : ℕ) → Type 0
KeptAt w xs h k = (k ≡ length xs) ⊎ ((k < length xs) × (is_in_group w h (get_or xs k 0) ≡ true))

module _ {w g i next : ℕ} {xs ys : List ℕ} (d : Differ w g i next xs ys) where
  alike : (h j : ℕ) → (h ≢ g) ⊎ (j ≢ i) → is_in_group w h (get_or ys j 0) ≡ is_in_group w h (get_or xs j 0)
  alike h j (inr e) = ap (λ n. is_in_group w h n) (d.same j e)
  alike h j (inl e) = elim (cases_eq j i) [ inl f ↦ rw f (d.others h e) | inr f ↦ ap (λ n. is_in_group w h n) (d.same j f) ]

  -- what keeps an ordinal of the group before the index, or past the next ordinal
  up-group : (k : ℕ) → (k ≤ i) ⊎ ((0 < next) × (next ≤ k)) → last_up (is_in_group w g) ys k ≡ last_up (is_in_group w g) xs k
  up-group k (inl h) = up-alike (is_in_group w g) xs ys k (λ j a. alike g j (inr (omega arith)))
  up-group k (inr h) = let f = d.next_is.found h.0 in
      up-alike-from (is_in_group w g) xs ys (next - 1) k (omega arith) f.2 (alike g (next - 1) (inr (omega (arith, f.0))) ∙ f.2)
      (λ j a b. alike g j (inr (omega (arith, f.0))))

  past : (k : ℕ) → KeptAt w xs g k → k ≢ until (length xs) next → i < k → (0 < next) × (next ≤ k)
  past k at e a = grind (arith, d.next_is.found, d.next_is.least k)

  -- anything but the next ordinal keeps what it kept
  slot : (k : ℕ) → KeptAt w xs g k → k ≢ until (length xs) next → last_up (is_in_group w g) ys k ≡ last_up (is_in_group w g) xs k
  slot k at e = elim (cases_lt i k) [ inl a ↦ up-group k (inr (past k at e a)) | inr a ↦ up-group k (inl a) ]

  not-between : (j : ℕ) → suc i ≤ j → j < until (length xs) next → is_in_group w g (get_or ys j 0) ≢ true
  not-between j a b e = let same = alike g j (inr (omega arith)) in grind (arith, same, d.next_is.found, d.next_is.least j)

  -- what the next ordinal keeps
  slot-next : last_up (is_in_group w g) ys (until (length xs) next) ≡ last_up (is_in_group w g) ys (suc i)
  slot-next = let within : suc i ≤ until (length xs) next = grind (arith, d.within, d.next_is.found) in
      up-past (is_in_group w g) ys (suc i) (until (length xs) next) within (λ j a b. false_from_ne_true _ (not-between j a b))

  -- so it is enough that the next ordinal keeps another one
  pub keeps-on : {old new v : ℕ} (h k : ℕ) → KeptAt w xs h k → v ≡ last_up (is_in_group w g) ys (suc i) → old ≡ last_up (is_in_group w h) xs k
      → (h ≡ g → k ≡ until (length xs) next → new ≡ v) → ((h ≢ g) ⊎ (k ≢ until (length xs) next) → new ≡ old) → new ≡ last_up (is_in_group w h) ys k
  keeps-on h k at keeps is here there = elim (cases_eq h g) [
    | inl a ↦ elim (cases_eq k (until (length xs) next)) [
      | inl b ↦ here a b ∙ keeps ∙ sym slot-next ∙ (λ t. last_up (is_in_group w (sym a t)) ys (sym b t))
      | inr b ↦ there (inr b) ∙ is ∙ rw a (sym (slot k (rw a at at) b))
    ]
    | inr a ↦ there (inl a) ∙ is ∙ sym (up-alike (is_in_group w h) xs ys k (λ j b. alike h j (inl a)))
  ]

-- in a list that is the same past an index
pub next-same : (s : ℕ → Bool) (xs ys : List ℕ) (i n : ℕ) → length ys ≡ length xs → ((j : ℕ) → i < j → get_or ys j 0 ≡ get_or xs j 0) → IsNext s xs i n
    → IsNext s ys i n
next-same s xs ys i n len same m = record {
  found = λ h. ((m.found h).0, omega (arith, (m.found h).1), ap s (same (n - 1) (omega (arith, (m.found h).0))) ∙ (m.found h).2);
  least = λ j a b t. m.least j a (omega arith) (sym (ap s (same j a)) ∙ t);
}

-- a hint that a link bears out
module _ {last : List ℕ} {links : List Link} (indexed : IsIndexed last links) (i n : ℕ) (some : 0 < n) (within : n ≤ length links)
    (number : (nth links (n - 1)).number ≢ none) (before : (nth links (n - 1)).before ≡ i + 1) where
  hint-number : get_or (numbers_of links) (n - 1) 0 ≢ none
  hint-number e = number (sym (number-at links (n - 1)) ∙ e)

  hint-up : last_up (in_group_of (length last) (get_or (numbers_of links) (n - 1) 0)) (numbers_of links) (n - 1) ≡ suc i
  hint-up = sym (indexed.to.kept (n - 1) (omega (arith, length-numbers links)) hint-number) ∙ before-at links (n - 1) ∙ before ∙ add-one i

  hint-group : group_of (get_or (numbers_of links) i 0) (length last) ≡ group_of (get_or (numbers_of links) (n - 1) 0) (length last)
  hint-group = let s = in_group_of (length last) (get_or (numbers_of links) (n - 1) 0) in
      let at : last_up s (numbers_of links) (n - 1) - 1 ≡ i = omega (arith, hint-up) in
      (group-of (length last) (group_of (get_or (numbers_of links) (n - 1) 0) (length last)) (get_or (numbers_of links) i 0)
      (rw at at (up-found s (numbers_of links) (n - 1) (omega (arith, hint-up))))).1

  hint-least : (j : ℕ) → i < j → in_group_of (length last) (get_or (numbers_of links) (n - 1) 0) (get_or (numbers_of links) j 0) ≡ true → n ≤ suc j
  hint-least j a t =
      grind (arith, hint-up, up-least (in_group_of (length last) (get_or (numbers_of links) (n - 1) 0)) (numbers_of links) (n - 1) j)

  pub hint-next : IsNext (in_group_of (length last) (get_or (numbers_of links) i 0)) (numbers_of links) i n
  hint-next = let past = up-within (in_group_of (length last) (get_or (numbers_of links) (n - 1) 0)) (numbers_of links) (n - 1) in
      let own = in-group (length last) (group_of (get_or (numbers_of links) (n - 1) 0) (length last)) (get_or (numbers_of links) (n - 1) 0) hint-number refl in
      rw hint-group (record { found = λ _. (omega (arith, hint-up), omega (arith, length-numbers links), own); least = λ j a b t. (some, hint-least j a t) })

-- a list where one number is another one
pub differ-set : (w g i next : ℕ) (xs : List ℕ) (n : ℕ) → i < length xs → ((h : ℕ) → h ≢ g → is_in_group w h n ≡ is_in_group w h (get_or xs i 0))
    → IsNext (is_in_group w g) xs i next → Differ w g i next xs (set xs i n)
differ-set w g i next xs n within others next_is = record {
  len = length-set xs i n;
  within = within;
  same = λ j e. get_or-set_other xs i j n 0 e;
  others = λ h e. ap (λ m. is_in_group w h m) (get_or-set_same xs i n 0 within) ∙ others h e;
  next_is = next_is;
}

-- a link is written, and what kept an ordinal of its group
module _ (last : List ℕ) (links : List Link) (x : Link) (g i next v : ℕ) (last2 : List ℕ) (links2 links3 : List Link) (c : AreIndexed last links)
    (differ : Differ (length last) g i next (numbers_of links) (set (numbers_of links) i x.number)) (group : g < length last)
    (numbers2 : numbers_of links2 ≡ numbers_of (set links i x)) (table2 : last2 ≡ cond (eqb next 0) (set last g v) last)
    (befores2 : (j : ℕ) → get_or (befores_of links2) j 0 ≡ cond (eqb (j + 1) next) v (get_or (befores_of (set links i x)) j 0))
    (numbers3 : numbers_of links3 ≡ numbers_of links2) (befores3 : befores_of links3 ≡ befores_of links2)
    (here : x.number ≢ none → x.before ≡ last_up (in_group_of (length last) x.number) (set (numbers_of links) i x.number) i)
    (keeps : v ≡ last_up (is_in_group (length last) g) (set (numbers_of links) i x.number) (suc i)) where
  abbrev ys : List ℕ
  ys = set (numbers_of links) i x.number

  numbers-are : numbers_of links3 ≡ ys
  numbers-are = numbers3 ∙ numbers2 ∙ map-set link_number links i x

  width-is : length last2 ≡ length last
  width-is = grind (arith, table2, length-set last g v)

  table-other : (h : ℕ) → (h ≢ g) ⊎ (0 < next) → get_or last2 h 0 ≡ get_or last h 0
  table-other h e = grind (arith, table2, get_or-set_other last g h v 0)

  says-at : (h : ℕ) → h < length last → get_or last2 h 0 ≡ last_up (is_in_group (length last) h) ys (length (numbers_of links))
  says-at h a = keeps-on differ h (length (numbers_of links)) (inl refl) keeps (c.indexed.to.says h a)
      (λ same end. rw (same, table2, eq-eqb next 0 (none-next end)) (get_or-set_same last g v 0 group)) (λ e. table-other h (grind arith)) where
        none-next : length (numbers_of links) ≡ until (length (numbers_of links)) next → next ≡ 0
        none-next end = grind (arith, differ.next_is.found)

  befores-at : (j : ℕ) → get_or (befores_of links3) j 0 ≡ cond (eqb (suc j) next) v (get_or (set (befores_of links) i x.before) j 0)
  befores-at j = ap (λ ds. get_or ds j 0) befores3 ∙ befores2 j ∙ (λ t. cond (eqb (add-one j t) next) v (get_or (map-set before_of links i x t) j 0))

  befores-other : (j : ℕ) → suc j ≢ next → get_or (befores_of links3) j 0 ≡ get_or (set (befores_of links) i x.before) j 0
  befores-other j ne = befores-at j ∙ ap (λ b. cond b v (get_or (set (befores_of links) i x.before) j 0)) (ne_eqb (suc j) next ne)

  kept-other : (j : ℕ) → j < length (numbers_of links) → j ≢ i → get_or (numbers_of links) j 0 ≢ none
      → get_or (befores_of links3) j 0 ≡ last_up (in_group_of (length last) (get_or (numbers_of links) j 0)) ys j
  kept-other j h apart some = keeps-on differ own j (inr (h, in-group (length last) own (get_or (numbers_of links) j 0) some refl)) keeps
      (c.indexed.to.kept j h some) (λ same at. befores-at j ∙ ap (λ b. cond b v (get_or (set (befores_of links) i x.before) j 0))
      (eq-eqb (suc j) next (next-is at))) (λ e. befores-other j (other e) ∙ get_or-set_other (befores_of links) i j x.before 0 apart) where
        own : ℕ
        own = group_of (get_or (numbers_of links) j 0) (length last)

        next-is : j ≡ until (length (numbers_of links)) next → suc j ≡ next
        next-is at = grind arith

        other : (own ≢ g) ⊎ (j ≢ until (length (numbers_of links)) next) → suc j ≢ next
        other (inl ne) is = let at : next - 1 ≡ j = omega arith in
            ne (group-of (length last) g (get_or (numbers_of links) j 0) (rw at at (differ.next_is.found (omega arith)).2)).1
        other (inr ne) is = ne (ap (λ n. until (length (numbers_of links)) n) is)

  kept-here : get_or ys i 0 ≢ none → get_or (befores_of links3) i 0 ≡ last_up (in_group_of (length last) (get_or ys i 0)) ys i
  kept-here some = let number : get_or ys i 0 ≡ x.number = get_or-set_same (numbers_of links) i x.number 0 differ.within in
      befores-other i (λ e. omega (arith, (differ.next_is.found (omega arith)).0))
      ∙ get_or-set_same (befores_of links) i x.before 0 (omega (arith, differ.within, length-map links link_number, length-map links before_of))
      ∙ here (λ e. some (number ∙ e)) ∙ ap (λ n. last_up (in_group_of (length last) n) ys i) (sym number)

  kept-all : Keep (length last) ys (befores_of links3)
  kept-all j h some = elim (cases_eq j i) [
    | inl e ↦ rw e (kept-here (rw e at some))
    | inr ne ↦ rw (differ.same j ne) (kept-other j (omega (arith, differ.len)) ne (rw (differ.same j ne) at some))
  ]

  pub rewritten : AreIndexed last2 links3
  rewritten = let says = (λ (h : ℕ) (a : h < length last). says-at h a ∙ ap (last_up (is_in_group (length last) h) ys) (sym differ.len)) in
      let to : IndexedTo last2 links3 (length (numbers_of links3)) = record
      { says = rw (width-is, numbers-are) says; kept = rw (width-is, numbers-are) kept-all } in
      let many : length links3 ≡ length links = omega (arith, ap length numbers-are, differ.len, length-numbers links, length-numbers links3) in
      record { indexed = record { wide = λ _. omega (arith, group, width-is); to = to }; fits = rw many c.fits }

-- A number is taken out of a list that keeps where its groups are, or comes in where nothing is.

-- the ordinals before a number do not change with it
up-set : (s : ℕ → Bool) (xs : List ℕ) (i n : ℕ) → last_up s (set xs i n) i ≡ last_up s xs i
up-set s xs i n = up-alike s xs (set xs i n) i (λ j h. ap s (let ne : j ≢ i = omega arith in get_or-set_other xs i j n 0 ne))

-- where there is a link, each number has a group in the table
pub group-within : {last : List ℕ} {links : List Link} {i : ℕ} → AreIndexed last links → i < length links → (n : ℕ) → group_of n (length last) < length last
group-within {last} {links} {i} c within n = group-less n (length last) (c.indexed.wide (omega arith))

-- a number that is to be taken out
pub record Out (last : List ℕ) (links : List Link) (i next : ℕ) : Type 0 where
  pub are : AreIndexed last links
  pub within : i < length links
  pub some : get_or (numbers_of links) i 0 ≢ none
  pub next_is : IsNext (in_group_of (length last) (nth links i).number) (numbers_of links) i next

pub out_of : (last : List ℕ) (links : List Link) (i next : ℕ) → AreIndexed last links → i < length links → (nth links i).number ≢ none
    → IsNext (in_group_of (length last) (get_or (numbers_of links) i 0)) (numbers_of links) i next → Out last links i next
out_of last links i next are within some next_is =
    record { are = are; within = within; some = λ e. some (sym (number-at links i) ∙ e); next_is = rw (number-at links i) at next_is }

module _ {last : List ℕ} {links : List Link} {i next : ℕ} (o : Out last links i next) where
  out-within-numbers : i < length (numbers_of links)
  out-within-numbers = omega (arith, o.within, length-numbers links)

  pub out-differ : Differ (length last) (group_of (nth links i).number (length last)) i next (numbers_of links) (set (numbers_of links) i none)
  out-differ = let g : ℕ = group_of (nth links i).number (length last) in
      let in_it : group_of (get_or (numbers_of links) i 0) (length last) ≡ g = ap (λ n. group_of n (length last)) (number-at links i) in
      differ-set (length last) g i next (numbers_of links) none out-within-numbers
      (λ h ne. sym (not-in-group (length last) h (get_or (numbers_of links) i 0) (λ e. ne (sym e ∙ in_it)))) o.next_is

  out-kept : (nth links i).before ≡ last_up (in_group_of (length last) (nth links i).number) (numbers_of links) i
  out-kept = sym (before-at links i) ∙ o.are.indexed.to.kept i out-within-numbers o.some
      ∙ ap (λ n. last_up (in_group_of (length last) n) (numbers_of links) i) (number-at links i)

  pub out-before : (nth links i).before ≡ last_up (in_group_of (length last) (nth links i).number) (set (numbers_of links) i none) (suc i)
  out-before = let here = get_or-set_same (numbers_of links) i none 0 out-within-numbers in
      out-kept ∙ grind (arith, here, up-set (in_group_of (length last) (nth links i).number) (numbers_of links) i none)

  pub out-within : (nth links i).before ≤ length links
  out-within = omega (arith, o.within, out-kept, up-within (in_group_of (length last) (nth links i).number) (numbers_of links) i)

  pub out-fit : FitsAt (length last) (set (numbers_of links) i none) i (record { number = (nth links i).number; before = (nth links i).before; hint = next })
  out-fit = let others = (λ (j : ℕ) (a : i < j). get_or-set_other (numbers_of links) i j none 0 (λ e. omega arith)) in
      let past = next-same (in_group_of (length last) (nth links i).number) (numbers_of links) (set (numbers_of links) i none) i next
      (length-set (numbers_of links) i none) others o.next_is in
      record { before = rw (add-one i) out-before; next = past }

-- a link that is to be put in
pub record In (last : List ℕ) (links : List Link) (i : ℕ) (x : Link) : Type 0 where
  pub are : AreIndexed last links
  pub within : i < length links
  pub free : get_or (numbers_of links) i 0 ≡ none
  pub some : x.number ≢ none
  pub fits : FitsAt (length last) (numbers_of links) i x

module _ {last : List ℕ} {links : List Link} {i : ℕ} {x : Link} (o : In last links i x) where
  in-within-numbers : i < length (numbers_of links)
  in-within-numbers = omega (arith, o.within, length-numbers links)

  pub in-differ : Differ (length last) (group_of x.number (length last)) i x.hint (numbers_of links) (set (numbers_of links) i x.number)
  in-differ = differ-set (length last) (group_of x.number (length last)) i x.hint (numbers_of links) x.number in-within-numbers
      (λ h ne. not-in-group (length last) h x.number (λ e. ne (sym e)) ∙ sym (ap (λ n. is_in_group (length last) h n) o.free)) o.fits.next

  in-kept : x.before ≡ last_up (in_group_of (length last) x.number) (numbers_of links) i
  in-kept = let s : ℕ → Bool = in_group_of (length last) x.number in
      o.fits.before ∙ ap (λ k. last_up s (numbers_of links) k) (add-one i) ∙ up-other s (numbers_of links) i (ap s o.free)

  pub in-here : x.before ≡ last_up (in_group_of (length last) x.number) (set (numbers_of links) i x.number) i
  in-here = in-kept ∙ sym (up-set (in_group_of (length last) x.number) (numbers_of links) i x.number)

  pub in-within : x.before ≤ length links
  in-within = omega (arith, o.within, in-kept, up-within (in_group_of (length last) x.number) (numbers_of links) i)

  pub in-keeps : i + 1 ≡ last_up (in_group_of (length last) x.number) (set (numbers_of links) i x.number) (suc i)
  in-keeps = let s : ℕ → Bool = in_group_of (length last) x.number in
      let here : get_or (set (numbers_of links) i x.number) i 0 ≡ x.number = get_or-set_same (numbers_of links) i x.number 0 in-within-numbers in
      add-one i ∙ sym (up-sought s (set (numbers_of links) i x.number) i (ap s here ∙ in-group (length last) (group_of x.number (length last)) x.number o.some
      refl))

-- What numbers keep where they move to a neighbouring ordinal.

-- for the index before, or for the next one, where nothing of its group is between
module _ (s : ℕ → Bool) (ys : List ℕ) (i n : ℕ) (other : s (get_or ys (i + 1) 0) ≡ false) where
  not-here : (j : ℕ) → j ≡ i + 1 → s (get_or ys j 0) ≢ true
  not-here j e t = false≢true (sym other ∙ (sym (ap (λ m. s (get_or ys m 0)) e) ∙ t))

  pub next-down : IsNext s ys (i + 1) n → IsNext s ys i n
  next-down m = record { found = λ h. grind (arith, m.found h); least = λ j a b t. grind (arith, m.least j, not-here j) }

  pub next-up : IsNext s ys i n → IsNext s ys (i + 1) n
  next-up m = record { found = λ h. grind (arith, m.found, not-here (n - 1)); least = λ j a b t. m.least j (omega arith) b t }

  up-down : last_up s ys (i + 1 + 1) ≡ last_up s ys (i + 1)
  up-down = ap (λ k. last_up s ys k) (add-one (i + 1)) ∙ up-other s ys (i + 1) other

module _ (w : ℕ) (ys : List ℕ) (i : ℕ) (x : Link) (free : get_or ys (i + 1) 0 ≡ none) where
  other-here : in_group_of w x.number (get_or ys (i + 1) 0) ≡ false
  other-here = ap (λ n. in_group_of w x.number n) free

  pub fit-down : FitsAt w ys (i + 1) x → FitsAt w ys i x
  fit-down f = record
      { before = f.before ∙ up-down (in_group_of w x.number) ys i x.hint other-here; next = next-down (in_group_of w x.number) ys i x.hint other-here f.next }

-- two neighbours were taken out, the lower one first, and the upper one came in below
module _ (w i : ℕ) (xs : List ℕ) {ys1 ys2 ys3 : List ℕ} (first second : Link) (e1 : ys1 ≡ set xs i none) (e2 : ys2 ≡ set ys1 (i + 1) none)
    (e3 : ys3 ≡ set ys2 i second.number) (within : i + 1 < length xs) (n2 : second.number ≡ get_or ys1 (i + 1) 0) where
  len1 : length ys1 ≡ length xs
  len1 = ap length e1 ∙ length-set xs i none

  len2 : length ys2 ≡ length xs
  len2 = ap length e2 ∙ length-set ys1 (i + 1) none ∙ len1

  len3 : length ys3 ≡ length xs
  len3 = ap length e3 ∙ length-set ys2 i second.number ∙ len2

  other : i + 1 ≢ i
  other e = omega arith

  at1 : get_or ys1 i 0 ≡ none
  at1 = ap (λ ys. get_or ys i 0) e1 ∙ get_or-set_same xs i none 0 (omega arith)

  at3 : get_or ys3 i 0 ≡ second.number
  at3 = ap (λ ys. get_or ys i 0) e3 ∙ get_or-set_same ys2 i second.number 0 (omega (arith, len2))

  same-past2 : (j : ℕ) → j ≢ i → get_or ys3 j 0 ≡ get_or ys2 j 0
  same-past2 j ne = ap (λ ys. get_or ys j 0) e3 ∙ get_or-set_other ys2 i j second.number 0 ne

  free-upper : get_or ys3 (i + 1) 0 ≡ none
  free-upper = same-past2 (i + 1) other ∙ ap (λ ys. get_or ys (i + 1) 0) e2 ∙ get_or-set_same ys1 (i + 1) none 0 (omega (arith, len1))

  same-past1 : (j : ℕ) → j ≢ i → j ≢ i + 1 → get_or ys3 j 0 ≡ get_or ys1 j 0
  same-past1 j ne nf = same-past2 j ne ∙ ap (λ ys. get_or ys j 0) e2 ∙ get_or-set_other ys1 (i + 1) j none 0 nf

  -- both are of one group
  pub fit-same : second.number ≢ none → FitsAt w ys2 (i + 1) second → group_of first.number w ≡ group_of second.number w
      → FitsAt w ys3 (i + 1) (record { number = first.number; before = i + 1; hint = second.hint })
  fit-same some f group = let s : ℕ → Bool = in_group_of w second.number in
      let sought : s (get_or ys3 i 0) ≡ true = ap s at3 ∙ in-group w (group_of second.number w) second.number some refl in
      let up : last_up s ys3 (i + 1 + 1) ≡ i + 1 =
      up-down s ys3 i second.hint (ap s free-upper) ∙ ap (λ k. last_up s ys3 k) (add-one i) ∙ up-sought s ys3 i sought ∙ sym (add-one i) in
      record {
        before = sym up ∙ ap (λ k. last_up (is_in_group w k) ys3 (i + 1 + 1)) (sym group);
        next = subst (λ (k : ℕ). IsNext (is_in_group w k) ys3 (i + 1) second.hint) (sym group)
            (next-same s ys2 ys3 (i + 1) second.hint (len3 ∙ sym len2) (λ j a. same-past2 j (λ e. omega arith)) f.next);
      }

  -- they are of two groups
  pub fit-other : FitsAt w ys1 i first → in_group_of w first.number second.number ≡ false → FitsAt w ys3 (i + 1) first
  fit-other f not-second = record {
    before = f.before ∙ sym (up-down s ys3 i first.hint (ap s free-upper) ∙ up-alike s ys1 ys3 (i + 1) alike);
    next = next-same s ys1 ys3 (i + 1) first.hint (len3 ∙ sym len1) (λ j a. same-past1 j (λ e. omega arith) (λ e. omega arith))
        (next-up s ys1 i first.hint (sym (ap s n2) ∙ not-second) f.next);
  } where
    s : ℕ → Bool
    s = in_group_of w first.number

    alike : (j : ℕ) → j < i + 1 → in_group_of w first.number (get_or ys3 j 0) ≡ in_group_of w first.number (get_or ys1 j 0)
    alike j a = elim (cases_eq j i) [
      | inl e ↦ rw (e, at3, at1) not-second
      | inr ne ↦ ap (in_group_of w first.number) (same-past1 j ne (λ e. omega arith))
    ]

  -- what comes out in the end
  pub exchanged : first.number ≡ get_or xs i 0 → set ys3 (i + 1) first.number ≡ set (set xs i (get_or xs (i + 1) 0)) (i + 1) (get_or xs i 0)
  exchanged n1 = let second_is : second.number ≡ get_or xs (i + 1) 0 = n2 ∙ rw e1 (get_or-set_other xs i (i + 1) none 0 other) in
      let turned = set_comm (set xs i none) (i + 1) i none second.number other in
      rw (e3, e2, e1, turned, set-set xs i none second.number, set-set (set xs i second.number) (i + 1) none first.number, n1, second_is) refl
