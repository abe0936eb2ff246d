-- Groups of numbers, the walk down a group, and what is kept of a list under each change.
use Rattle.hnodes.proofs.IndexNames.{◌≡◌, ◌≢◌, ℕ, true, false, eqb, List, get_or, eqb-true, ne_eqb, none, last_up, is_in_group, numbers_of, Link, group_of, ◌<◌, ◌-◌, arith, zero, suc, ◌≤◌, Bool, length, refl, sym, ◌∙◌, ap, subst, get_or-map, get_or_default, length-map, link_number, before_of, befores_of, Keep, IsIndexed, in_group_of, [], ◌∷◌, ◌++◌, map, take, set, inl, inr, cases_lt, get_or-set_same, get_or-set_other, length-set, length-take-le, length_push, take-map, take-append-le, IndexedTo}
use Rattle.hnodes.proofs.Names.{and_le_r, cases_eq, get_or-take, get_or_push, take_all}
use Rattle.hnodes.proofs.LastUp.{up-sought, up-other, up-within, up-found, up-alike}
use Rattle.hnodes.proofs.IndexNames.{nat_tests}

-- a link of nothing
abbrev pub nothing : Link
nothing = record { number = 0; before = 0; hint = 0 }

abbrev pub nearest : List Link → (width group : ℕ) → ℕ → ℕ
nearest links width group k = last_up (is_in_group width group) (numbers_of links) k

-- and where the group of the number at an index is last before it
abbrev pub own_nearest : List Link → (width : ℕ) → ℕ → ℕ
own_nearest links width i = nearest links width (group_of (get_or (numbers_of links) i 0) width) i

-- each number has one, where there are any
pub group-less : (n width : ℕ) → 0 < width → group_of n width < width
group-less n width wide = omega (arith, and_le_r n (width - 1))

module _ (width group n : ℕ) where
  pub in-group : n ≢ none → group_of n width ≡ group → is_in_group width group n ≡ true
  in-group some is = grind arith

  pub not-in-group : group_of n width ≢ group → is_in_group width group n ≡ false
  not-in-group other = grind arith

  pub none-in-group : n ≡ none → is_in_group width group n ≡ false
  none-in-group is = grind arith

  pub group-of : is_in_group width group n ≡ true → (n ≢ none) × (group_of n width ≡ group)
  group-of e = grind (arith, nat_tests)

-- The walk down a group to where a number is.

-- where a number is last among the first links
abbrev pub sought_up : List Link → ℕ → ℕ → ℕ
sought_up links number k = last_up (λ n. eqb n number) (numbers_of links) k

-- who seeks fewer numbers may go on from where more are sought
up-down : (p q : ℕ → Bool) (ns : List ℕ) → ((n : ℕ) → q n ≡ true → p n ≡ true) → (k : ℕ) → last_up q ns k ≡ last_up q ns (last_up p ns k)
up-down p q ns fewer zero = refl
up-down p q ns fewer (suc i) = grind (arith, up-down p q ns fewer i, fewer (get_or ns i 0))

-- the sought number is of its own group
own-group : (width number : ℕ) → number ≢ none → (n : ℕ) → eqb n number ≡ true → in_group_of width number n ≡ true
own-group width number some n e = grind (arith, eqb-true n number)

-- so what a search for it finds is found from the nearest ordinal of its group on
from-group : (links : List Link) (width number k : ℕ) → number ≢ none
    → sought_up links number k ≡ sought_up links number (nearest links width (group_of number width) k)
from-group links width number k some = up-down (in_group_of width number) (λ n. eqb n number) (numbers_of links) (own-group width number some) k

-- at the ordinal, if it is one, a number of the sought one's group is
pub record Walks (links : List Link) (number ordinal : ℕ) : Type 0 where
  pub width : ℕ
  pub kept : Keep width (numbers_of links) (befores_of links)
  pub group : 0 < ordinal → in_group_of width number (get_or (numbers_of links) (ordinal - 1) 0) ≡ true

walks-up : (links : List Link) (width number ordinal k : ℕ) → Keep width (numbers_of links) (befores_of links)
    → ordinal ≡ nearest links width (group_of number width) k → Walks links number ordinal
walks-up links width number ordinal k kept is =
    record { width = width; kept = kept; group = rw is (up-found (in_group_of width number) (numbers_of links) k) }

-- the link at an ordinal
pub record IsAt (links : List Link) (ordinal : ℕ) (x : Link) : Type 0 where
  pub some : 0 < ordinal
  pub within : ordinal ≤ length links
  pub is : x ≡ get_or links (ordinal - 1) x

module _ {links : List Link} {ordinal : ℕ} {x : Link} (at : IsAt links ordinal x) where
  pub number-at : get_or (numbers_of links) (ordinal - 1) 0 ≡ x.number
  number-at = get_or-map link_number links (ordinal - 1) x 0 (omega (arith, at.some, at.within)) ∙ ap link_number (sym at.is)

  before-at : get_or (befores_of links) (ordinal - 1) 0 ≡ x.before
  before-at = get_or-map before_of links (ordinal - 1) x 0 (omega (arith, at.some, at.within)) ∙ ap before_of (sym at.is)

-- a step of the walk
module _ {links : List Link} {number ordinal : ℕ} {x : Link} (some : number ≢ none) (w : Walks links number ordinal) (at : IsAt links ordinal x) where
  kept-at : x.before ≡ nearest links w.width (group_of number w.width) (ordinal - 1)
  kept-at = let in_group = group-of w.width (group_of number w.width) (get_or (numbers_of links) (ordinal - 1) 0) (w.group at.some) in
      rw (← in_group.1) (sym (before-at at) ∙ w.kept (ordinal - 1) (omega (arith, at.some, at.within, length-map links link_number)) in_group.0)

  pub walk-le : x.before ≤ ordinal - 1
  walk-le = omega (arith, kept-at, up-within (in_group_of w.width number) (numbers_of links) (ordinal - 1))

  pub walk-on : Walks links number x.before
  walk-on = walks-up links w.width number x.before (ordinal - 1) w.kept kept-at

  -- nothing is missed on the way
  pub walk-down : sought_up links number (ordinal - 1) ≡ sought_up links number x.before
  walk-down = from-group links w.width number (ordinal - 1) some ∙ ap (sought_up links number) (sym kept-at)

  pub walk-here : x.number ≡ number → sought_up links number ordinal ≡ ordinal
  walk-here same = let next : ordinal ≡ suc (ordinal - 1) = omega (arith, at.some) in
      let here = up-sought (λ n. eqb n number) (numbers_of links) (ordinal - 1) in grind (arith, number-at at)

  pub walk-not : x.number ≢ number → sought_up links number ordinal ≡ sought_up links number x.before
  walk-not other = let next : ordinal ≡ suc (ordinal - 1) = omega (arith, at.some) in
      ap (sought_up links number) next ∙ up-other (λ n. eqb n number) (numbers_of links) (ordinal - 1)
      (ne_eqb (get_or (numbers_of links) (ordinal - 1) 0) number (λ same. other (sym (number-at at) ∙ same))) ∙ walk-down

-- the walk from an ordinal of a list on
pub walk-from : {last : List ℕ} {links : List Link} {ordinal : ℕ} {x : Link} → IsIndexed last links → IsAt links ordinal x → x.number ≢ none
    → Walks links x.number ordinal
walk-from {last} {links} {ordinal} {x} c at some = record {
  width = length last;
  kept = c.to.kept;
  group = λ _. ap (in_group_of (length last) x.number) (number-at at) ∙ in-group (length last) (group_of x.number (length last)) x.number some refl;
}

-- the walk from the last ordinal of a group
module _ {last : List ℕ} {links : List Link} (c : IsIndexed last links) (number ordinal : ℕ) (some : number ≢ none) (wide : 0 < length last)
    (is : ordinal ≡ get_or last (group_of number (length last)) ordinal) where
  last-at : ordinal ≡ nearest links (length last) (group_of number (length last)) (length (numbers_of links))
  last-at = let within = group-less number (length last) wide in
      is ∙ get_or_default last (group_of number (length last)) ordinal 0 within ∙ c.to.says (group_of number (length last)) within

  pub last-le : ordinal ≤ length links
  last-le = omega (arith, last-at, up-within (in_group_of (length last) number) (numbers_of links) (length (numbers_of links)), length-map links link_number)

  pub last-walks : Walks links number ordinal
  last-walks = walks-up links (length last) number ordinal (length (numbers_of links)) c.to.kept last-at

  pub last-found : sought_up links number (length (numbers_of links)) ≡ sought_up links number ordinal
  last-found = from-group links (length last) number (length (numbers_of links)) some ∙ ap (sought_up links number) (sym last-at)

-- What is kept of a list of numbers, under each change.

-- a table says no ordinal past the end
pub says-le : (last : List ℕ) (links : List Link) (k g : ℕ) → IndexedTo last links k → g < length last → get_or last g 0 ≤ k
says-le last links k g c h = omega (arith, c.says g h, up-within (is_in_group (length last) g) (numbers_of links) k)

-- links that begin alike
module _ (k : ℕ) (xs ys : List Link) (same : take k xs ≡ take k ys) (in_xs : k ≤ length xs) (in_ys : k ≤ length ys) where
  same-front : (f : Link → ℕ) (i : ℕ) → i < k → get_or (map f xs) i 0 ≡ get_or (map f ys) i 0
  same-front f i h = rw (← get_or-take k (map f xs) i 0 h, ← get_or-take k (map f ys) i 0 h, take-map, take-map, same) refl

  nearest-front : (width group i : ℕ) → i ≤ k → nearest xs width group i ≡ nearest ys width group i
  nearest-front width group i h =
      up-alike (is_in_group width group) (numbers_of ys) (numbers_of xs) i (λ m less. ap (is_in_group width group) (same-front link_number m (omega arith)))

  pub indexed-front : (last : List ℕ) → IndexedTo last xs k → IndexedTo last ys k
  indexed-front last c = record {
    says = λ g h. c.says g h ∙ nearest-front (length last) g k (omega arith);
    kept = λ i h some. let e : get_or (numbers_of ys) i 0 ≡ get_or (numbers_of xs) i 0 = sym (same-front link_number i h) in
        rw (← same-front before_of i h, e) (c.kept i h (rw e at some) ∙ nearest-front (length last) (group_of (get_or (numbers_of xs) i 0) (length last)) i
        (omega arith));
  }

-- links that differ in their hints alone
module _ (last : List ℕ) (xs ys : List Link) (numbers : numbers_of ys ≡ numbers_of xs) (befores : befores_of ys ≡ befores_of xs) where
  pub indexed_to-same : (k : ℕ) → IndexedTo last xs k → IndexedTo last ys k
  indexed_to-same k c = record { says = λ g h. rw numbers (c.says g h); kept = λ i h some. rw (numbers, befores) (c.kept i h (rw numbers at some)) }

  pub indexed-same : IsIndexed last xs → IsIndexed last ys
  indexed-same c = record {
    wide = λ some. c.wide (omega (arith, ap length numbers, length-map xs link_number, length-map ys link_number));
    to = subst (IndexedTo last ys) (ap length (sym numbers)) (indexed_to-same (length (numbers_of xs)) c.to);
  }

-- what is said and kept of a whole list
module _ (last : List ℕ) (links : List Link) where
  indexed-all : IsIndexed last links → IndexedTo last links (length links)
  indexed-all c = rw (length-map links link_number) at c.to

  pub is_indexed-all : (0 < length links → 0 < length last) → IndexedTo last links (length links) → IsIndexed last links
  is_indexed-all wide c = record { wide = wide; to = rw (length-map links link_number) c }

-- and of its first links
module _ (last : List ℕ) (links : List Link) (k : ℕ) (within : k ≤ length links) where
  front-len : length (take k links) ≡ k
  front-len = length-take-le k links within

  front-same : take k (take k links) ≡ take k links
  front-same = take_all k (take k links) (omega (arith, front-len))

  pub is_indexed-to : (0 < k → 0 < length last) → IndexedTo last links k → IsIndexed last (take k links)
  is_indexed-to wide c = is_indexed-all last (take k links) (λ h. wide (omega (arith, front-len))) (subst (λ (m : ℕ). IndexedTo last (take k links) m)
      (sym front-len) (indexed-front k links (take k links) (sym front-same) within (omega (arith, front-len)) last c))

-- the number at an index comes into the table, or goes out of it
module _ (last : List ℕ) (links : List Link) (k n : ℕ) (at : get_or (numbers_of links) k 0 ≡ n) where
  abbrev width : ℕ
  width = length last

  abbrev group : ℕ
  group = group_of n width

  others : (g : ℕ) → is_in_group width g n ≡ false → nearest links width g (suc k) ≡ nearest links width g k
  others g e = up-other (is_in_group width g) (numbers_of links) k (ap (is_in_group width g) at ∙ e)

  -- where it is none, nothing is to do
  none-comes : n ≡ none → IndexedTo last links k → IndexedTo last links (suc k)
  none-comes is c = record {
    says = λ g h. c.says g h ∙ sym (others g (none-in-group width g n is));
    kept = λ i h some. elim (cases_lt i k)
        [ inl less ↦ c.kept i less some | inr past ↦ absurd (some (ap (λ m. get_or (numbers_of links) m 0) (omega arith) ∙ at ∙ is)) ];
  }

  none-goes : n ≡ none → IndexedTo last links (suc k) → IndexedTo last links k
  none-goes is c = record { says = λ g h. c.says g h ∙ others g (none-in-group width g n is); kept = λ i h some. c.kept i (omega arith) some }

  module _ (some : n ≢ none) (wide : 0 < width) where
    group-within : group < width
    group-within = group-less n width wide

    -- another ordinal is said of its group
    module _ (ordinal : ℕ) where
      abbrev next : List ℕ
      next = set last group ordinal

      len : length next ≡ width
      len = length-set last group ordinal

      said-same : (g m : ℕ) → g ≡ group → ordinal ≡ nearest links width group m → get_or next g 0 ≡ nearest links (length next) g m
      said-same g m e is = rw (e, len) (get_or-set_same last group ordinal 0 group-within ∙ is)

      said-other : (g m : ℕ) → g ≢ group → get_or last g 0 ≡ nearest links width g m → get_or next g 0 ≡ nearest links (length next) g m
      said-other g m ne is = rw len (get_or-set_other last group g ordinal 0 ne ∙ is)

    number-goes : IndexedTo last links (suc k) → IndexedTo (set last group (get_or (befores_of links) k 0)) links k
    number-goes c = let b = get_or (befores_of links) k 0 in
        let is : b ≡ nearest links width group k = rw at at (c.kept k (omega arith) (λ e. some (sym at ∙ e))) in
        record {
          says = λ g h. elim (cases_eq g group) [
            | inl e ↦ said-same b g k e is
            | inr ne ↦ said-other b g k ne (c.says g (omega (arith, len b)) ∙ others g (not-in-group width g n (λ e. ne (sym e))))
          ];
          kept = λ i h some_i. rw (len b) (c.kept i (omega arith) some_i);
        }

    number-comes : get_or (befores_of links) k 0 ≡ get_or last group 0 → IndexedTo last links k → IndexedTo (set last group (suc k)) links (suc k)
    number-comes before c =
        let here : suc k ≡ nearest links width group (suc k) =
        sym (up-sought (is_in_group width group) (numbers_of links) k (ap (is_in_group width group) at ∙ in-group width group n some refl)) in
        let own : get_or (befores_of links) k 0 ≡ own_nearest links width k = rw at (before ∙ c.says group group-within) in
        record {
          says = λ g h. elim (cases_eq g group) [
            | inl e ↦ said-same (suc k) g (suc k) e here
            | inr ne ↦ said-other (suc k) g (suc k) ne (c.says g (omega (arith, len (suc k))) ∙ sym (others g (not-in-group width g n (λ e. ne (sym e)))))
          ];
          kept = λ i h some_i. rw (len (suc k)) (elim (cases_lt i k) [ inl less ↦ c.kept i less some_i | inr past ↦ let e : i ≡ k = omega arith in rw e own ]);
        }

-- and so does a link
module _ (last : List ℕ) (links : List Link) (k next : ℕ) (x : Link) (is_next : next ≡ suc k) (within : k < length links) (is : get_or links k x ≡ x) where
  number-is : get_or (numbers_of links) k 0 ≡ x.number
  number-is = get_or-map link_number links k x 0 within ∙ ap link_number is

  before-is : get_or (befores_of links) k 0 ≡ x.before
  before-is = get_or-map before_of links k x 0 within ∙ ap before_of is

  pub less-none : x.number ≡ none → IndexedTo last links next → IndexedTo last links k
  less-none e c = none-goes last links k x.number number-is e (rw is_next at c)

  pub more-none : x.number ≡ none → IndexedTo last links k → IndexedTo last links next
  more-none e c = rw is_next (none-comes last links k x.number number-is e c)

  module _ (group : ℕ) (is_group : group ≡ group_of x.number (length last)) (some : x.number ≢ none) (wide : 0 < length last) where
    pub less-some : IndexedTo last links next → IndexedTo (set last group x.before) links k
    less-some c = rw (is_group, ← before-is) (number-goes last links k x.number number-is some wide (rw is_next at c))

    pub more-some : x.before ≡ get_or last group 0 → IndexedTo last links k → IndexedTo (set last group next) links next
    more-some before c =
        rw (is_next, is_group) (number-comes last links k x.number number-is some wide (before-is ∙ before ∙ ap (λ g. get_or last g 0) is_group) c)

-- a list with one link more
module _ (last : List ℕ) (links : List Link) (x : Link) (ordinal : ℕ) (is_ordinal : ordinal ≡ suc (length links)) (c : IsIndexed last links) where
  abbrev more : List Link
  more = links ++ x ∷ []

  more-len : length more ≡ ordinal
  more-len = omega (arith, length_push links x)

  pub indexed-push : (group : ℕ) → group ≡ group_of x.number (length last) → x.number ≢ none → 0 < length last → x.before ≡ get_or last group 0
      → IsIndexed (set last group ordinal) more
  indexed-push group is_group some wide before = let told = set last group ordinal in
      let same : take (length links) links ≡ take (length links) more = sym (take-append-le (length links) links (x ∷ []) (omega arith)) in
      let front : IndexedTo last more (length links) =
      indexed-front (length links) links more same (omega arith) (omega (arith, more-len)) last (indexed-all last links c) in
      let all : IndexedTo told more ordinal = more-some last more (length links) ordinal x is_ordinal (omega (arith, more-len))
      (get_or_push links x x (length links) refl) group is_group some wide before front in
      is_indexed-all told more (λ _. omega (arith, length-set last group ordinal)) (subst (λ (m : ℕ). IndexedTo told more m) (sym more-len) all)
