-- A table of the levels where numbers are last, and what the members of their list keep, as members come and go.
use Rattle.hopen.proofs.Names.{◌-◌, common_steps, eq-eqb, ne_eqb, ◌≡◌, ◌≢◌, ℕ, suc, ◌<◌, ◌≤◌, eqb, Bool, true, cond, List, [], ◌∷◌, length, map, reverse, get_or, set, inl, inr, refl, sym, ◌∙◌, ap, subst, arith, cases_Bool, cases_eq, cases_lt, eqb-suc-zero, eqb-zero-suc, get_or-set_same, get_or-set_other, get_or_past, length-map, last_up, last_place, last_same, up-sought, up-other, up-alike, IsLinked, IsLinkedTo, nat_tests, reverse-map}
use Rattle.hopen.proofs.Listed.{last-is}

pub eqb-same : (n : ℕ) → eqb n n ≡ true
eqb-same n = eq-eqb n n refl

-- what holds at an index, and of all others, is so of all
pub either : (P : ℕ → Type 0) (i m : ℕ) → P i → (m ≢ i → P m) → P m
either P i m here apart = elim (cases_eq i m) [ inl e ↦ subst P e here | inr ne ↦ apart (λ e. ne (sym e)) ]

-- the member with a number
abbrev pub numbered : ℕ → ℕ → Bool
numbered k m = eqb m (suc k)

-- what a hole keeps, and a member with a number
module _ (ns : List ℕ) (j : ℕ) where
  pub same-hole : get_or ns j 0 ≡ 0 → last_same ns j ≡ 0
  same-hole e = ap (λ v. cond v 0 (last_up (λ n. eqb n (get_or ns j 0)) ns j)) (ap (λ m. eqb m 0) e ∙ eqb-same 0)

  pub same-member : (k : ℕ) → get_or ns j 0 ≡ suc k → last_same ns j ≡ last_up (numbered k) ns j
  same-member k e =
      ap (λ v. cond v 0 (last_up (λ n. eqb n (get_or ns j 0)) ns j)) (ap (λ m. eqb m 0) e ∙ eqb-suc-zero k) ∙ ap (λ m. last_up (λ n. eqb n m) ns j) e

-- it keeps the same in a list that begins alike
pub same-alike : (ns ms : List ℕ) (j : ℕ) → ((m : ℕ) → m ≤ j → get_or ms m 0 ≡ get_or ns m 0) → last_same ms j ≡ last_same ns j
same-alike ns ms j same = let up = up-alike (λ n. eqb n (get_or ns j 0)) ns ms j in grind (arith, same, up)

-- what holds of the holes and of the members with a number is so of all
pub same-from : (ns : List ℕ) (j p : ℕ) → (get_or ns j 0 ≡ 0 → p ≡ 0) → ((k : ℕ) → get_or ns j 0 ≡ suc k → p ≡ last_up (numbered k) ns j) → p ≡ last_same ns j
same-from ns j p hole member = let k = get_or ns j 0 - 1 in grind (arith, nat_tests, same-hole ns j, same-member ns j k, hole, member k)

module _ (t ns bs : List ℕ) (l : IsLinked t ns bs) (j : ℕ) (within : j < length ns) where
  pub kept-hole : get_or ns j 0 ≡ 0 → get_or bs j 0 ≡ 0
  kept-hole e = l.kept j within ∙ same-hole ns j e

  pub kept-member : (k : ℕ) → get_or ns j 0 ≡ suc k → get_or bs j 0 ≡ last_up (numbered k) ns j
  kept-member k e = l.kept j within ∙ same-member ns j k e

-- one entry is written
pub get-set : (t : List ℕ) (a v k : ℕ) → a < length t → get_or (set t a v) k 0 ≡ cond (eqb k a) v (get_or t k 0)
get-set t a v k h = grind (arith, cases_Bool, get_or-set_same, get_or-set_other, nat_tests)

module _ (t ns bs : List ℕ) (n : ℕ) where
  -- in lists that begin alike
  pub linked-front : (ms cs : List ℕ) → ((j : ℕ) → j < n → get_or ms j 0 ≡ get_or ns j 0) → ((j : ℕ) → j < n → get_or cs j 0 ≡ get_or bs j 0)
      → IsLinkedTo n t ns bs → IsLinkedTo n t ms cs
  linked-front ms cs numbers befores l = grind (arith, common_steps, nat_tests, same-alike, up-alike)

  -- what holds of the first members, and of the next one, holds of all of them
  kept-next : ((j : ℕ) → j < n → get_or bs j 0 ≡ last_same ns j) → get_or bs n 0 ≡ last_same ns n → (j : ℕ) → j < suc n → get_or bs j 0 ≡ last_same ns j
  kept-next below here j h = either (λ m. get_or bs m 0 ≡ last_same ns m) n j here (λ ne. below j (omega arith))

  -- a hole comes, or goes
  module _ (hole : get_or ns n 0 ≡ 0) where
    same-up : (k : ℕ) → last_up (numbered k) ns (suc n) ≡ last_up (numbered k) ns n
    same-up k = up-other (numbered k) ns n (ap (numbered k) hole ∙ eqb-zero-suc k)

    pub linked-gap : get_or bs n 0 ≡ 0 → IsLinkedTo n t ns bs → IsLinkedTo (suc n) t ns bs
    linked-gap none l = record { says = λ k. l.says k ∙ sym (same-up k); kept = kept-next l.kept (none ∙ sym (same-hole ns n hole)) }

    pub linked-hole : IsLinkedTo (suc n) t ns bs → IsLinkedTo n t ns bs
    linked-hole l = record { says = λ k. l.says k ∙ same-up k; kept = λ j h. l.kept j (omega arith) }

  -- a member comes, or goes
  module _ (a : ℕ) (member : get_or ns n 0 ≡ suc a) where
    up-here : last_up (numbered a) ns (suc n) ≡ suc n
    up-here = up-sought (numbered a) ns n (ap (numbered a) member ∙ eqb-same (suc a))

    up-apart : (k : ℕ) → k ≢ a → last_up (numbered k) ns (suc n) ≡ last_up (numbered k) ns n
    up-apart k ne = up-other (numbered k) ns n (ap (numbered k) member ∙ ne_eqb (suc a) (suc k) (λ e. ne (omega arith)))

    pub linked-more : a < length t → get_or bs n 0 ≡ get_or t a 0 → IsLinkedTo n t ns bs → IsLinkedTo (suc n) (set t a (suc n)) ns bs
    linked-more within is l = grind (arith, common_steps, nat_tests, either, get_or-set_other, get_or-set_same, kept-next, same-member, up-apart, up-here)

    module _ (l : IsLinkedTo (suc n) t ns bs) where
      pub linked-in : a < length t
      linked-in = elim (cases_lt a (length t)) [ inl less ↦ less | inr past ↦ absurd (omega (arith, l.says a, up-here, get_or_past t a 0 past)) ]

      pub linked-less : IsLinkedTo n (set t a (get_or bs n 0)) ns bs
      linked-less = grind (arith, common_steps, nat_tests, either, get_or-set_other, get_or-set_same, linked-in, same-member, up-apart)

-- the same in the words of the nearest first
pub ordinal-map : {X Y : Type 0} (f : X → Y) (s : Y → Bool) (xs : List X) → last_place s (map f xs) ≡ last_place (λ x. s (f x)) xs
ordinal-map f s [] = refl
ordinal-map f s (x ∷ xs) = λ i. cond (s (f x)) (suc (length-map xs f i)) (ordinal-map f s xs i)

pub says-levels : {X : Type 0} (f : X → ℕ) (t bs : List ℕ) (ys : List X) → IsLinked t (map f ys) bs → (k : ℕ)
    → get_or t k 0 ≡ last_place (λ x. eqb (f x) (suc k)) (reverse ys)
says-levels f t bs ys l k = l.says k ∙ last-is (suc k) (map f ys) ∙ ap (last_place (numbered k)) (reverse-map f ys) ∙ ordinal-map f (numbered k) (reverse ys)
