-- Where a number that is sought is last among the first of a list.
use Rattle.hnodes.proofs.IndexNames.{◌≡◌, ℕ, zero, suc, ◌-◌, ◌<◌, ◌≤◌, Bool, true, false, cond, List, get_or, inl, inr, refl, ◌∙◌, ap, arith, cases_lt, last_up}

module _ (s : ℕ → Bool) (xs : List ℕ) where
  -- the next number is sought, or it is not
  pub up-sought : (k : ℕ) → s (get_or xs k 0) ≡ true → last_up s xs (suc k) ≡ suc k
  up-sought k e = ap (λ b. cond b (suc k) (last_up s xs k)) e

  pub up-other : (k : ℕ) → s (get_or xs k 0) ≡ false → last_up s xs (suc k) ≡ last_up s xs k
  up-other k e = ap (λ b. cond b (suc k) (last_up s xs k)) e

  -- it is one of the first
  pub up-within : (k : ℕ) → last_up s xs k ≤ k
  up-within zero = omega arith
  up-within (suc k) = grind (arith, up-within k)

  -- it is sought
  pub up-found : (k : ℕ) → 0 < last_up s xs k → s (get_or xs (last_up s xs k - 1) 0) ≡ true
  up-found zero h = absurd (omega arith)
  up-found (suc k) h = grind (arith, up-found k)

  -- none past it is
  pub up-least : (k j : ℕ) → j < k → s (get_or xs j 0) ≡ true → suc j ≤ last_up s xs k
  up-least zero j h e = absurd (omega arith)
  up-least (suc k) j h e = grind (arith, up-least k j, cases_lt j k)

  -- none from an index on is sought
  pub up-past : (i k : ℕ) → i ≤ k → ((j : ℕ) → i ≤ j → j < k → s (get_or xs j 0) ≡ false) → last_up s xs k ≡ last_up s xs i
  up-past i zero h none = let same : zero ≡ i = omega arith in ap (λ m. last_up s xs m) same
  up-past i (suc k) h none = elim (cases_lt i (suc k)) [
    | inl less ↦ up-other k (none k (omega arith) (omega arith)) ∙ up-past i k (omega arith) (λ j a b. none j a (omega arith))
    | inr more ↦ (let same : suc k ≡ i = omega arith in ap (λ m. last_up s xs m) same)
  ]

module _ (s : ℕ → Bool) (xs ys : List ℕ) where
  -- two lists whose first numbers are sought alike
  pub up-alike : (k : ℕ) → ((j : ℕ) → j < k → s (get_or ys j 0) ≡ s (get_or xs j 0)) → last_up s ys k ≡ last_up s xs k
  up-alike zero same = refl
  up-alike (suc k) same = λ t. cond (same k (omega arith) t) (suc k) (up-alike k (λ j h. same j (omega arith)) t)

  -- from a number on that is sought in both
  pub up-alike-from : (e k : ℕ) → e < k → s (get_or xs e 0) ≡ true → s (get_or ys e 0) ≡ true
      → ((j : ℕ) → e < j → j < k → s (get_or ys j 0) ≡ s (get_or xs j 0)) → last_up s ys k ≡ last_up s xs k
  up-alike-from e zero h a b same = absurd (omega arith)
  up-alike-from e (suc k) h a b same = grind (arith, cases_lt e k, up-alike-from e k, same k)
