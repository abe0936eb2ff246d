-- How many of a list pass a test, one after another.
use Rattle.std.proofs.Common.{◌≡◌, ℕ, ◌+◌, Bool, true, false, List, ◌∷◌, length, subst, arith}
use Rattle.std.specs.List.{filter}

module _ (p : ℕ → Bool) (n : ℕ) (rest all : List ℕ) (count total : ℕ) (is : all ≡ n ∷ rest) (h : count + length (filter p all) ≡ total) where
  here : count + length (filter p (n ∷ rest)) ≡ total
  here = subst (λ xs. count + length (filter p xs) ≡ total) is h

  pub one_more : p n ≡ true → count + 1 + length (filter p rest) ≡ total
  one_more passes = let it : count + length (n ∷ filter p rest) ≡ total = rw passes at here in omega (arith, it)

  pub none_more : p n ≡ false → count + length (filter p rest) ≡ total
  none_more fails = rw fails at here
