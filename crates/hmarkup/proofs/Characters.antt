-- Classes of characters that exclude each other, and the errors of characters that are not NUL.
use Rattle.hmarkup.proofs.Names.{◌≡◌, ℕ, true, false, eqb, [], ◌∷◌, sym, refl, subst, arith, eqb-true, nat_tests, Placed, is_space, is_greater, is_quote, null_errors, cases_eq, inl, inr}

-- what holds of both quotes
pub quote_is : (c : ℕ) → is_quote c ≡ true → (P : ℕ → Type 0) → P 34 → P 39 → P c
quote_is c h P x y = elim (cases_eq c 34) [ inl is ↦ rw is x | inr other ↦ let is : c ≡ 39 = grind (arith, nat_tests) in rw is y ]

pub quote_not_space : (c : ℕ) → is_quote c ≡ true → is_space c ≡ false
quote_not_space c h = quote_is c h (λ n. is_space n ≡ false) refl refl

pub quote_not_greater : (c : ℕ) → is_quote c ≡ true → is_greater c ≡ false
quote_not_greater c h = quote_is c h (λ n. is_greater n ≡ false) refl refl

pub greater_not_space : (c : ℕ) → is_greater c ≡ true → is_space c ≡ false
greater_not_space c h = subst (λ (n : ℕ). is_space n ≡ false) (sym (eqb-true c 62 h)) refl

pub space_not_null : (c : ℕ) → is_space c ≡ true → eqb c 0 ≡ false
space_not_null c h = grind (arith, nat_tests)

-- no error but NUL's
pub no_null_error : (p : Placed) → eqb p.ch 0 ≡ false → null_errors (p ∷ []) ≡ []
no_null_error p h = simp h
