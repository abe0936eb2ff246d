-- What both ways of a choice have.
use Rattle.hadopt.proofs.Names.{◌≡◌, ◌<◌, ℕ, zero, suc, arith, Bool, true, false, ◌||◌, cond, Option, Some, None, option_map, option_map_or, refl}

-- what holds of a test, whichever way it goes
pub by_test : (v : Bool) (P : Bool → Type 0) → (v ≡ true → P true) → (v ≡ false → P false) → P v
by_test true P a b = a refl
by_test false P a b = b refl

pub or-on : (u : Bool) {v w : Bool} → (v ≡ true → w ≡ true) → (u || v) ≡ true → (u || w) ≡ true
or-on true f h = refl
or-on false f h = f h

-- where a number is 0, and where it is not
pub by_zero : {P : Type 0} (k : ℕ) → (k ≡ 0 → P) → (0 < k → P) → P
by_zero zero a b = a refl
by_zero (suc k) a b = b (omega arith)

-- a function of a choice
pub cond-map : {A B : Type 0} (f : A → B) (v : Bool) (x y : A) → cond v (f x) (f y) ≡ f (cond v x y)
cond-map f true x y = refl
cond-map f false x y = refl

-- what is made of a value, or is there without one
pub or-both : {A B : Type 0} (P : B → Type 0) (f : A → B) (o : Option A) (d : B) → (o ≡ None → P d) → ((x : A) → o ≡ Some x → P (f x)) → P (option_map_or f o d)
or-both P f None d a b = a refl
or-both P f (Some x) d a b = b x refl

module _ {X Y A B : Type 0} (h : X → Y) (f : A → B) (p : X → A) (q : Y → B) (e : (x : X) → q (h x) ≡ f (p x)) (d : A) where
  pub or-map : (o : Option X) → option_map_or q (option_map h o) (f d) ≡ f (option_map_or p o d)
  or-map None = refl
  or-map (Some x) = e x
