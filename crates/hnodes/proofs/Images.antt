-- A list and its image, where a test of the image is a test of the list.
use Rattle.hnodes.proofs.IndexNames.{arith, ◌≡◌, ℕ, ◌+◌, zero, suc, Bool, cond, not, ◌&&◌, ◌||◌, List, [], ◌∷◌, map, refl, list_any, list_all, length-map, before, after, without, changed, item_put_before, changed_at}
use Rattle.hnodes.proofs.Names.{find, position, prefix_len, option_map}
use Rattle.std.specs.Prelude.{filter}

module _ {X Y : Type 0} (h : X → Y) (p : X → Bool) (q : Y → Bool) (e : (x : X) → q (h x) ≡ p x) where
  pub before-map : (xs : List X) → before q (map h xs) ≡ map h (before p xs)
  before-map [] = refl
  before-map (x ∷ xs) = grind (arith, e x, before-map xs)

  pub after-map : (xs : List X) → after q (map h xs) ≡ map h (after p xs)
  after-map [] = refl
  after-map (x ∷ xs) = grind (arith, e x, after-map xs)

  pub without-map : (xs : List X) → without q (map h xs) ≡ map h (without p xs)
  without-map [] = refl
  without-map (x ∷ xs) = grind (arith, e x, without-map xs)

  pub changed-map : (f : X → X) (f' : Y → Y) → ((x : X) → f' (h x) ≡ h (f x)) → (xs : List X) → changed q f' (map h xs) ≡ map h (changed p f xs)
  changed-map f f' c [] = refl
  changed-map f f' c (x ∷ xs) = grind (arith, e x, c x, changed-map f f' c xs)

  pub put_before-map : (new : X) (xs : List X) → item_put_before q (h new) (map h xs) ≡ map h (item_put_before p new xs)
  put_before-map new [] = refl
  put_before-map new (x ∷ xs) = grind (arith, e x, put_before-map new xs)

  pub filter-map : (xs : List X) → filter q (map h xs) ≡ map h (filter p xs)
  filter-map [] = refl
  filter-map (x ∷ xs) = grind (arith, e x, filter-map xs)

  pub find-map : (xs : List X) → find q (map h xs) ≡ option_map h (find p xs)
  find-map [] = refl
  find-map (x ∷ xs) = grind (arith, e x, find-map xs)

  pub any-map : (xs : List X) → list_any q (map h xs) ≡ list_any p xs
  any-map [] = refl
  any-map (x ∷ xs) = λ i. e x i || any-map xs i

  pub all-map : (xs : List X) → list_all q (map h xs) ≡ list_all p xs
  all-map [] = refl
  all-map (x ∷ xs) = λ i. e x i && all-map xs i

  -- a search over the image
  not_prefix-map : (xs : List X) → prefix_len (λ y. not (q y)) (map h xs) ≡ prefix_len (λ x. not (p x)) xs
  not_prefix-map [] = refl
  not_prefix-map (x ∷ xs) = λ i. cond (not (e x i)) (1 + not_prefix-map xs i) 0

  pub position-map : (xs : List X) → position q (map h xs) ≡ position p xs
  position-map xs = grind (arith, not_prefix-map xs, length-map xs h)

module _ {X Y : Type 0} (h : X → Y) where
  pub changed_at-map : (f : X → X) (f' : Y → Y) → ((x : X) → f' (h x) ≡ h (f x)) → (n : ℕ) (xs : List X)
      → changed_at n f' (map h xs) ≡ map h (changed_at n f xs)
  changed_at-map f f' c n [] = refl
  changed_at-map f f' c zero (x ∷ xs) = λ i. c x i ∷ map h xs
  changed_at-map f f' c (suc n) (x ∷ xs) = λ i. h x ∷ changed_at-map f f' c n xs i
