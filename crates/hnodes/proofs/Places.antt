-- The place of the nearest that is sought, and the searches of std.
use Rattle.hnodes.proofs.IndexNames.{◌≡◌, ℕ, suc, ◌+◌, ◌-◌, ◌<◌, ◌≤◌, Bool, List, [], ◌∷◌, Some, None, length, refl, arith, position, position_or_len, lt-ltb, le-ltb, last_place}

module _ {X : Type 0} (sought : X → Bool) where
  pub last_place-le : (xs : List X) → last_place sought xs ≤ length xs
  last_place-le [] = omega arith
  last_place-le (x ∷ xs) = grind (arith, last_place-le xs)

  -- what is nearer, and the place, make up the length
  place-position : (xs : List X) → last_place sought xs + position_or_len sought xs ≡ length xs
  place-position [] = omega arith
  place-position (x ∷ xs) = grind (arith, place-position xs)

  pub position-none : (xs : List X) → last_place sought xs ≡ 0 → position sought xs ≡ None
  position-none xs none = let past : length xs ≤ position_or_len sought xs = omega (arith, place-position xs) in
      rw (le-ltb (position_or_len sought xs) (length xs) past) refl

  pub position-some : (xs : List X) (i : ℕ) → last_place sought xs ≡ suc i → position sought xs ≡ Some (length xs - 1 - i)
  position-some xs i some = let up : position_or_len sought xs ≡ length xs - 1 - i = omega (arith, place-position xs) in
      let within : position_or_len sought xs < length xs = omega (arith, place-position xs) in
      rw (lt-ltb (position_or_len sought xs) (length xs) within, up) refl
