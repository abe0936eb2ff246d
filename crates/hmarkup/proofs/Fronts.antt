-- One text at the front of two.
use Rattle.hmarkup.proofs.Names.{◌≡◌, ℕ, List, [], ◌∷◌, ◌++◌, length, take, sym, refl, ap, ◌∙◌, append_cancel_left, Placed, take-append_seam, heads, tails}

-- the span begins with the text
pub record IsFront (text after rest span : List Placed) : Type 0 where
  pub more : List Placed
  pub span_is : span ≡ text ++ more
  pub after_is : after ≡ more ++ rest

-- of two texts at the front of one, one begins with the other
cons_are : (x y : Placed) (xs ys : List Placed) → x ≡ y → xs ≡ ys → x ∷ xs ≡ y ∷ ys
cons_are x y xs ys e f = cc

front_cons : (t s : Placed) (ts after rest ss : List Placed) → s ≡ t → IsFront ts after rest ss → IsFront (t ∷ ts) after rest (s ∷ ss)
front_cons t s ts after rest ss e front = record { more = front.more; span_is = cons_are s t ss (ts ++ front.more) e front.span_is; after_is = front.after_is }

pub front_of : (text after rest span : List Placed) → span ++ rest ≡ text ++ after → ((more : List Placed) → text ≡ span ++ more → rest ≡ [])
    → IsFront text after rest span
front_of [] after rest span e last = record { more = span; span_is = refl; after_is = sym e }
front_of (t ∷ ts) after rest [] e last = let none : rest ≡ [] = last (t ∷ ts) refl in absurd cc
front_of (t ∷ ts) after rest (s ∷ ss) e last =
    front_cons t s ts after rest ss (heads s t (ss ++ rest) (ts ++ after) e) (front_of ts after rest ss (tails s t (ss ++ rest) (ts ++ after) e)
    (λ (more : List Placed) (h : ts ≡ ss ++ more). last more (cons_are t s ts (ss ++ more) (sym (heads s t (ss ++ rest) (ts ++ after) e)) h)))

-- two texts of one length
pub same_front : (xs ys zs ws : List Placed) → xs ++ ys ≡ zs ++ ws → length xs ≡ length zs → (xs ≡ zs) × (ys ≡ ws)
same_front xs ys zs ws e l = let same = sym (take-append_seam xs ys) ∙ ap (λ (n : ℕ). take n (xs ++ ys)) l ∙ ap (take (length zs)) e ∙ take-append_seam zs ws in
    (same, append_cancel_left zs ys ws (ap (λ (x : List Placed). x ++ ys) (sym same) ∙ e))
