-- Tables of texts, read at a place.
use Rattle.names.proofs.Vocabulary.{◌≡◌, ℕ, zero, suc, List, [], ◌∷◌, map, get_or, Option, Some, None, refl, Bor, option_map, unwrap_or}

abbrev blank : Bor (List ℕ)
blank = record { ref_ptr = (0, 0); now = [] }

-- the text that the reference at a place refers to
pub text-at : (texts : List (Bor (List ℕ))) (i : ℕ) → (get_or texts i blank).now ≡ get_or (map (λ t. t.now) texts) i []
text-at [] i = refl
text-at (t ∷ ts) zero = refl
text-at (t ∷ ts) (suc i) = text-at ts i

-- the text of a reference, if there is one
pub text-or : (found : Option (Bor (List ℕ))) (other : Bor (List ℕ)) → (unwrap_or found other).now ≡ unwrap_or (option_map (λ t. t.now) found) other.now
text-or None other = refl
text-or (Some t) other = refl
