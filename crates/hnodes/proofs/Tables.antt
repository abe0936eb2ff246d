-- One member of a list, those before it and those after it.
use Rattle.hnodes.proofs.IndexNames.{◌≡◌, ℕ, suc, ◌<◌, List, [], ◌∷◌, ◌++◌, take, drop, length, get_or, sym, ◌∙◌, ap}
use Rattle.hnodes.proofs.Names.{take-suc, drop-cons}

module _ {X : Type 0} (items : List X) (n j : ℕ) (x : X) (next : n ≡ suc j) (within : j < length items) (is : x ≡ get_or items j x) where
  pub take-more : take n items ≡ take j items ++ x ∷ []
  take-more = ap (λ m. take m items) next ∙ take-suc items j x within ∙ ap (λ y. take j items ++ y ∷ []) (sym is)

  pub drop-more : drop j items ≡ x ∷ drop n items
  drop-more = drop-cons items j x within ∙ ap (λ y. y ∷ drop (suc j) items) (sym is) ∙ ap (λ m. x ∷ drop m items) (sym next)
