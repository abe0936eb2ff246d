-- A fragment's root element fits into each tree that may be built.
use Rattle.hmodes.proofs.Vocabulary.{◌≡◌, ℕ, ◌≤◌, Bool, true, false, List, length, refl, sym, ap, ◌∙◌, arith, nat_le, nat_tests, Refusal, Attribute, Place, inserted, Outcome, Goes, SiteOf, stack}
use Rattle.hadopt.specs.Site.{Refused}

pub above : (m n : ℕ) → m ≤ 1 → 16 ≤ n → nat_le n m ≡ false
above m n low h = grind (arith, nat_tests)

abbrev is_refused : Outcome (SiteOf ℕ) → Bool
is_refused (Goes x) = false
is_refused (Refused r) = true

-- an element is inserted where one node more and one open element more may be there
pub fits : (at name : ℕ) (attrs : List (Attribute ℕ)) (to : Place) (x : SiteOf ℕ) (e : Refusal) → nat_le x.nodes.limit x.nodes.made ≡ false
    → nat_le x.open_nodes.limit (length (stack x)) ≡ false → inserted at name attrs to x ≡ Refused e → ⊥
fits at name attrs to x e some_node some_open wrong = let goes : is_refused (inserted at name attrs to x) ≡ false = rw (some_node, some_open) refl in
    let never : true ≡ false = sym (ap is_refused wrong) ∙ goes in
    absurd cc
