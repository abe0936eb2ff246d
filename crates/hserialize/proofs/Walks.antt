-- A walk with a state, which is lost at a visit that finds what is not to be.
use Rattle.hserialize.proofs.Names.{◌≡◌, ℕ, Bool, true, false, cond, List, [], ◌∷◌, Some, None, refl, sym, ◌∙◌, ap, option_and_then, Option, Forest, none, tree, Visit, Enter, Leave, Reach, not, ◌&&◌, visits, arith}
use Rattle.hserialize.proofs.Runs.{run, run-visits, walked}

-- whether the state was not lost
abbrev pub is_left : {S : Type 0} → Option S → Bool
is_left None = false
is_left (Some a) = true

tells : {S : Type 0} (u : Bool) (a : S) → is_left (cond u (Some a) None) ≡ u
tells u a = grind arith

module _ {S : Type 0} (step : Visit → S → Option S) where
  abbrev pub entering : ℕ → Option S → Option S
  entering n s = option_and_then (step (Enter n)) s

  abbrev pub leaving : ℕ → Option S → Option S
  leaving n s = option_and_then (step (Leave n)) s

  lost : (reach : Reach) (g : Forest ℕ) → walked entering leaving reach g None ≡ None
  lost reach none = refl
  lost reach (tree b w kids rest) = grind (arith, lost reach kids, lost reach rest)

  -- a node that the walk stays out of, or goes into: itself, what is in it, and the nodes after it
  pub node-finds : (reach : Reach) (hides : Bool) (b : ℕ) (kids rest : Forest ℕ) (s within : S) (own inner others : Bool)
      → entering b (Some s) ≡ cond own (Some within) None
      → (hides ≡ false → own ≡ true → walked entering leaving reach kids (Some within) ≡ cond inner (Some within) None)
      → (own ≡ true → leaving b (Some within) ≡ Some s) → walked entering leaving reach rest (Some s) ≡ cond others (Some s) None
      → walked entering leaving reach rest (leaving b (cond (not hides) (walked entering leaving reach kids (entering b (Some s))) (entering b (Some s))))
      ≡ cond (own && cond hides true inner && others) (Some s) None
  node-finds reach hides b kids rest s within own inner others first below back law = grind (arith, lost reach kids, lost reach rest)

  one : (v : Visit) (left : List Visit) (s : S) → run entering leaving (v ∷ left) (Some s) ≡ run entering leaving left (step v s)
  one v left s = grind arith

  none_left : (left : List Visit) → run entering leaving left None ≡ None
  none_left [] = refl
  none_left (v ∷ left) = grind (arith, none_left left)

  -- the visits that are left find whether all is as it is to be
  pub record Finds (all : Bool) (s : S) (left : List Visit) : Type 0 where
    pub same : is_left (run entering leaving left (Some s)) ≡ all

  pub finds-all : (reach : Reach) (g : Forest ℕ) (all : Bool) (s : S) (left items : List Visit) → left ≡ items → items ≡ visits reach g
      → walked entering leaving reach g (Some s) ≡ cond all (Some s) None → Finds all s left
  finds-all reach g all s left items same visited law = record {
    same =
        ap (λ vs. is_left (run entering leaving vs (Some s))) (same ∙ visited) ∙ ap is_left (run-visits entering leaving reach g (Some s) ∙ law) ∙ tells all s;
  }

  module _ (all : Bool) (s : S) (v : Visit) (old left : List Visit) (is : old ≡ v ∷ left) (f : Finds all s old) where
    after : is_left (run entering leaving left (step v s)) ≡ all
    after = ap is_left (sym (one v left s)) ∙ ap (λ l. is_left (run entering leaving l (Some s))) (sym is) ∙ f.same

    -- one visit more
    pub goes_on : (s' : S) → Some s' ≡ step v s → Finds all s' left
    goes_on s' o = record { same = ap (λ r. is_left (run entering leaving left r)) o ∙ after }

    -- the state is lost
    pub fails : None ≡ step v s → false ≡ all
    fails o = ap is_left (sym (none_left left)) ∙ ap (λ r. is_left (run entering leaving left r)) o ∙ after

  -- the end
  pub found : (all : Bool) (s : S) (left : List Visit) → left ≡ [] → Finds all s left → true ≡ all
  found all s left is f = ap (λ l. is_left (run entering leaving l (Some s))) (sym is) ∙ f.same
