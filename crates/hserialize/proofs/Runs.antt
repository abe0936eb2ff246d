-- What visits do in their order is what recursion over the trees does.
use Rattle.hserialize.proofs.Names.{◌≡◌, ℕ, cond, List, [], ◌∷◌, ◌++◌, refl, sym, ◌∙◌, ap, append_assoc, append-nil, Forest, none, tree, goes_in, visits, Reach, Visit, Enter, Leave, arith}

module _ {S : Type 0} (enter leave : ℕ → S → S) where
  -- what visits do to a state
  abbrev pub run : List Visit → S → S
  run [] s = s
  run (Enter n ∷ vs) s = run vs (enter n s)
  run (Leave n ∷ vs) s = run vs (leave n s)

  -- and trees
  abbrev pub walked : (reach : Reach) → Forest ℕ → S → S
  walked reach none s = s
  walked reach (tree b w kids rest) s = walked reach rest (leave b (cond (goes_in reach w) (walked reach kids (enter b s)) (enter b s)))

  run-before : (reach : Reach) (f : Forest ℕ) (more : List Visit) (s : S) → run (visits reach f ++ more) s ≡ run more (walked reach f s)
  run-before reach none more s = refl
  run-before reach (tree b w kids rest) more s =
      grind (arith, append_assoc, run-before reach kids (Leave b ∷ visits reach rest ++ more), run-before reach rest more)

  pub run-visits : (reach : Reach) (f : Forest ℕ) (s : S) → run (visits reach f) s ≡ walked reach f s
  run-visits reach f s = ap (λ vs. run vs s) (sym (append-nil (visits reach f))) ∙ run-before reach f [] s
