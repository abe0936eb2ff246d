-- Laws of handing items to a sink, and of tables that grow.
use Rattle.names.proofs.Vocabulary.{◌≡◌, ℕ, zero, suc, List, [], ◌∷◌, ◌++◌, sym, ap, ◌∙◌, subst, Some, append-nil, append_assoc, slice_get, Texts, Result, Ok, Err, Grows, Hands, Continues}

-- a number keeps its text
pub slice_get-append : {X : Type 0} (xs more : List X) (i : ℕ) (x : X) → slice_get xs i ≡ Some x → slice_get (xs ++ more) i ≡ Some x
slice_get-append [] more i x h = cc
slice_get-append (y ∷ ys) more zero x h = h
slice_get-append (y ∷ ys) more (suc i) x h = slice_get-append ys more i x h

pub text_kept : (old new : Texts) (id : ℕ) (text : List ℕ) → Grows old new → slice_get old id ≡ Some text → slice_get new id ≡ Some text
text_kept old new id text (more, e) h = subst (λ (x : Texts). slice_get x id ≡ Some text) (sym e) (slice_get-append old more id text h)

-- a table grows by nothing, and again
pub grows_not : (names : Texts) → Grows names names
grows_not names = ([], sym (append-nil names))

pub grows_on : (a b c : Texts) → Grows a b → Grows b c → Grows a c
grows_on a b c (xs, e) (ys, f) = (xs ++ ys, f ∙ ap (λ (x : Texts). x ++ ys) e ∙ append_assoc a xs ys)

module _ {S X E : Type 0} (gives : S → X → Result (Unit {0}) E → S → Type 0) where
  -- one list after another
  pub Hands-append : (old mid new : S) (xs ys : List X) (answer : Result (Unit {0}) E) → Hands gives old xs (Ok tt) mid → Hands gives mid ys answer new
      → Hands gives old (xs ++ ys) answer new
  Hands-append old mid new [] ys answer h k = subst (λ (s : S). Hands gives s ys answer new) (sym h.1) k
  Hands-append old mid new (x ∷ xs) ys answer (Ok u, next, given, more) k = (Ok u, next, given, Hands-append next mid new xs ys answer more k)
  Hands-append old mid new (x ∷ xs) ys answer (Err e, next, given, more) k = let no_way = more.0 in absurd cc

  -- more items were handed over, and what is left goes on from there
  pub Continues-more : (old now next : S) (items xs rest : List X) → Continues gives old items now (xs ++ rest) → Hands gives now xs (Ok tt) next
      → Continues gives old items next rest
  Continues-more old now next items xs rest continues given = λ answer new h. continues answer new (Hands-append now next new xs rest answer given h)

  pub Continues-all : (old : S) (items : List X) → Continues gives old items old items
  Continues-all old items = λ answer new h. h
