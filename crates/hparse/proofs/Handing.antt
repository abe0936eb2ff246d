-- What a sink has been handed, and what it is handed after that.
use Rattle.hparse.proofs.Names.{◌≡◌, List, [], ◌∷◌, ◌++◌, sym, refl, ap, subst, Result, Ok, IsPermutation, IsPermutation-append_left, IsPermutation-refl, IsPermutation-trans, ParseError, Refusal, Texts, Grows, grows_not, grows_on, Token, Tok, Item, ItemToken, ItemError, Event, Reports, tokens_in, errors_in, HandsEvents, Began, WasHanded, tokens_handed, errors_handed, TokensMean, inl, inr, ◌⊎◌, Hands-append, Alone, Gives, Handed, HandedMeans, Mean, WithNames, ItemsMean, handed_means, token_kept}

-- one of two, or what follows from the other
pub or_then : {A B C : Type 0} → A ⊎ B → (B → A ⊎ C) → A ⊎ C
or_then (inl a) f = inl a
or_then (inr b) f = f b

module _ (old new : Texts) (grows : Grows old new) where
  -- tokens stand for the same ones when the table has grown
  pub tokens_kept : (ts : List Token) (ks : List Tok) → TokensMean old ts ks → TokensMean new ts ks
  tokens_kept [] [] h = tt
  tokens_kept (t ∷ ts) (k ∷ ks) h = (token_kept old new grows t k h.0, tokens_kept ts ks h.1)
  tokens_kept _ _ h = absurd h

-- what items stand for, where the table has grown, and others come after them
handed_kept : (old new : Texts) → Grows old new → (t : Handed) (tok : Tok) → HandedMeans old t tok → HandedMeans new t tok
handed_kept old new grows (Alone token) tok (other, means) = (other, token_kept old new grows token tok means)
handed_kept old new grows (WithNames table token) tok (before, tag, means) = (grows_on table old new before grows, tag, means)

items_more : (old new : Texts) → Grows old new → (xs ys : List Item) (ks ls : List Tok) → ItemsMean old xs ks → ItemsMean new ys ls
    → ItemsMean new (xs ++ ys) (ks ++ ls)
items_more old new grows [] ys [] ls h k = k
items_more old new grows (ItemToken t ∷ xs) ys (x ∷ ks) ls h k = (handed_kept old new grows t x h.0, items_more old new grows xs ys ks ls h.1 k)
items_more old new grows (ItemError e ∷ xs) ys ks ls h k = items_more old new grows xs ys ks ls h k
items_more old new grows _ ys _ ls h k = absurd h

-- their tokens by themselves
pub tokens_mean : (names : Texts) (items : List Item) (tokens : List Tok) → ItemsMean names items tokens → TokensMean names (tokens_handed items) tokens
tokens_mean names [] [] h = tt
tokens_mean names (ItemToken t ∷ items) (x ∷ tokens) h = (handed_means names t x h.0, tokens_mean names items tokens h.1)
tokens_mean names (ItemError e ∷ items) tokens h = tokens_mean names items tokens h
tokens_mean names _ _ h = absurd h

pub errors_handed-append : (xs ys : List Item) → errors_handed (xs ++ ys) ≡ errors_handed xs ++ errors_handed ys
errors_handed-append [] ys = refl
errors_handed-append (ItemToken t ∷ xs) ys = errors_handed-append xs ys
errors_handed-append (ItemError e ∷ xs) ys = ap (λ (x : List ParseError). e ∷ x) (errors_handed-append xs ys)

-- the tokens and the errors of items that stand for events
parts_of_mean : (names : Texts) (items : List Item) (events : List Event) → Mean names items events
    → ItemsMean names items (tokens_in events) × (errors_handed items ≡ errors_in events)
parts_of_mean names [] [] m = (tt, refl)
parts_of_mean names (ItemToken t ∷ items) (Gives tok ∷ events) m = let rest = parts_of_mean names items events m.1 in ((m.0, rest.0), rest.1)
parts_of_mean names (ItemError e ∷ items) (Reports f ∷ events) m = let rest = parts_of_mean names items events m.1 in let same : e ≡ f = m.0 in
    (rest.0, (λ i. same i ∷ rest.1 i))
parts_of_mean names (ItemToken t ∷ items) (Reports f ∷ events) m = absurd m.0
parts_of_mean names (ItemError e ∷ items) (Gives tok ∷ events) m = absurd m.0
parts_of_mean names _ _ m = absurd m

module _ {S : Type 0} {gives : S → Item → Result (Unit {0}) Refusal → S → Type 0} where
  -- nothing was handed over
  pub handed_none : (began : Began S) → WasHanded gives began.names began [] [] (Ok tt) began.sink
  handed_none began = record { grows = grows_not began.names; items = []; hands = (refl, refl); items_mean = tt; errors_are = IsPermutation-refl [] }

  -- events were handed over after others, and the table has grown
  pub handed_more : {old new : Texts} {began : Began S} {mid now : S} {tokens : List Tok} {errors : List ParseError} {answer : Result (Unit {0}) Refusal}
      → Grows old new → (events : List Event) → WasHanded gives old began tokens errors (Ok tt) mid → HandsEvents gives new mid events answer now
      → WasHanded gives new began (tokens ++ tokens_in events) (errors ++ errors_in events) answer now
  handed_more {old} {new} {began} {mid} {now} {tokens} {errors} {answer} grows events h (items, mean, given) = record {
    grows = grows_on began.names old new h.grows grows;
    items = h.items ++ items;
    hands = Hands-append gives began.sink mid now h.items items answer h.hands given;
    items_mean = items_more old new grows h.items items tokens (tokens_in events) h.items_mean (parts_of_mean new items events mean).0;
    errors_are = subst (IsPermutation (errors ++ errors_in events)) (sym (errors_handed-append h.items items))
        (subst (λ (x : List ParseError). IsPermutation (errors ++ errors_in events) (errors_handed h.items ++ x)) (sym (parts_of_mean new items events mean).1)
        (IsPermutation-append_left (errors_in events) errors (errors_handed h.items) h.errors_are));
  }

  -- the same tokens and errors, the latter in another order
  pub handed_as : {names : Texts} {began : Began S} {now : S} {tokens tokens' : List Tok} {errors errors' : List ParseError}
      {answer : Result (Unit {0}) Refusal} → WasHanded gives names began tokens errors answer now → tokens ≡ tokens' → IsPermutation errors' errors
      → WasHanded gives names began tokens' errors' answer now
  handed_as {names} {errors = errors} {errors' = errors'} h same order = record {
    grows = h.grows;
    items = h.items;
    hands = h.hands;
    items_mean = subst (ItemsMean names h.items) same h.items_mean;
    errors_are = IsPermutation-trans errors' errors (errors_handed h.items) order h.errors_are;
  }
