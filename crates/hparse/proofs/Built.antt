-- What a builder has been handed, as steps of the rules.
use Rattle.hparse.proofs.Names.{refl, ◌≡◌, List, [], ◌∷◌, ◌++◌, map, sym, ap, ◌∙◌, subst, Option, None, Result, Ok, Err, append-nil, append_assoc, inl, inr, ◌⊎◌, ParseError, Refusal, Memory, Hands, Item, ItemToken, ItemError, gives_item, numbers, Goes, Refused, Steps, and, token_of, token_at, Building, TakesToken, tokens_handed, errors_handed, MatchOption, Step, refused, Handed, token_in, BuilderTakesOn, TakesError, TakesParseError, BuilderStaysRefused}
use Rattle.hparse.proofs.Handing.{or_then}
use Rattle.hmodes.specs.Step.{none}
use Rattle.hparse.proofs.Numbered.{placed_number}

-- a step of the builder
abbrev pub builds : Building → Item → Result (Unit {0}) Refusal → Building → Type 0
builds = gives_item TakesError TakesToken

-- a builder that has refused nothing took this token, or this error
pub takes_on : (t : Handed) (old new : Building) (answer : Result (Unit {0}) Refusal) → old.refused ≡ None → TakesToken old t answer new
    → BuilderTakesOn (token_at (token_in t)) (token_of (token_in t)) old answer new
takes_on t old new answer is given = subst (λ (o : Option Refusal).
    MatchOption o (BuilderTakesOn (token_at (token_in t)) (token_of (token_in t)) old answer new) (λ r. BuilderStaysRefused r old answer new)) is given

pub tells : (e : ParseError) (old new : Building) (answer : Result (Unit {0}) Refusal) → old.refused ≡ None → TakesError old e answer new
    → TakesParseError e old answer new
tells e old new answer is given =
    subst (λ (o : Option Refusal). MatchOption o (TakesParseError e old answer new) (λ r. BuilderStaysRefused r old answer new)) is given

-- What a builder has become.
pub record Became (old new : Building) (items : List Item) : Type 0 where
  pub steps : Steps numbers (map placed_number (tokens_handed items)) old.state (Goes new.state)
  pub tokenizer_errors : new.tokenizer_errors ≡ old.tokenizer_errors ++ errors_handed items
  pub root : new.root ≡ old.root
  pub unrefused : new.refused ≡ None

pub became : (old new : Building) (items : List Item) → old.refused ≡ None → Hands builds old items (Ok tt) new → Became old new items
became old new [] is h = record
    { steps = rw (← h.1) none; tokenizer_errors = rw (← h.1) (sym (append-nil old.tokenizer_errors)); root = rw (← h.1) refl; unrefused = rw (← h.1) is }
became old new (ItemToken t ∷ items) is (Ok u, next, given, rest) = let took = takes_on t old next (Ok u) is given in
    let later = became next new items took.refused rest in
    record {
      steps = and took.step later.steps;
      tokenizer_errors = later.tokenizer_errors ∙ ap (λ (x : List ParseError). x ++ errors_handed items) took.tokenizer_errors;
      root = later.root ∙ took.root;
      unrefused = later.unrefused;
    }
became old new (ItemError e ∷ items) is (Ok u, next, given, rest) =
    let took : next ≡ record old { tokenizer_errors = old.tokenizer_errors ++ e ∷ [] } = tells e old next (Ok u) is given in
    let later = became next new items (ap (λ (b : Building). b.refused) took ∙ is) rest in
    record {
      steps = subst (λ (b : Building). Steps numbers (map placed_number (tokens_handed items)) b.state (Goes new.state)) took later.steps;
      tokenizer_errors = later.tokenizer_errors ∙ ap (λ (b : Building). b.tokenizer_errors ++ errors_handed items) took
          ∙ append_assoc old.tokenizer_errors (e ∷ []) (errors_handed items);
      root = later.root ∙ ap (λ (b : Building). b.root) took;
      unrefused = later.unrefused;
    }
became old new (x ∷ items) is (Err e, next, given, rest) = let never = rest.0 in absurd cc

-- it refuses for want of memory, or a token that the rules refuse
pub refused_by_rules : (old new : Building) (items : List Item) (e : Refusal) → old.refused ≡ None → Hands builds old items (Err e) new
    → (e ≡ Memory) ⊎ Steps numbers (map placed_number (tokens_handed items)) old.state (Refused e)
refused_by_rules old new [] e is h = let never = h.0 in absurd cc
refused_by_rules old new (ItemToken t ∷ items) e is (Ok u, next, given, rest) = let took = takes_on t old next (Ok u) is given in
    or_then (refused_by_rules next new items e took.refused rest) (λ steps. inr (and took.step steps))
refused_by_rules old new (ItemError f ∷ items) e is (Ok u, next, given, rest) =
    let took : next ≡ record old { tokenizer_errors = old.tokenizer_errors ++ f ∷ [] } = tells f old next (Ok u) is given in
    or_then (refused_by_rules next new items e (ap (λ (b : Building). b.refused) took ∙ is) rest)
    (λ steps. inr (subst (λ (b : Building). Steps numbers (map placed_number (tokens_handed items)) b.state (Refused e)) took steps))
refused_by_rules old new (ItemToken t ∷ items) e is (Err r, next, given, rest) = let took = takes_on t old next (Err r) is given in
    let same : r ≡ e = let it = rest.0 in cc in
    elim took.step [
      | inl why ↦ inl (sym same ∙ why)
      | inr step ↦ inr (refused (subst (λ (x : Refusal). Step numbers (token_at (token_in t)) (token_of (token_in t)) old.state (Refused x)) same step))
    ]
refused_by_rules old new (ItemError f ∷ items) e is (Err r, next, given, rest) =
    let took = tells f old next (Err r) is given in let same : r ≡ e = let it = rest.0 in cc in inl (sym same ∙ took.0)
