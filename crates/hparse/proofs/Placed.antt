-- What a builder that keeps how nodes are made has been handed: what the builder in it was, and how they were made.
use Rattle.hparse.proofs.Names.{◌≡◌, ℕ, ◌+◌, ◌-◌, length, Bool, true, false, List, [], ◌∷◌, ◌++◌, map, sym, refl, ap, ◌∙◌, subst, Option, Some, None, Result, Ok, Err, inl, inr, ◌⊎◌, option_map, ParseError, Refusal, Memory, Texts, Hands, run_tokens, Tok, Item, ItemToken, ItemError, numbers, Goes, Building, TakesToken, mapped_placed, mapped_state, PlacedToken, State, start, BuilderWithOrigins, Manner, Began, WasHanded, tokens_handed, IsRefusedFor, by_sink, by_tag, by_bytes, by_memory, IsTaken, takes_item_with_origins, TakesTokenWithOrigins, not, is_some, ◌&&◌, range_with_len, TakesTextWithReferences, Handed, token_in, Naming, Agree, questions, Nodes, mapped, mapped_nodes, node_name, Tag, StepsKnowNoNames, mapped_token, MakesNodes, first_of, element_name, own_name, are_same, making_of, making, with_made, after_token, makings_of, Origin}
use Rattle.hparse.proofs.Handing.{or_then}
use Rattle.std.specs.Prelude.{◌==◌}
use Rattle.names.specs.declared.tag.Tag.TheVariants as tag
use Rattle.hmodes.specs.State.{Token}
use Rattle.hparse.specs.Origins.{none, and}
use Rattle.hparse.proofs.Built.{builds, takes_on, tells}
use Rattle.hparse.proofs.Numbered.{placed_number}

-- the builder was handed the same
pub handed_on : (old new : BuilderWithOrigins) (items : List Item) → Hands takes_item_with_origins old items (Ok tt) new
    → Hands builds old.builder items (Ok tt) new.builder
handed_on old new [] h = (refl, ap (λ (p : BuilderWithOrigins). p.builder) h.1)
handed_on old new (ItemToken t ∷ items) (Ok u, next, given, rest) = (Ok u, next.builder, given.0, handed_on next new items rest)
handed_on old new (ItemError e ∷ items) (Ok u, next, given, rest) = (Ok u, next.builder, given.0, handed_on next new items rest)
handed_on old new (x ∷ items) (Err e, next, given, rest) = let never = rest.0 in absurd cc

-- and refused the same, unless memory ran out
pub refused_on : (old new : BuilderWithOrigins) (items : List Item) (e : Refusal) → Hands takes_item_with_origins old items (Err e) new
    → (e ≡ Memory) ⊎ Hands builds old.builder items (Err e) new.builder
refused_on old new [] e h = let never = h.0 in absurd cc
refused_on old new (ItemToken t ∷ items) e (Ok u, next, given, rest) = or_then (refused_on next new items e rest) (λ on. inr (Ok u, next.builder, given.0, on))
refused_on old new (ItemError f ∷ items) e (Ok u, next, given, rest) = or_then (refused_on next new items e rest) (λ on. inr (Ok u, next.builder, given.0, on))
refused_on old new (ItemToken t ∷ items) e (Err r, next, given, rest) = let same : Err e ≡ Err r = rest.0 in let alike : e ≡ r = cc in
    elim given [ inl why ↦ inl (alike ∙ why) | inr took ↦ inr (Err r, next.builder, took, (same, ap (λ (p : BuilderWithOrigins). p.builder) rest.1)) ]
refused_on old new (ItemError f ∷ items) e (Err r, next, given, rest) = inr
    (Err r, next.builder, given.0, (rest.0, ap (λ (p : BuilderWithOrigins). p.builder) rest.1))

-- what the builder in it began as
abbrev pub inner : Began BuilderWithOrigins → Began Building
inner began = record { names = began.names; sink = began.sink.builder }

module _ {names : Texts} {began : Began BuilderWithOrigins} {now : BuilderWithOrigins} where
  pub handed_inner : {tokens : List Tok} {errors : List ParseError} → WasHanded takes_item_with_origins names began tokens errors (Ok tt) now
      → WasHanded builds names (inner began) tokens errors (Ok tt) now.builder
  handed_inner h = record
      { grows = h.grows; items = h.items; hands = handed_on began.sink now h.items h.hands; items_mean = h.items_mean; errors_are = h.errors_are }

  module _ {m : Manner} {bytes : List ℕ} where
    pub refused_inner : {e : Refusal} → IsRefusedFor takes_item_with_origins m began bytes names now e
        → (e ≡ Memory) ⊎ IsRefusedFor builds m (inner began) bytes names now.builder e
    refused_inner {e} (by_sink refusal events errors h front) = or_then (refused_on began.sink now h.items e h.hands) (λ on.
        inr (by_sink e events errors (record { grows = h.grows; items = h.items; hands = on; items_mean = h.items_mean; errors_are = h.errors_are }) front))
    refused_inner (by_tag name at tokens errors h refused) = inr (by_tag name at tokens errors (handed_inner h) refused)
    refused_inner (by_memory events errors h front) = inl refl
    refused_inner (by_bytes refusal tokens errors handed h read is) = inr (by_bytes refusal tokens errors handed (handed_inner h) read is)

    pub taken_inner : IsTaken takes_item_with_origins m began bytes names now → IsTaken builds m (inner began) bytes names now.builder
    taken_inner t = record { tokens = t.tokens; errors = t.errors; read = t.read; handed = handed_inner t.handed; whole = t.whole }

-- where it is not kept how the nodes were made, it is not later
pub none_on : (old new : BuilderWithOrigins) (items : List Item) → makings_of old ≡ None → Hands takes_item_with_origins old items (Ok tt) new
    → makings_of new ≡ None
none_on old new [] is h = ap makings_of (sym h.1) ∙ is
none_on old new (ItemToken t ∷ items) is (Ok u, next, given, rest) =
    none_on next new items (given.1 ∙ ap (option_map (after_token numbers (placed_number (token_in t)) old.builder.state next.builder.state)) is) rest
none_on old new (ItemError e ∷ items) is (Ok u, next, given, rest) = none_on next new items (given.1 ∙ is) rest
none_on old new (x ∷ items) is (Err e, next, given, rest) = let never = rest.0 in absurd cc

-- where it is, the tokens made them so
pub makes_on : (old new : BuilderWithOrigins) (items : List Item) (made : List Origin) → old.builder.refused ≡ None → makings_of old ≡ Some made
    → Hands takes_item_with_origins old items (Ok tt) new → (made' : List Origin) × (makings_of new ≡ Some made')
    × MakesNodes numbers (map placed_number (tokens_handed items)) old.builder.state made new.builder.state made'
makes_on old new [] made is asks h =
    (made, ap makings_of (sym h.1) ∙ asks, subst (λ (p : BuilderWithOrigins). MakesNodes numbers [] old.builder.state made p.builder.state made) h.1 none)
makes_on old new (ItemToken t ∷ items) made is asks (Ok u, next, given, rest) = let took = takes_on t old.builder next.builder (Ok u) is given.0 in
    let more : List Origin → List Origin = after_token numbers (placed_number (token_in t)) old.builder.state next.builder.state in
    let later = makes_on next new items (more made) took.refused (given.1 ∙ ap (option_map more) asks) rest in
    (later.0, later.1, and took.step later.2)
makes_on old new (ItemError e ∷ items) made is asks (Ok u, next, given, rest) =
    let took : next.builder ≡ record old.builder { tokenizer_errors = old.builder.tokenizer_errors ++ e ∷ [] } =
    tells e old.builder next.builder (Ok u) is given.0 in
    let later = makes_on next new items made (ap (λ (b : Building). b.refused) took ∙ is) (given.1 ∙ asks) rest in (
      later.0,
      later.1,
      subst (λ (b : Building). MakesNodes numbers (map placed_number (tokens_handed items)) b.state made new.builder.state later.0) took later.2,
    )
makes_on old new (x ∷ items) made is asks (Err e, next, given, rest) = let never = rest.0 in absurd cc

-- the same with names as texts
module _ {N M : Type 0} (m : Naming N) (n : Naming M) (g : N → M) (agree : Agree m n g) (know : StepsKnowNoNames m n g) where
  element_mapped : (t : Tag) (x : N) → element_name n t (g x) ≡ g (element_name m t x)
  element_mapped tag.Image x = agree.known tag.Img
  element_mapped _ x = refl

  own_mapped : (t : Token N) → own_name n (mapped_token g t) ≡ option_map g (own_name m t)
  own_mapped (start x attrs closing) = ap (λ (t : Tag). Some (element_name n t (g x))) (agree.spelling.tags x) ∙ ap Some (element_mapped (m.tag x) x)
  own_mapped _ = refl

  first_mapped : (t : Token N) (at : ℕ) (s : State N) → first_of (mapped_token g t) at (mapped_state g s) ≡ first_of t at s
  first_mapped (start x attrs closing) at s = refl
  first_mapped _ at s = refl

  same_mapped : (a b : Option N) → are_same n (option_map g a) (option_map g b) ≡ are_same m a b
  same_mapped (Some x) (Some y) = agree.spelling.names x y
  same_mapped (Some x) None = refl
  same_mapped None (Some y) = refl
  same_mapped None None = refl

  module _ (at first : ℕ) (own : Option N) (nodes : Nodes N) where
    making_mapped : (k : ℕ) → making n at first (option_map g own) (mapped_nodes g nodes) k ≡ making m at first own nodes k
    making_mapped k =
        let name : are_same n (option_map g own) (node_name k (mapped g nodes.trees)) ≡ are_same m own (node_name k nodes.trees) =
        ap (are_same n (option_map g own)) ((questions g).name k nodes.trees) ∙ same_mapped own (node_name k nodes.trees) in
        λ i. making_of at first ((questions g).kind k nodes.trees i) ((k + 1) == nodes.made && name i)

    made_mapped : (list : List Origin) → with_made n at first (option_map g own) (mapped_nodes g nodes) list ≡ with_made m at first own nodes list
    made_mapped list = λ i. list ++ map (λ (k : ℕ). making_mapped k i) (range_with_len (length list) (nodes.made - length list))

  after_mapped : (t : PlacedToken N) (s s' : State N) (list : List Origin)
      → after_token n (mapped_placed g t) (mapped_state g s) (mapped_state g s') list ≡ after_token m t s s' list
  after_mapped t s s' list = (λ i. with_made n t.at (first_mapped t.token t.at s i) (own_mapped t.token i) (mapped_nodes g s'.site.nodes) list)
      ∙ made_mapped t.at (first_of t.token t.at s) (own_name m t.token) s'.site.nodes list

  pub makes_mapped : (ts : List (PlacedToken N)) (s s' : State N) (made made' : List Origin) → MakesNodes m ts s made s' made'
      → MakesNodes n (map (mapped_placed g) ts) (mapped_state g s) made (mapped_state g s') made'
  makes_mapped [] s s' made made' none = none
  makes_mapped (t ∷ ts) s s' made made' (and {s' = mid} step rest) = and (know.step t.at t.token s (Goes mid) step)
      (subst (λ (list : List Origin). MakesNodes n (map (mapped_placed g) ts) (mapped_state g mid) list (mapped_state g s') made')
      (sym (after_mapped t s mid made)) (makes_mapped ts mid s' (after_token m t s mid made) made' rest))

-- what a call of the builder does, where it is not kept
abbrev plain : Building → BuilderWithOrigins
plain b = record { builder = b; makings = None }

plain_hands : (old new : Building) (ts : List Handed) (answer : Result (Unit {0}) Refusal) → Hands TakesToken old ts answer new
    → Hands TakesTokenWithOrigins (plain old) ts answer (plain new)
plain_hands old new [] answer h = (h.0, ap plain h.1)
plain_hands old new (t ∷ ts) answer (Ok u, next, given, rest) = (Ok u, plain next, (given, refl), plain_hands next new ts answer rest)
plain_hands old new (t ∷ ts) answer (Err e, next, given, rest) = (Err e, plain next, inr given, (rest.0, ap plain rest.1))

pub hands_without : (old : BuilderWithOrigins) (new : Building) (ts : List Handed) (answer : Result (Unit {0}) Refusal) → old.makings ≡ None
    → Hands TakesToken old.builder ts answer new → Hands TakesTokenWithOrigins old ts answer (record old { builder = new })
hands_without old new ts answer is h =
    subst (λ o. Hands TakesTokenWithOrigins (record { builder = old.builder; makings = o }) ts answer (record { builder = new; makings = o })) (sym is)
    (plain_hands old.builder new ts answer h)

pub with_references_without : (old : BuilderWithOrigins) (new : Building) (run : List ℕ) (at : ℕ) (answer : Result Bool Refusal) → old.makings ≡ None
    → TakesTextWithReferences TakesToken old.builder run at answer new
    → TakesTextWithReferences TakesTokenWithOrigins old run at answer (record old { builder = new })
with_references_without old new run at (Ok false) is h = ap (λ (b : Building). record old { builder = b }) h
with_references_without old new run at (Ok true) is h = λ text with_references. hands_without old new (run_tokens text) (Ok tt) is (h text with_references)
with_references_without old new run at (Err e) is h = λ text with_references. hands_without old new (run_tokens text) (Err e) is (h text with_references)

pub is_without : {A : Type 0} (o : Option A) (b : Bool) → is_some o ≡ not b → b ≡ true → o ≡ None
is_without None b is so = refl
is_without (Some made) b is so = let never : true ≡ false = is ∙ ap not so in absurd cc
