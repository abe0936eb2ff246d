-- What comes of the parts of a rule comes of the rule.
use Rattle.hmodes.proofs.Vocabulary.{◌≡◌, ℕ, refl, sym, subst, ap, ◌∙◌, inl, inr, nat_eq, Option, Some, None, ◌⊎◌, Result, Ok, Err, option_map, option_map_or, IsErrAnd, EntryOf, find_entry, Refusal, Memory, adopted, Gives, numbers, Outcome, Goes, SiteOf, and_then, FlowGives, StateGives, performed_for, perform, flow_of, with_site, forgotten, Token, State, Flow, Done, Refused, flow_then, Do, ◌▸◌, adopt_listed, Answer, ended}
use Rattle.hmodes.specs.declared.tree_construction.Flow.TheVariants as answer
use Rattle.hadopt.specs.Site as site

-- an operation on the site
pub on-site : {A : Type 0} (r : Result A Refusal) (new : SiteOf ℕ) (s : State ℕ) (o : Outcome (SiteOf ℕ)) → Gives r new o
    → StateGives r (with_site new s) (flow_of s o)
on-site (Ok a) new s o h = ap (flow_of s) h
on-site (Err e) new s o (inl m) = inl m
on-site (Err e) new s o (inr h) = inr (ap (flow_of s) h)

-- what is refused is refused whatever would follow
pub refused-then : (e : Refusal) (x : Flow ℕ) (f : State ℕ → Flow ℕ) → (e ≡ Memory) ⊎ (x ≡ Refused e) → (e ≡ Memory) ⊎ (flow_then x f ≡ Refused e)
refused-then e x f (inl m) = inl m
refused-then e x f (inr h) = inr (ap (λ y. flow_then y f) h)

-- a program goes on where its first part is done, and is refused where that is
pub goes-on : (at : ℕ) (t : Token ℕ) (p q : Do) (s s' : State ℕ) → perform numbers at t p s ≡ Done s'
    → perform numbers at t (p ▸ q) s ≡ perform numbers at t q s'
goes-on at t p q s s' h = ap (λ y. flow_then y (perform numbers at t q)) h

pub refused-as : (e : Refusal) (x y : Flow ℕ) → x ≡ y → (e ≡ Memory) ⊎ (y ≡ Refused e) → (e ≡ Memory) ⊎ (x ≡ Refused e)
refused-as e x y same (inl m) = inl m
refused-as e x y same (inr h) = inr (same ∙ h)

-- what a call hands on that was refused
pub err-state : {A : Type 0} (r : Result A Refusal) (d : Refusal) (new : State ℕ) (x : Flow ℕ) → IsErrAnd r (λ e. e ≡ d) → (d ≡ Memory) ⊎ (x ≡ Refused d)
    → StateGives r new x
err-state (Ok c) d new x h k = absurd h
err-state (Err e) d new x h k = subst (λ (y : Refusal). (y ≡ Memory) ⊎ (x ≡ Refused y)) (sym h) k

-- the adoption agency for a listed element
module _ (at name : ℕ) (s : State ℕ) where
  abbrev after : SiteOf ℕ → Outcome (SiteOf ℕ)
  after y = Goes (option_map_or (λ e. forgotten e.node y) (find_entry nat_eq name s.site.items) y)

  pub listed-refused : (e : Refusal) → (e ≡ Memory) ⊎ (adopted numbers at name s.site ≡ site.Refused e)
      → (e ≡ Memory) ⊎ (performed_for name at adopt_listed s ≡ Refused e)
  listed-refused e (inl m) = inl m
  listed-refused e (inr h) = inr (ap (λ o. flow_of s (and_then o after)) h)

  forgets : (y : SiteOf ℕ) (o : Option (EntryOf ℕ))
      → option_map_or (λ e. forgotten e.node y) o y ≡ option_map_or (λ k. forgotten k y) (option_map (λ e. e.node) o) y
  forgets y None = refl
  forgets y (Some e) = refl

  pub listed-done : (y : SiteOf ℕ) (found : Option ℕ) → adopted numbers at name s.site ≡ Goes y
      → found ≡ option_map (λ e. e.node) (find_entry nat_eq name s.site.items)
      → performed_for name at adopt_listed s ≡ Done (with_site (option_map_or (λ k. forgotten k y) found y) s)
  listed-done y found h is = ap (λ o. flow_of s (and_then o after)) h
      ∙ ap (λ x. Done (with_site x s)) (forgets y (find_entry nat_eq name s.site.items) ∙ ap (λ o. option_map_or (λ k. forgotten k y) o y) (sym is))

-- a rule ends as its call answers
pub ends-as : (flow : Answer) (at : ℕ) (t : Token ℕ) (s : State ℕ) → FlowGives (Ok flow) t s (perform numbers at t (ended flow) s)
ends-as answer.Done at t s = refl
ends-as answer.Again at t s = refl
