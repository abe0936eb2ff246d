-- Characters of a run, each of which is put where the first one is.
use Rattle.hmodes.proofs.Vocabulary.{StepGives, ◌≡◌, inl, inr, ℕ, Bool, true, false, List, [], ◌∷◌, Option, Some, None, Result, Ok, Err, refl, sym, ◌∙◌, ap, subst, ◌&&◌, ◌==◌, nat_le, is_none, if◌then◌else◌, MatchOption, characters, Hands, Placed, Refusal, TooManyNodes, run_tokens, Nodes, add_char, text_before, Place, Gives, numbers, Outcome, Goes, SiteOf, OnGoes, flow_of, with_site, AreSome, State, Token, character, Rule, Chain, ends, refuses, Step, goes, step_begun, token_of, token_at, Building, TakesTokenAt, TakesToken, BuilderTakesOn, BuilderStaysRefused, BuilderStands, refused_by, Alone, Handed, token_in}
use Rattle.htoken.specs.declared.token.Token.TheVariants as code
use Rattle.hadopt.specs.Site as site
use Rattle.hadopt.specs.Inserts as inserts
use Rattle.hmodes.proofs.Looping.{stands-after}
use Rattle.hmodes.proofs.OnePut.{here, rule_puts, puts_now, puts-nodes, place-here}

-- what comes of a token where nothing was refused before
pub taken : (at : ℕ) (t : Token ℕ) (old new : Building) (answer : Result (Unit {0}) Refusal) → old.refused ≡ None → TakesTokenAt at t old answer new
    → BuilderTakesOn at t old answer new
taken at t old new answer none given =
    subst (λ (q : Option Refusal). MatchOption q (BuilderTakesOn at t old answer new) (λ why. BuilderStaysRefused why old answer new)) none given

pub takes-on : (at : ℕ) (t : Token ℕ) (old new : Building) (answer : Result (Unit {0}) Refusal) → old.refused ≡ None → BuilderTakesOn at t old answer new
    → TakesTokenAt at t old answer new
takes-on at t old new answer none on =
    subst (λ (q : Option Refusal). MatchOption q (BuilderTakesOn at t old answer new) (λ why. BuilderStaysRefused why old answer new)) (sym none) on

-- In a state in which no LF is dropped, nothing is reconstructed or foster parented. What is put makes other nodes, and nothing else.
module _ (b : Building) (free : b.refused ≡ None) (off : b.state.site.foster ≡ false) (keeps_lf : b.state.control.drop_lf ≡ false)
    (puts : puts_now b.state.control.mode b.state.site ≡ true) where
  abbrev begin : State ℕ
  begin = step_begun b.state

  abbrev to : Place
  to = here b.state.site

  abbrev site_with : Nodes ℕ → SiteOf ℕ
  site_with v = record b.state.site { nodes = v }

  abbrev with_nodes : Nodes ℕ → State ℕ
  with_nodes v = with_site (site_with v) begin

  abbrev after_put : SiteOf ℕ → Option Refusal → Building
  after_put x refused = record { state = with_site x begin; root = b.root; tokenizer_errors = b.tokenizer_errors; refused = refused }

  rule_with : (at c : ℕ) (v : Nodes ℕ) → (c == 0) ≡ false
      → Rule numbers at (character c) (with_nodes v) ≡ flow_of (with_nodes v) (inserts.put at c to (site_with v))
  rule_with at c v some = rule_puts at c (with_nodes v) some (puts-nodes b.state.control.mode b.state.site v puts)
      ∙ ap (λ (p : Place). flow_of (with_nodes v) (inserts.put at c p (site_with v))) (place-here (site_with v) off)

  -- a building whose next token begins in this state
  record Before (v : Nodes ℕ) (old : Building) : Type 0 where
    begins : step_begun old.state ≡ with_nodes v
    lf : old.state.control.drop_lf ≡ false
    tokenizer_errors : old.tokenizer_errors ≡ b.tokenizer_errors
    root : old.root ≡ b.root
    refused : old.refused ≡ None

  -- what comes of the character by what comes of putting it
  abbrev StepTo : ℕ → ℕ → Building → Outcome (SiteOf ℕ) → Type 0
  StepTo at c old (Goes x) = Step numbers at (character c) old.state (Goes (with_site x begin))
  StepTo at c old (site.Refused r) = Step numbers at (character c) old.state (site.Refused r)

  step_with : (at c : ℕ) (v : Nodes ℕ) (old : Building) → Before v old → (c == 0) ≡ false → (o : Outcome (SiteOf ℕ)) → inserts.put at c to (site_with v) ≡ o
      → StepTo at c old o
  step_with at c v old h some (Goes x) e =
      goes (ap (λ (d : Bool). d && (c == 10)) h.lf) (subst (λ (s : State ℕ). Chain numbers at (character c) s (Goes (with_site x begin))) (sym h.begins)
      (ends (rule_with at c v some ∙ ap (flow_of (with_nodes v)) e)))
  step_with at c v old h some (site.Refused r) e = goes (ap (λ (d : Bool). d && (c == 10)) h.lf) (subst
      (λ (s : State ℕ). Chain numbers at (character c) s (site.Refused r)) (sym h.begins) (refuses (rule_with at c v some ∙ ap (flow_of (with_nodes v)) e)))

  -- the first character, or each after another
  wrong : (p : Placed) (v : Nodes ℕ) (old : Building) → Before v old → (x : SiteOf ℕ) (r : Refusal)
      → StepGives p.at (character p.ch) old.state (Err r) (with_site x begin) → TakesToken old (Alone (code.Char p.ch p.at)) (Err r) (after_put x (Some r))
  wrong p v old h x r step = takes-on p.at (character p.ch) old (after_put x (Some r)) (Err r) h.refused
      (record { step = step; tokenizer_errors = sym h.tokenizer_errors; root = sym h.root; refused = refl })

  -- the state after a character is such a state
  later : (v : Nodes ℕ) → Before v (after_put (site_with v) None)
  later v = record { begins = refl; lf = refl; tokenizer_errors = refl; root = refl; refused = refl }

  whole : Before b.state.site.nodes b
  whole = record { begins = refl; lf = keeps_lf; tokenizer_errors = refl; root = refl; refused = free }

  -- whether a character is refused: a text is to be made, and there are as many nodes as may be
  abbrev is_full : Nodes ℕ → Bool
  is_full v = is_none (text_before to v.trees) && nat_le v.limit v.made

  abbrev Put : Placed → Nodes ℕ → Bool → Outcome (SiteOf ℕ)
  Put p v full = if full then site.Refused (TooManyNodes p.at) else Goes (site_with (add_char p.ch to v))

  module _ (x : SiteOf ℕ) where
    -- what is put where the last character is answered this
    abbrev outcome_of : Result (Unit {0}) Refusal → Outcome (SiteOf ℕ)
    outcome_of (Ok u) = Goes x
    outcome_of (Err r) = site.Refused r

    abbrev HandsRun : Building → List Placed → Result (Unit {0}) Refusal → Type 0
    HandsRun old ps answer = Hands TakesToken old (run_tokens ps) answer (after_put x (refused_by answer))

    module _ (answer : Result (Unit {0}) Refusal) where
      put_first : (p : Placed) (ps : List Placed) (v : Nodes ℕ) (old : Building) → Before v old → (p.ch == 0) ≡ false
          → ((w : Nodes ℕ) → inserts.put_each ps to (site_with w) ≡ outcome_of answer → HandsRun (after_put (site_with w) None) ps answer)
          → inserts.put_each (p ∷ ps) to (site_with v) ≡ outcome_of answer → HandsRun old (p ∷ ps) answer
      put_first p ps v old h some rest e = by_room (is_full v) refl where
        stops : (a : Result (Unit {0}) Refusal) → is_full v ≡ true → site.Refused (TooManyNodes p.at) ≡ outcome_of a → HandsRun old (p ∷ ps) a
        stops (Ok u) full is = absurd (subst (OnGoes (λ y. ⊥)) is tt)
        stops (Err r) full is = let step = step_with p.at p.ch v old h some (site.Refused r) (ap (Put p v) full ∙ is) in
            (Err r, after_put x (Some r), wrong p v old h x r (inr step), (refl, refl))

        by_room : (full : Bool) → is_full v ≡ full → HandsRun old (p ∷ ps) answer
        by_room true full = stops answer full (sym (ap (λ (b : Bool). site.and_then (Put p v b) (inserts.put_each ps to)) full) ∙ e)
        by_room false full = let w : Nodes ℕ = add_char p.ch to v in let step = step_with p.at p.ch v old h some (Goes (site_with w)) (ap (Put p v) full) in
            let on = takes-on p.at (character p.ch) old (after_put (site_with w) None) (Ok tt) h.refused
            (record { step = step; tokenizer_errors = sym h.tokenizer_errors; root = sym h.root; refused = refl }) in
            (Ok tt, after_put (site_with w) None, on, rest w (sym (ap (λ (b : Bool). site.and_then (Put p v b) (inserts.put_each ps to)) full) ∙ e))

      put_rest : (ps : List Placed) → AreSome (characters ps) → (v : Nodes ℕ) → inserts.put_each ps to (site_with v) ≡ outcome_of answer
          → HandsRun (after_put (site_with v) None) ps answer
      put_rest [] some v e = ends answer e where
        ends : (a : Result (Unit {0}) Refusal) → Goes (site_with v) ≡ outcome_of a → HandsRun (after_put (site_with v) None) [] a
        ends (Ok u) is = let same : site_with v ≡ x = cc in (refl, ap (λ (y : SiteOf ℕ). after_put y None) same)
        ends (Err r) is = absurd cc
      put_rest (p ∷ ps) some v e = put_first p ps v (after_put (site_with v) None) (later v) some.0 (put_rest ps some.1) e

    -- the whole run
    pub run_put : (p : Placed) (ps : List Placed) → AreSome (characters (p ∷ ps)) → (answer : Result (Unit {0}) Refusal)
        → Gives answer x (inserts.put_each (p ∷ ps) to b.state.site) → HandsRun b (p ∷ ps) answer
    run_put p ps some (Ok u) e = put_first (Ok tt) p ps b.state.site.nodes b whole some.0 (put_rest (Ok tt) ps some.1) e
    run_put p ps some (Err r) (inl m) = (Err r, after_put x (Some r), wrong p b.state.site.nodes b whole x r (inl m), (refl, refl))
    run_put p ps some (Err r) (inr e) = put_first (Err r) p ps b.state.site.nodes b whole some.0 (put_rest (Err r) ps some.1) e

-- the building after a token, and after tokens
pub stands-on : (at : ℕ) (t : Token ℕ) (old new : Building) → BuilderStands old.root old.state → BuilderTakesOn at t old (Ok tt) new
    → BuilderStands new.root new.state
stands-on at t old new s on = subst (λ (r : ℕ). BuilderStands r new.state) (sym on.root) (stands-after old.root at t old.state new.state s on.step)

pub stands-run : (ts : List Handed) (old new : Building) → BuilderStands old.root old.state → old.refused ≡ None → Hands TakesToken old ts (Ok tt) new
    → BuilderStands new.root new.state
stands-run [] old new s none h = subst (λ (b : Building). BuilderStands b.root b.state) h.1 s
stands-run (t ∷ ts) old new s none (Err e, mid, given, rest) = let never = rest.0 in absurd cc
stands-run (t ∷ ts) old new s none (Ok u, mid, given, rest) = let on = taken (token_at (token_in t)) (token_of (token_in t)) old mid (Ok u) none given in
    stands-run ts mid new (stands-on (token_at (token_in t)) (token_of (token_in t)) old mid s on) on.refused rest
