-- Characters that are put after the formatting elements were reconstructed: the first of them reconstructs these.
use Rattle.hmodes.proofs.Vocabulary.{◌≡◌, ◌≢◌, inl, inr, ℕ, Bool, true, false, List, ◌∷◌, None, Result, Ok, Err, refl, sym, ◌∙◌, ap, subst, ◌&&◌, ◌==◌, false≢true, characters, Hands, Placed, Refusal, run_tokens, Gives, put_each, numbers, reconstructed, Outcome, Goes, SiteOf, and_then, OnGoes, perform, flow_of, with_site, State, Token, character, flow_then, Rule, Chain, ends, refuses, goes_again, Step, drops, goes, is_dropped, step_begun, put, Building, TakesToken, StepGives, refused_by, AreSome, before_text, puts_in, put_all, Mode, Alone, char_rule, is_for_text}
use Rattle.htoken.specs.declared.token.Token.TheVariants as code
use Rattle.hadopt.specs.Site as site
use Rattle.hmodes.specs.declared.mode.Mode.TheVariants as mode
use Rattle.hmodes.proofs.InRun.{run_put, taken, takes-on}
use Rattle.hmodes.proofs.OnePut.{here, rule-char, rule_puts, puts_now}
use Rattle.hmodes.proofs.Renewed.{text-begins}
use Rattle.hmodes.proofs.Every.{never}

-- a mode whose text is not that of an element reconstructs the formatting elements
pub before-other : (at : ℕ) (m : Mode) (x : SiteOf ℕ) → m ≢ mode.Text → before_text at m x ≡ reconstructed numbers at x
before-other at mode.Text x other = absurd (other refl)
before-other at _ x other = refl

-- what comes of characters whose formatting elements were reconstructed, or not
pub begun-gives : (at : ℕ) (cs : List Placed) (s : State ℕ) (y : SiteOf ℕ) (answer : Result (Unit {0}) Refusal) (x : SiteOf ℕ)
    → before_text at s.control.mode s.site ≡ Goes y → Gives answer x (put_each cs (here y) y) → Gives answer x (put_all at cs s)
begun-gives at cs s y answer x is g = subst (λ (o : Outcome (SiteOf ℕ)). Gives answer x (and_then o (λ z. put_each cs (here z) z))) (sym is) g

-- a token whose rule gives the same in two states
chain-same : (at : ℕ) (t : Token ℕ) (s s' : State ℕ) (o : Outcome (State ℕ)) → Rule numbers at t s' ≡ Rule numbers at t s → Chain numbers at t s o
    → Chain numbers at t s' o
chain-same at t s s' o same (ends rule) = ends (same ∙ rule)
chain-same at t s s' o same (refuses rule) = refuses (same ∙ rule)
chain-same at t s s' o same (goes_again rule rest) = goes_again (same ∙ rule) rest

step-same : (at : ℕ) (t : Token ℕ) (s s' : State ℕ) (o : Outcome (State ℕ)) → is_dropped t s ≡ false → is_dropped t s' ≡ false
    → Rule numbers at t (step_begun s') ≡ Rule numbers at t (step_begun s) → Step numbers at t s o → Step numbers at t s' o
step-same at t s s' o kept kept' same (drops is) = absurd (false≢true (sym kept ∙ is))
step-same at t s s' o kept kept' same (goes isnt rest) = goes kept' (chain-same at t (step_begun s) (step_begun s') o same rest)

gives-same : (at : ℕ) (t : Token ℕ) (s s' new : State ℕ) (answer : Result (Unit {0}) Refusal)
    → ((o : Outcome (State ℕ)) → Step numbers at t s o → Step numbers at t s' o) → StepGives at t s answer new → StepGives at t s' answer new
gives-same at t s s' new (Ok u) steps h = steps (Goes new) h
gives-same at t s s' new (Err e) steps (inl m) = inl m
gives-same at t s s' new (Err e) steps (inr h) = inr (steps (site.Refused e) h)

-- what the rule of a character is made of
for-text : (m : Mode) → puts_in m ≡ true → is_for_text m ≡ true
for-text mode.Text h = refl
for-text _ h = cc

module _ (at c : ℕ) (s : State ℕ) where
  starts : (m : Mode) → puts_in m ≡ true
      → perform numbers at (character c) (char_rule m) s ≡ flow_then (flow_of s (before_text at m s.site)) (perform numbers at (character c) put)
  starts mode.Text h = refl
  starts mode.InBody h = refl
  starts mode.InCaption h = refl
  starts mode.InCell h = refl
  starts _ h = never h

module _ (b : Building) (free : b.refused ≡ None) (off : b.state.site.foster ≡ false) (keeps_lf : b.state.control.drop_lf ≡ false)
    (puts : puts_in b.state.control.mode ≡ true) (p : Placed) (some : (p.ch == 0) ≡ false) where
  abbrev begin : State ℕ
  begin = step_begun b.state

  abbrev after : SiteOf ℕ → Result (Unit {0}) Refusal → Building
  after x answer = record { state = with_site x begin; root = b.root; tokenizer_errors = b.tokenizer_errors; refused = refused_by answer }

  kept : is_dropped (character p.ch) b.state ≡ false
  kept = ap (λ (d : Bool). d && (p.ch == 10)) keeps_lf

  abbrev before : Outcome (SiteOf ℕ)
  before = before_text p.at b.state.control.mode b.state.site

  rule-is : (o : Outcome (SiteOf ℕ)) → before ≡ o
      → Rule numbers p.at (character p.ch) begin ≡ flow_then (flow_of begin o) (perform numbers p.at (character p.ch) put)
  rule-is o is = rule-char p.at p.ch begin some (for-text b.state.control.mode puts) ∙ starts p.at p.ch begin b.state.control.mode puts
      ∙ ap (λ (q : Outcome (SiteOf ℕ)). flow_then (flow_of begin q) (perform numbers p.at (character p.ch) put)) is

  -- one that is refused
  wrong : (e : Refusal) (x : SiteOf ℕ) (ps : List Placed) → StepGives p.at (character p.ch) b.state (Err e) (with_site x begin)
      → Hands TakesToken b (run_tokens (p ∷ ps)) (Err e) (after x (Err e))
  wrong e x ps step = let on = takes-on p.at (character p.ch) b (after x (Err e)) (Err e) free
      (record { step = step; tokenizer_errors = refl; root = refl; refused = refl }) in (Err e, after x (Err e), on, (refl, refl))

  -- the building with the formatting elements
  abbrev now : SiteOf ℕ → Building
  now y = record b { state = with_site y begin }

  module _ (y : SiteOf ℕ) (is : before ≡ Goes y) where
    begins : (y.foster ≡ b.state.site.foster) × (puts_now b.state.control.mode y ≡ true)
    begins = subst (OnGoes (λ t. (t.foster ≡ b.state.site.foster) × (puts_now b.state.control.mode t ≡ true))) is
        (text-begins p.at b.state.control.mode b.state.site puts)

    same : Rule numbers p.at (character p.ch) begin ≡ Rule numbers p.at (character p.ch) (step_begun (now y).state)
    same = rule-is (Goes y) is ∙ sym (rule_puts p.at p.ch (with_site y begin) some begins.1)

    from-now : (answer : Result (Unit {0}) Refusal) (mid : Building) → TakesToken (now y) (Alone (code.Char p.ch p.at)) answer mid
        → TakesToken b (Alone (code.Char p.ch p.at)) answer mid
    from-now answer mid given = let on = taken p.at (character p.ch) (now y) mid answer free given in
        let step = gives-same p.at (character p.ch) (now y).state b.state mid.state answer
        (λ o. step-same p.at (character p.ch) (now y).state b.state o refl kept same) on.step in
        takes-on p.at (character p.ch) b mid answer free (record
        { step = step; tokenizer_errors = on.tokenizer_errors; root = on.root; refused = on.refused })

    whole : (ps : List Placed) (answer : Result (Unit {0}) Refusal) (x : SiteOf ℕ) → AreSome (characters (p ∷ ps))
        → Gives answer x (put_each (p ∷ ps) (here y) y) → Hands TakesToken b (run_tokens (p ∷ ps)) answer (after x answer)
    whole ps answer x all g = let off-now : y.foster ≡ false = begins.0 ∙ off in let h = run_put (now y) free off-now refl begins.1 x p ps all answer g in
        (h.0, h.1, from-now h.0 h.1 h.2, h.3)

  -- all of them
  pub begun_put : (ps : List Placed) (answer : Result (Unit {0}) Refusal) (x : SiteOf ℕ) → AreSome (characters (p ∷ ps))
      → Gives answer x (put_all p.at (p ∷ ps) b.state) → Hands TakesToken b (run_tokens (p ∷ ps)) answer (after x answer)
  begun_put ps answer x all g = go before refl answer g where
    rest : SiteOf ℕ → Outcome (SiteOf ℕ)
    rest y = put_each (p ∷ ps) (here y) y

    go : (o : Outcome (SiteOf ℕ)) → before ≡ o → (answer : Result (Unit {0}) Refusal) → Gives answer x (and_then before rest)
        → Hands TakesToken b (run_tokens (p ∷ ps)) answer (after x answer)
    go (Goes y) is answer g = whole y is ps answer x all (subst (λ (o : Outcome (SiteOf ℕ)). Gives answer x (and_then o rest)) is g)
    go (site.Refused r) is (Ok u) g = absurd (subst (OnGoes (λ y. ⊥)) (sym (ap (λ (o : Outcome (SiteOf ℕ)). and_then o rest) is) ∙ g) tt)
    go (site.Refused r) is (Err e) (inl m) = wrong e x ps (inl m)
    go (site.Refused r) is (Err e) (inr h) = let same : site.Refused r ≡ site.Refused e = sym (ap (λ (o : Outcome (SiteOf ℕ)). and_then o rest) is) ∙ h in
        wrong e x ps (inr (goes kept (refuses (rule-is (site.Refused e) (is ∙ same)))))
