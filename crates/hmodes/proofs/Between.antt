-- What holds of the state between two rules.
use Rattle.hmodes.proofs.Vocabulary.{if◌then◌else◌, cond_both, ◌≡◌, ℕ, zero, suc, ◌+◌, ◌<◌, eqb, ltb, not, List, [], ◌∷◌, Some, refl, subst, arith, ◌&&◌, lt-leb, ne_eqb, element, tree, PlacedToken, Steps, IfSome, QuirkLine, NonVoidHtmlElementStartTagWithTrailingSolidus, deep-there, Naming, numbers, texts, Outcome, Goes, stack, trees, TellsTables, IsSound, OnGoes, erred, from-well, numbers-tell, texts-tell, Well, Mode, AfterHead, Limits, document_begins, fragment_begins, Reached, fragment, after, Token, State, Flow, Done, Again, Refused, is_self_closing, kind_of, Rule, Chain, Step, ends, refuses, goes_again, drops, goes, step_begun, finished}
use Rattle.hmodes.proofs.Every.{by_option}
use Rattle.names.specs.declared.tag.Tag.TheVariants as tag
use Rattle.hmodes.specs.Reached.{document}
use Rattle.hmodes.proofs.Down.{Sound, FlowFalls, cap, rule-down}
use Rattle.hmodes.proofs.Facts.{reset-found}
use Rattle.hmodes.proofs.HeadFacts.{HeadFacts, FlowFacts, Facts, OutOf, late-facts}
use Rattle.hmodes.proofs.HeadRules.{rule-facts}
use Rattle.hmodes.specs.Step as step
use Rattle.hnodes.specs.Forest as forest
use Rattle.hmodes.proofs.Stands.{FlowWell, rule-well}

-- what is asked of names
pub record Tells {N : Type 0} (n : Naming N) : Type 0 where
  pub tables : TellsTables n
  pub img : n.tag (n.known tag.Img) ≡ tag.Img

pub numbers-all : Tells numbers
numbers-all = record { tables = numbers-tell; img = refl }

pub texts-all : Tells texts
texts-all = record { tables = texts-tell; img = refl }

module _ {N : Type 0} (n : Naming N) where
  -- the site in which a document or a fragment begins
  document-well : (quirks : List QuirkLine) (limits : Limits) → Well n (document_begins quirks limits).site
  document-well quirks limits = record { counted = record { once = one; begins = (forest.none, forest.none, refl) }; each = tt; order = tt; plain = tt } where
    one : (x : ℕ) → (if eqb 0 x then 1 else 0) + 0 ≡ (if ltb x 1 then 1 else 0)
    one zero = refl
    one (suc x) = rw (ne_eqb 0 (suc x) (λ e. omega arith), lt-leb (suc (suc x)) 1 (omega arith)) refl

  fragment-well : (context : N) (limits : Limits) → Well n (fragment_begins n context limits).site
  fragment-well context limits = let t = tree 1 (element (n.known tag.Html) []) forest.none forest.none in
      record { counted = record { once = one; begins = (t, forest.none, refl) }; each = ((omega arith, omega arith), tt); order = (tt, tt); plain = tt } where
        one : (x : ℕ) → (if eqb 0 x then 1 else 0) + (((if eqb 1 x then 1 else 0) + 0) + 0) ≡ (if ltb x 2 then 1 else 0)
        one zero = refl
        one (suc zero) = refl
        one (suc (suc x)) =
            rw (ne_eqb 0 (suc (suc x)) (λ e. omega arith), ne_eqb 1 (suc (suc x)) (λ e. omega arith), lt-leb (suc (suc (suc x))) 2 (omega arith)) refl

module _ {N : Type 0} (n : Naming N) where
  -- the open nodes are in the document's tree, the head pointer is as the mode says, and text is not left for text
  pub record Orderly (s : State N) : Type 0 where
    pub well : Well n s.site
    pub head : HeadFacts s
    pub sound : Sound s.control

  abbrev pub FlowOrderly : Flow N → Type 0
  FlowOrderly (Done s) = Orderly s
  FlowOrderly (Again t s) = Orderly s
  FlowOrderly (Refused r) = Unit {0}

  out-of : (s : State N) → HeadFacts s → s.control.mode ≡ AfterHead → OutOf s.control.head (stack s.site) (trees s.site)
  out-of s f is = subst (λ (m : Mode). Facts m s.control.saved s.control.head (stack s.site) (trees s.site)) is f

  -- what a rule asks
  pub orderly-kept : (s : State N) → Orderly s → IsSound n s.site
  orderly-kept s o = from-well n s.site o.well

  pub orderly-head : (s : State N) → Orderly s → s.control.mode ≡ AfterHead → IfSome s.control.head (λ k. (0 < k) × (k < s.site.nodes.made))
  orderly-head s o is = by_option s.control.head (λ p. IfSome p (λ k. (0 < k) × (k < s.site.nodes.made))) (λ e. tt) (λ h e.
      let out = (out-of s o.head is h e).0 in (out.1, (deep-there s.site.nodes.made (trees s.site) o.well.counted h 0 out.0).0))

  -- where a document or a fragment begins
  pub orderly-document : (quirks : List QuirkLine) (limits : Limits) → Orderly (document_begins quirks limits)
  orderly-document quirks limits = record { well = document-well n quirks limits; head = tt; sound = λ e. cc }

  pub orderly-fragment : (context : N) (limits : Limits) → Orderly (fragment_begins n context limits)
  orderly-fragment context limits = let r = reset-found n (Some context) (stack (fragment_begins n context limits).site) in
      let head = late-facts (fragment_begins n context limits) (record { mode = r.0; saved = λ e. r.0; sound = λ i. r.0 }) in
      record { well = fragment-well n context limits; head = head; sound = λ i. r.1 }

  -- where a token begins and ends
  pub orderly-begins : (s : State N) → Orderly s → Orderly (step_begun s)
  orderly-begins s o = record { well = o.well; head = o.head; sound = o.sound }

  pub orderly-finishes : (at : ℕ) (t : Token N) (s : State N) → Orderly s → Orderly (finished at t s)
  orderly-finishes at t s o = cond_both (is_self_closing t && not s.control.acknowledged) _ _ Orderly
      (λ _. record { well = erred n s.site NonVoidHtmlElementStartTagWithTrailingSolidus at o.well; head = o.head; sound = o.sound }) (λ _. o)

  module _ (tells : Tells n) where
    together : (f : Flow N) (r : ℕ) → FlowWell n f → FlowFacts f → FlowFalls n tells.img r f → FlowOrderly f
    together (Done s) r w f h = record { well = w; head = f; sound = h }
    together (Again t s) r w f h = record { well = w; head = f; sound = h.0 }
    together (Refused e) r w f h = tt

    -- every rule keeps it
    pub rule-orderly : (at : ℕ) (t : Token N) (s : State N) → Orderly s → FlowOrderly (Rule n at t s)
    rule-orderly at t s o = together (Rule n at t s) (cap (kind_of n t) s.control.mode)
        (rule-well n tells.tables at t s (λ is h e. let p = out-of s o.head is h e in record { stands = p.0; out = p.1 }) o.well)
        (rule-facts n tells.tables at t s o.well o.head) (rule-down n tells.img at t s o.sound)

    pub again-orderly : (at : ℕ) (t t' : Token N) (s s' : State N) → Orderly s → Rule n at t s ≡ Again t' s' → Orderly s'
    again-orderly at t t' s s' o rule = subst FlowOrderly rule (rule-orderly at t s o)

    chain-orderly : (at : ℕ) (t : Token N) (s : State N) (o : Outcome (State N)) → Orderly s → Chain n at t s o → OnGoes Orderly o
    chain-orderly at t s o g (ends {s' = s'} rule) = orderly-finishes at t s' (subst FlowOrderly rule (rule-orderly at t s g))
    chain-orderly at t s o g (refuses rule) = tt
    chain-orderly at t s o g (goes_again {t' = t'} {s' = s'} rule rest) = chain-orderly at t' s' o (again-orderly at t t' s s' g rule) rest

    pub step-orderly : (at : ℕ) (t : Token N) (s : State N) (o : Outcome (State N)) → Orderly s → Step n at t s o → OnGoes Orderly o
    step-orderly at t s o g (drops is) = orderly-begins s g
    step-orderly at t s o g (goes isnt rest) = chain-orderly at t (step_begun s) o (orderly-begins s g) rest

    -- so it holds in each state that tokens lead to
    pub reached-orderly : (s : State N) → Reached n s → Orderly s
    reached-orderly s (document quirks limits) = orderly-document quirks limits
    reached-orderly s (fragment context limits) = orderly-fragment context limits
    reached-orderly s (after {at = at} {t = t} {s = before} r one) = step-orderly at t before (Goes s) (reached-orderly before r) one

  -- tokens in order lead from a state that tokens lead to to another one
  pub steps-reach : (ts : List (PlacedToken N)) (s s' : State N) → Reached n s → Steps n ts s (Goes s') → Reached n s'
  steps-reach [] s s' r step.none = r
  steps-reach (t ∷ ts) s s' r (step.and {s' = u} one rest) = steps-reach ts u s' (after r one) rest

  pub steps-kept : Tells n → (ts : List (PlacedToken N)) (s s' : State N) → Reached n s → Steps n ts s (Goes s') → IsSound n s'.site
  steps-kept tells ts s s' r run = orderly-kept s' (reached-orderly tells s' (steps-reach ts s s' r run))
