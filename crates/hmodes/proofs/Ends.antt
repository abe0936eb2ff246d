-- The rules that process a token end: a number that falls with each.
use Rattle.hmodes.proofs.Vocabulary.{if◌then◌else◌, by_test, cond_both, ◌≡◌, ℕ, zero, suc, ◌+◌, ◌<◌, ◌≤◌, Bool, true, false, cond, List, [], ◌∷◌, leb, length, drop, refl, sym, ◌∙◌, ap, subst, arith, eqb-true, leb-true, not, ◌&&◌, ◌||◌, ◌==◌, stops_in_scope, OpenNode, in_scope, is, Naming, Outcome, Goes, stack, with_error, Mode, Text, InTable, InTableText, InColumnGroup, InTableBody, InRow, TokenKind, Nul, Start, ◌▸◌, pop_to, reset, again, Token, State, Flow, Done, Again, Refused, kind_of, perform, with_site, rule_of, mode_error, Rule, Chain, Step, ends, refuses, goes_again, drops, goes, is_dropped, step_begun, finished, in_table, in_table_text}
use Rattle.hnodes.specs.Nearest.{after}
use Rattle.hopen.specs.declared.scope.Scope.TheVariants as scope
use Rattle.names.specs.declared.tag.Tag.TheVariants as tag
use Rattle.hadopt.specs.Site as site
use Rattle.hmodes.specs.declared.family.Family.TheVariants as family
use Rattle.hmodes.proofs.Facts.{is_texty}
use Rattle.hmodes.proofs.Once.{never_again, Ends, ends-calm}
use Rattle.hmodes.proofs.Every.{never, both, other, each-mode, in-each}
use Rattle.hmodes.proofs.Down.{is_tabular, is_char, level, cap, level-plain, Sound, FlowFalls, rule-down}

abbrev extra : Mode → ℕ
extra InColumnGroup = 1
extra _ = 0

-- how high a token is in a mode that is not of text, under this many open nodes
abbrev weight : TokenKind → Mode → ℕ → ℕ
weight k m count = 1 + (if is_tabular k m then 30 + (count + count) + extra m else level k m)

tabular-level : (k : TokenKind) (m : Mode) → is_tabular k m ≡ true → level k m ≡ 30
tabular-level k m e =
    eqb-true (level k m) 30 (other (not (is_tabular k m)) (level k m == 30) (in-each (λ m k. not (is_tabular k m) || (level k m == 30)) refl m k) (ap not e))

tabular-weight : (c : ℕ) → 1 + (30 + (c + c) + 0) ≡ 31 + (c + c)
tabular-weight c = omega arith

weight-most : (k : TokenKind) (m : Mode) (count : ℕ) → is_texty m ≡ false → weight k m count ≤ 32 + (count + count)
weight-most k m count e =
    cond_both (is_tabular k m) (30 + (count + count) + extra m) (level k m) (λ z. 1 + z ≤ 32 + (count + count))
    (λ _. omega (arith, leb-true (extra m) 1 (each-mode (λ m. leb (extra m) 1) refl m))) (λ _. omega (arith, leb-true (level k m) 30 (level-plain k m e)))

-- no character is reprocessed in table text
waits : (k : TokenKind) → is_char k ≡ true → never_again (in_table_text k) ≡ true
waits Nul e = refl
waits _ e = cc

drop-shorter : {X : Type 0} (xs : List X) → length (drop 1 xs) ≤ length xs
drop-shorter [] = omega arith
drop-shorter (x ∷ xs) = omega arith

-- what is in a scope is popped
pops : {N : Type 0} (is_stop sought : OpenNode N → Bool) (xs : List (OpenNode N)) → in_scope is_stop sought xs ≡ true → length (after sought xs) < length xs
pops is_stop sought [] e = never e
pops is_stop sought (x ∷ xs) e = by_test (sought x)
    (λ v. (v || (not (is_stop x) && in_scope is_stop sought xs)) ≡ true → length (cond v xs (after sought xs)) < length (x ∷ xs)) (λ _ _. omega arith)
    (λ _ k. let more = pops is_stop sought xs (both (not (is_stop x)) (in_scope is_stop sought xs) k).1 in omega (arith, more)) e

module _ {N : Type 0} (n : Naming N) where
  abbrev weight_of : Token N → State N → ℕ
  weight_of t s = weight (kind_of n t) s.control.mode (length (stack s.site))

  -- after a rule of the modes of text
  abbrev after_text : Flow N → ℕ
  after_text (Again t s) = 1 + weight_of t s
  after_text _ = 0

  -- how far a token is from its last rule
  abbrev pub left : ℕ → Token N → State N → ℕ
  left at t s = if is_texty s.control.mode then after_text (Rule n at t s) else weight_of t s

  none-after : (f : Flow N) → Ends f → after_text f ≡ 0
  none-after (Done s) e = refl
  none-after (Again t s) e = absurd e
  none-after (Refused r) e = refl

  -- a character stays in table text
  stays : (at : ℕ) (t : Token N) (s : State N) → is_texty s.control.mode ≡ true → level (kind_of n t) s.control.mode < 40 → after_text (Rule n at t s) ≡ 0
  stays at t s e low = go s.control.mode refl e low where
    go : (m : Mode) → s.control.mode ≡ m → is_texty m ≡ true → level (kind_of n t) m < 40 → after_text (perform n at t (rule_of m (kind_of n t)) s) ≡ 0
    go Text is e low = omega (arith, low)
    go InTableText is e low = by_test (is_char (kind_of n t)) (λ v. cond v 0 40 < 40 → after_text (perform n at t (in_table_text (kind_of n t)) s) ≡ 0)
        (λ c _. none-after (perform n at t (in_table_text (kind_of n t)) s) (ends-calm n (in_table_text (kind_of n t)) (waits (kind_of n t) c) at t s))
        (λ _ l. omega (arith, l)) low
    go _ is e low = never e

  -- the start tag of a table that closes the open one
  closes : (at : ℕ) (t t' : Token N) (s s' : State N) → is_texty s'.control.mode ≡ false → (q : Bool)
      → in_scope (stops_in_scope n.tag scope.Table) (is n tag.Table) (stack s.site) ≡ q
      → cond q (perform n at t (pop_to tag.Table ▸ reset ▸ again) (with_site (with_error (mode_error InTable) at s.site) s))
      (Done (with_site (with_error (mode_error InTable) at s.site) s)) ≡ Again t' s' → weight_of t' s' < 31 + (length (stack s.site) + length (stack s.site))
  closes at t t' s s' plain false e rule = cc
  closes at t t' s s' plain true e rule = let few = pops (stops_in_scope n.tag scope.Table) (is n tag.Table) (stack s.site) e in
      let same : length (after (is n tag.Table) (stack s.site)) ≡ length (stack s'.site) = ap (λ (f : Flow N). count f) rule in
      omega (arith, few, same, weight-most (kind_of n t') s'.control.mode (length (stack s'.site)) plain) where
        count : Flow N → ℕ
        count (Again u v) = length (stack v.site)
        count f = 0

  -- that ends the column group
  goes-up : (at : ℕ) (t t' : Token N) (s s' : State N) → kind_of n t ≡ Start family.Table → s.control.mode ≡ InColumnGroup
      → perform n at t (rule_of InColumnGroup (Start family.Table)) s ≡ Again t' s' → weight_of t' s' < weight_of t s
  goes-up at t t' s s' k m rule = let same : weight_of t (pops_one s) ≡ weight_of t' s' = ap (λ (f : Flow N). rest f) rule in
      let few = drop-shorter (stack s.site) in
      rw (← same, k, m) (omega (arith, few)) where
        pops_one : State N → State N
        pops_one v = record v
            { site = record v.site { open_nodes = record v.site.open_nodes { stack = drop 1 (stack v.site) } }; control = record v.control { mode = InTable } }

        rest : Flow N → ℕ
        rest (Again u v) = weight_of u v
        rest f = 0

  tabular-falls : (at : ℕ) (t t' : Token N) (s s' : State N) → is_texty s'.control.mode ≡ false → is_tabular (kind_of n t) s.control.mode ≡ true
      → Rule n at t s ≡ Again t' s' → weight_of t' s' < weight_of t s
  tabular-falls at t t' s s' plain e rule = go (kind_of n t) s.control.mode refl refl e rule where
    closing : (k : TokenKind) (m : Mode) → kind_of n t ≡ k → s.control.mode ≡ m
        → weight k m (length (stack s.site)) ≡ 31 + (length (stack s.site) + length (stack s.site))
        → perform n at t (in_table (Start family.Table)) s ≡ Again t' s' → weight_of t' s' < weight_of t s
    closing k m e is weighs rule =
        let same : weight_of t s ≡ 31 + (length (stack s.site) + length (stack s.site)) =
        ap (λ (x : TokenKind). weight x s.control.mode (length (stack s.site))) e ∙ ap (λ (x : Mode). weight k x (length (stack s.site))) is ∙ weighs in
        subst (λ (x : ℕ). weight_of t' s' < x) (sym same) (closes at t t' s s' plain _ refl rule)

    go : (k : TokenKind) (m : Mode) → kind_of n t ≡ k → s.control.mode ≡ m → is_tabular k m ≡ true → perform n at t (rule_of m k) s ≡ Again t' s'
        → weight_of t' s' < weight_of t s
    go (Start family.Table) InTable e is _ rule = closing (Start family.Table) InTable e is (tabular-weight (length (stack s.site))) rule
    go (Start family.Table) InTableBody e is _ rule = closing (Start family.Table) InTableBody e is (tabular-weight (length (stack s.site))) rule
    go (Start family.Table) InRow e is _ rule = closing (Start family.Table) InRow e is (tabular-weight (length (stack s.site))) rule
    go (Start family.Table) InColumnGroup e is _ rule = goes-up at t t' s s' e is rule
    go _ _ e is tabular rule = never tabular

  plain-falls : (at : ℕ) (t t' : Token N) (s s' : State N) → is_texty s.control.mode ≡ false → is_texty s'.control.mode ≡ false
      → level (kind_of n t') s'.control.mode < cap (kind_of n t) s.control.mode → Rule n at t s ≡ Again t' s' → weight_of t' s' < weight_of t s
  plain-falls at t t' s s' plain plain' low rule = by_test (is_tabular (kind_of n t) s.control.mode)
      (λ v. level (kind_of n t') s'.control.mode < cond v 40 (level (kind_of n t) s.control.mode) → weight_of t' s' < weight_of t s)
      (λ e _. tabular-falls at t t' s s' plain' e rule) (λ e l. rw e (among (is_tabular (kind_of n t') s'.control.mode) refl l)) low where
        among : (v : Bool) → is_tabular (kind_of n t') s'.control.mode ≡ v → level (kind_of n t') s'.control.mode < level (kind_of n t) s.control.mode
            → 1 + cond v (30 + (length (stack s'.site) + length (stack s'.site)) + extra s'.control.mode) (level (kind_of n t') s'.control.mode)
            < 1 + level (kind_of n t) s.control.mode
        among false e l = omega (arith, l)
        among true e l = let most = leb-true (level (kind_of n t) s.control.mode) 30 (level-plain (kind_of n t) s.control.mode plain) in
            omega (arith, l, most, tabular-level (kind_of n t') s'.control.mode e)

  module _ (tells : n.tag (n.known tag.Img) ≡ tag.Img) where
    -- it falls with every rule that has the token go again
    pub rule-falls : (at : ℕ) (t t' : Token N) (s s' : State N) → Sound s.control → Rule n at t s ≡ Again t' s' → left at t' s' < left at t s
    rule-falls at t t' s s' sound rule = go (is_texty s.control.mode) refl (is_texty s'.control.mode) refl where
      low : level (kind_of n t') s'.control.mode < cap (kind_of n t) s.control.mode
      low = (subst (FlowFalls n tells (cap (kind_of n t) s.control.mode)) rule (rule-down n tells at t s sound)).1

      under : level (kind_of n t') s'.control.mode < 40
      under = omega (arith, low, leb-true (cap (kind_of n t) s.control.mode) 40 (in-each (λ m k. leb (cap k m) 40) refl s.control.mode (kind_of n t)))

      go : (v : Bool) → is_texty s.control.mode ≡ v → (u : Bool) → is_texty s'.control.mode ≡ u
          → cond u (after_text (Rule n at t' s')) (weight_of t' s') < cond v (after_text (Rule n at t s)) (weight_of t s)
      go true e true e' = rw (rule, stays at t' s' e' under) (omega arith)
      go true e false e' = rw rule (omega arith)
      go false e true e' = rw (stays at t' s' e' under) (omega arith)
      go false e false e' = plain-falls at t t' s s' e e' low rule

    some-chain : (most at : ℕ) (t : Token N) (s : State N) → left at t s < most → Sound s.control → (o : Outcome (State N)) × Chain n at t s o
    some-chain zero at t s few sound = absurd (omega (arith, few))
    some-chain (suc most) at t s few sound = go (Rule n at t s) refl (rule-down n tells at t s sound) (some-chain most at) where
      go : (f : Flow N) → Rule n at t s ≡ f → FlowFalls n tells (cap (kind_of n t) s.control.mode) f
          → ((u : Token N) (v : State N) → left at u v < most → Sound v.control → (o : Outcome (State N)) × Chain n at u v o)
          → (o : Outcome (State N)) × Chain n at t s o
      go (Done u) rule h more = (Goes (finished at t u), ends rule)
      go (Refused r) rule h more = (site.Refused r, refuses rule)
      go (Again u v) rule h more = let falls = rule-falls at t u s v sound rule in let rest = more u v (omega (arith, falls, few)) h.0 in
          (rest.0, goes_again rule rest.1)

    -- so a token has a result
    pub some-step : (at : ℕ) (t : Token N) (s : State N) → Sound s.control → (o : Outcome (State N)) × Step n at t s o
    some-step at t s sound = by_test (is_dropped t s) (λ v. (o : Outcome (State N)) × Step n at t s o) (λ e. (Goes (step_begun s), drops e)) (λ e.
        let c = some-chain (left at t (step_begun s) + 1) at t (step_begun s) (omega arith) sound in (c.0, goes e c.1))
