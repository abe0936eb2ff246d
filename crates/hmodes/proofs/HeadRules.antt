-- Every rule keeps what its mode knows of the head.
use Rattle.hmodes.proofs.Vocabulary.{cond_both, Outcome, Forest, by_test, Mode, InTableText, kind_of, rule_of, Rule, ◌≡◌, ◌≢◌, ℕ, ◌<◌, Bool, true, false, leb, List, [], ◌∷◌, Option, Some, None, refl, sym, ◌∙◌, ap, subst, arith, drop, length, ◌&&◌, eq-eqb, ne_eqb, Attribute, element, LastIn, OpenNode, Refusal, TooDeep, Naming, SiteOf, stack, trees, with_stack, with_error, from_top, open_node, place, inserted, Each, Pairs, TellsTables, deep, deep-there, OnGoes, Well, erred, inserted-well, place-fits, BeforeHead, InHead, InHeadNoscript, AfterHead, InBody, Text, TokenKind, Ws, Start, End, Do, ◌▸◌, nothing, again, error, to, save_mode, to_saved, head_pointer, insert, insert_comment, put, pop, push_head, remove_head, add_missing_to_first, Token, State, Flow, Done, Again, Refused, flow_then, token_name, token_attrs, token_text, token_char, void, raw, html_again, mode_error, before_head, head_unwritten, in_head, head_ends, in_head_noscript, noscript_ends, after_head, body_unwritten, late, text, perform, with_site, flow_of, current_node, head_pushed, removed}
use Rattle.hnodes.specs.Forest as forest
use Rattle.names.specs.declared.tag.Tag.TheVariants as tag
use Rattle.hadopt.specs.Site as site
use Rattle.hmodes.specs.declared.family.Family.TheVariants as family
use Rattle.hmodes.proofs.Every.{never, both, by_outcome}
use Rattle.hmodes.proofs.Stands.{tame, perform-well}
use Rattle.hmodes.proofs.Heads.{Steady, steady-same, steady-then, added-steady, Deeper, inserted-steady, put-steady, missing-steady}
use Rattle.hmodes.proofs.Facts.{is_early, is_texty, Late, is_late_rule, late-rule, perform-late}
use Rattle.hmodes.proofs.Programs.{comes-less}
use Rattle.hmodes.proofs.HeadFacts.{late-facts, IsAt, OutOf, Knows, Facts, HeadFacts, FlowFacts, knows-steady, out-steady, FlowQuiet, quiet-flow, on-quiet, quiet-then}

-- what leaves modes, head pointer and open nodes as they are
abbrev quiet : Do → Bool
quiet (p ▸ q) = quiet p && quiet q
quiet nothing = true
quiet put = true
quiet (error m) = true
quiet insert_comment = true
quiet add_missing_to_first = true
quiet _ = false

quiet-tame : (p : Do) → quiet p ≡ true → tame false p ≡ true
quiet-tame (p ▸ q) e = let parts = both (quiet p) (quiet q) e in rw (quiet-tame p parts.0, quiet-tame q parts.1) refl
quiet-tame nothing e = refl
quiet-tame _ e = cc

-- what holds of the programs of a mode's rules holds of each rule
module _ (P : Do → Type 0) where
  in-head-cases : P put → P insert_comment → P (error InHead) → P html_again → P void → P raw → P (insert ▸ to InHeadNoscript) → P (pop ▸ to AfterHead)
      → P head_ends → (k : TokenKind) → P (in_head k)
  in-head-cases p c e h v r noscript close end Ws = p
  in-head-cases p c e h v r noscript close end (Start family.Html) = h
  in-head-cases p c e h v r noscript close end (End family.Head) = close
  in-head-cases p c e h v r noscript close end _ = assumption

  noscript-cases : P put → P insert_comment → P (error InHeadNoscript) → P html_again → P void → P raw → P (pop ▸ to InHead) → P noscript_ends → (k : TokenKind)
      → P (in_head_noscript k)
  noscript-cases p c e h v r close end Ws = p
  noscript-cases p c e h v r close end (Start family.Html) = h
  noscript-cases p c e h v r close end (End family.Noscript) = close
  noscript-cases p c e h v r close end _ = assumption

  text-cases : P put → P (error Text) → P (error Text ▸ pop ▸ to_saved ▸ again) → P (pop ▸ to_saved) → (k : TokenKind) → P (text k)
  text-cases p e unended end Ws = p
  text-cases p e unended end _ = assumption

  after-head-cases : P put → P insert_comment → P (error AfterHead) → P html_again → P (insert ▸ to InBody) → P (late void) → P (late raw) → P body_unwritten
      → (k : TokenKind) → P (after_head k)
  after-head-cases p c e h body v r unwritten Ws = p
  after-head-cases p c e h body v r unwritten (Start family.Html) = h
  after-head-cases p c e h body v r unwritten (End family.Body) = unwritten
  after-head-cases p c e h body v r unwritten _ = assumption

  before-head-cases : P nothing → P insert_comment → P (error BeforeHead) → P html_again → P (insert ▸ head_pointer ▸ to InHead) → P head_unwritten
      → (k : TokenKind) → P (before_head k)
  before-head-cases none c e h head unwritten Ws = none
  before-head-cases none c e h head unwritten (Start family.Html) = h
  before-head-cases none c e h head unwritten (End family.Head) = unwritten
  before-head-cases none c e h head unwritten _ = assumption

module _ {N : Type 0} (n : Naming N) (tells : TellsTables n) (at : ℕ) (t : Token N) where
  perform-quiet : (p : Do) → quiet p ≡ true → (s : State N) → Well n s.site → FlowQuiet n s (perform n at t p s)
  perform-quiet (p ▸ q) e s w = let parts = both (quiet p) (quiet q) e in
      quiet-then n s (perform n at t p s) (perform n at t q) (perform-quiet p parts.0 s w)
      (perform-well n tells false p (quiet-tame p parts.0) at t (λ e. cc) s w) (λ u k. perform-quiet q parts.1 u k)
  perform-quiet nothing e s w = record { mode = refl; saved = refl; head = refl; open_now = refl; steady = steady-same n s.site s.site refl }
  perform-quiet put e s w = on-quiet n s _ (put-steady n at (token_char t) (place n s.site) s.site w)
  perform-quiet (error m) e s w = record
      { mode = refl; saved = refl; head = refl; open_now = refl; steady = steady-same n s.site (with_error (mode_error m) at s.site) refl }
  perform-quiet insert_comment e s w = on-quiet n s _ (added-steady n (forest.comment (token_text t)) (LastIn (current_node s.site)) s.site w at)
  perform-quiet add_missing_to_first e s w = let k = missing-steady n (open_node (from_top 0 s.site)) (token_attrs t) s.site in
      record { mode = refl; saved = refl; head = refl; open_now = refl; steady = k }
  perform-quiet _ e s w = never e

  after-insert : (P : Flow N → Type 0) (name : N) (attrs : List (Attribute N)) (s : State N) → Well n s.site → (g : State N → Flow N)
      → ((r : Refusal) → P (Refused r)) → ((x : SiteOf N) → Well n x → Deeper n s.site x → P (g (with_site x s)))
      → P (flow_then (flow_of s (inserted at name attrs (place n s.site) s.site)) g)
  after-insert P name attrs s w g none k =
      by_outcome (inserted at name attrs (place n s.site) s.site) (λ o. OnGoes (Well n) o → OnGoes (Deeper n s.site) o → P (flow_then (flow_of s o) g))
      (λ x _ a d. k x a d) (λ r _ a d. none r) (inserted-well n at name attrs (place n s.site) s.site w (place-fits n (element name attrs) s.site w))
      (inserted-steady n at name attrs (place n s.site) s.site w)

  void-quiet : (s : State N) → Well n s.site → FlowQuiet n s (perform n at t void s)
  void-quiet s w = after-insert (FlowQuiet n s) (token_name n t) (token_attrs t) s w _ (λ r. tt) (λ x a d.
      record { mode = refl; saved = refl; head = refl; open_now = ap (drop 1) d.1.1; steady = record { out = d.0.out; stays = d.0.stays } })

  after-facts : (name : N) (attrs : List (Attribute N)) (s : State N) → Well n s.site → (g : State N → Flow N)
      → ((x : SiteOf N) → Well n x → Deeper n s.site x → FlowFacts (g (with_site x s)))
      → FlowFacts (flow_then (flow_of s (inserted at name attrs (place n s.site) s.site)) g)
  after-facts name attrs s w g = after-insert FlowFacts name attrs s w g (λ r. tt)

  raw-facts : (s : State N) → Well n s.site → Knows s.control.mode s.control.head (stack s.site) (trees s.site) → FlowFacts (perform n at t raw s)
  raw-facts s w o =
      after-facts (token_name n t) (token_attrs t) s w _ (λ x a d. rw d.1.1 (knows-steady n s.control.mode s.control.head (stack s.site) s.site x w.each d.0 o))

  pop-out : (hp : Option ℕ) (s : SiteOf N) → Well n s → IsAt hp (stack s) → OutOf hp (drop 1 (stack s)) (trees s)
  pop-out hp s w o = go (stack s) w.each w.order o where
    go : (open_now : List (OpenNode N)) → Each (λ x. (0 < deep x.node 0 (trees s)) × (0 < x.node)) open_now
        → Pairs (λ x y. deep y.node x.node (trees s) ≡ 0) open_now → IsAt hp open_now → OutOf hp (drop 1 open_now) (trees s)
    go [] e r i = absurd i
    go (x ∷ up) e r i = λ h j.
        let same : x.node ≡ h = cc in subst (λ (k : ℕ). ((0 < deep k 0 (trees s)) × (0 < k)) × Each (λ y. deep y.node k (trees s) ≡ 0) up) same (e.0, r.0)

  by-quiet : (p : Do) → quiet p ≡ true → (s : State N) → Well n s.site → HeadFacts s → FlowFacts (perform n at t p s)
  by-quiet p e s w f = quiet-flow n s (perform n at t p s) w (perform-quiet p e s w) f

  -- by the rules of the head
  pub in-head-rule : (k : TokenKind) (s : State N) → s.control.mode ≡ InHead → Well n s.site → IsAt s.control.head (stack s.site) → HeadFacts s
      → FlowFacts (perform n at t (in_head k) s)
  in-head-rule k s is w o f = let q : (p : Do) → quiet p ≡ true → FlowFacts (perform n at t p s) = λ p e. by-quiet p e s w f in
      in-head-cases (λ p. FlowFacts (perform n at t p s)) (q put refl) (q insert_comment refl) (q (error InHead) refl) (q html_again refl)
      (quiet-flow n s (perform n at t void s) w (void-quiet s w) f) (raw-facts s w (rw is o))
      (after-facts (token_name n t) (token_attrs t) s w _ (λ x a d. rw d.1.1 o)) (pop-out s.control.head s.site w o) (pop-out s.control.head s.site w o) k

  pub noscript-rule : (k : TokenKind) (s : State N) → s.control.mode ≡ InHeadNoscript → Well n s.site → IsAt s.control.head (drop 1 (stack s.site))
      → HeadFacts s → FlowFacts (perform n at t (in_head_noscript k) s)
  noscript-rule k s is w o f = let q : (p : Do) → quiet p ≡ true → FlowFacts (perform n at t p s) = λ p e. by-quiet p e s w f in
      noscript-cases (λ p. FlowFacts (perform n at t p s)) (q put refl) (q insert_comment refl) (q (error InHeadNoscript) refl) (q html_again refl)
      (quiet-flow n s (perform n at t void s) w (void-quiet s w) f) (raw-facts s w (rw is o)) o o k

  -- the head, where it is set, on top of the open nodes
  abbrev with_head : Option ℕ → List (OpenNode N) → List (OpenNode N)
  with_head None open_now = open_now
  with_head (Some h) open_now = record { node = h; name = n.known tag.Head } ∷ open_now

  removed-head : (o : Option ℕ) (open_now : List (OpenNode N)) (x : SiteOf N) → stack x ≡ with_head o open_now → stack (removed o x) ≡ open_now
  removed-head None open_now x e = e
  removed-head (Some h) open_now x e = rw (e, eq-eqb h h refl) refl

  removed-below : (o : Option ℕ) (y : OpenNode N) (open_now : List (OpenNode N)) (x : SiteOf N) → ((h : ℕ) → o ≡ Some h → y.node ≢ h)
      → stack x ≡ y ∷ with_head o open_now → stack (removed o x) ≡ y ∷ open_now
  removed-below None y open_now x d e = e
  removed-below (Some h) y open_now x d e = rw (e, ne_eqb y.node h (d h refl), eq-eqb h h refl) refl

  removed-trees : (o : Option ℕ) (x : SiteOf N) → trees (removed o x) ≡ trees x
  removed-trees None x = refl
  removed-trees (Some h) x = refl

  module _ (s : State N) (is : s.control.mode ≡ AfterHead) (w : Well n s.site) (o : OutOf s.control.head (stack s.site) (trees s.site)) where
    -- after the head is pushed
    after-push : (P : Flow N → Type 0) (g : State N → Flow N) → ((r : Refusal) → P (Refused r))
        → ((x : SiteOf N) → Well n x → trees x ≡ trees s.site → stack x ≡ with_head s.control.head (stack s.site) → P (g (with_site x s)))
        → P (flow_then (perform n at t push_head (with_site (with_error (mode_error AfterHead) at s.site) s)) g)
    after-push P g none k = go s.control.head refl where
      go : (hp : Option ℕ) → s.control.head ≡ hp → P (flow_then
          (flow_of (with_site (with_error (mode_error AfterHead) at s.site) s) (head_pushed n at hp (with_error (mode_error AfterHead) at s.site))) g)
      go None e = k (with_error (mode_error AfterHead) at s.site) (erred n s.site (mode_error AfterHead) at w) refl (rw e refl)
      go (Some h) e = let q = o h e in cond_both (leb s.site.open_nodes.limit (length (stack s.site))) _ _
          (λ (z : Outcome (SiteOf N)). P (flow_then (flow_of (with_site (with_error (mode_error AfterHead) at s.site) s) z) g)) (λ _. none (TooDeep at))
          (λ _. k (with_stack (record { node = h; name = n.known tag.Head } ∷ stack s.site) (with_error (mode_error AfterHead) at s.site))
          (record { counted = w.counted; each = (q.0, w.each); order = (q.1, w.order); plain = w.plain }) refl (rw e refl))

    steady-after : (x y : SiteOf N) → trees x ≡ trees s.site → Steady n x y → Steady n s.site y
    steady-after x y e k = steady-then n s.site x y (steady-same n s.site x (sym e)) k

    late-void : FlowFacts (perform n at t (late void) s)
    late-void = after-push FlowFacts (perform n at t (void ▸ remove_head)) (λ r. tt)
        (λ x a e i. go x e i (perform n at t void (with_site x s)) (void-quiet (with_site x s) a)) where
          go : (x : SiteOf N) → trees x ≡ trees s.site → stack x ≡ with_head s.control.head (stack s.site) → (f : Flow N) → FlowQuiet n (with_site x s) f
              → FlowFacts (flow_then f (perform n at t remove_head))
          go x e i (Done u) q = rw (q.mode, is, q.head, removed-trees s.control.head u.site, removed-head s.control.head (stack s.site) u.site (q.open_now ∙ i))
              (out-steady n s.control.head (stack s.site) s.site u.site w.each (steady-after x u.site e q.steady) o)
          go x e i (Again t' u) q = absurd q
          go x e i (Refused r) q = tt

    late-raw : FlowFacts (perform n at t (late raw) s)
    late-raw =
        after-push FlowFacts (perform n at t (raw ▸ remove_head)) (λ r. tt) (λ x a e i. after-insert (λ f. FlowFacts (flow_then f (perform n at t remove_head)))
        (token_name n t) (token_attrs t) (with_site x s) a (perform n at t (save_mode ▸ to Text)) (λ r. tt) (λ y b d.
        rw (is, removed-trees s.control.head y, removed-below s.control.head d.1.0 (stack s.site) y (fresh x a e d.1.0 d.1.2) (d.1.1 ∙ ap (λ l. d.1.0 ∷ l) i))
        (out-steady n s.control.head (stack s.site) s.site y w.each (steady-after x y e d.0) o))) where
          fresh : (x : SiteOf N) → Well n x → trees x ≡ trees s.site → (y : OpenNode N) → y.node ≡ x.nodes.made → (h : ℕ) → s.control.head ≡ Some h → y.node ≢ h
          fresh x a e y c h j k = let there : 0 < deep h 0 (trees x) = rw e (o h j).0.0 in
              omega (arith, (deep-there x.nodes.made (trees x) a.counted h 0 there).0)

    pub after-head-rule : (k : TokenKind) → HeadFacts s → FlowFacts (perform n at t (after_head k) s)
    after-head-rule k f = let q : (p : Do) → quiet p ≡ true → FlowFacts (perform n at t p s) = λ p e. by-quiet p e s w f in
        after-head-cases (λ p. FlowFacts (perform n at t p s)) (q put refl) (q insert_comment refl) (q (error AfterHead) refl) (q html_again refl)
        (after-facts (token_name n t) (token_attrs t) s w _ (λ x a d. tt)) late-void late-raw (after-facts (n.known tag.Body) [] s w _ (λ x a d. tt)) k

  pub before-head-rule : (k : TokenKind) (s : State N) → Well n s.site → HeadFacts s → FlowFacts (perform n at t (before_head k) s)
  before-head-rule k s w f = let q : (p : Do) → quiet p ≡ true → FlowFacts (perform n at t p s) = λ p e. by-quiet p e s w f in
      before-head-cases (λ p. FlowFacts (perform n at t p s)) (q nothing refl) (q insert_comment refl) (q (error BeforeHead) refl) (q html_again refl)
      (after-facts (token_name n t) (token_attrs t) s w _ (λ x a d. rw d.1.1 refl)) (after-facts (n.known tag.Head) [] s w _ (λ x a d. rw d.1.1 refl)) k

-- by the rules of any mode
module _ {N : Type 0} where
  early-facts : (m : Mode) (hp : Option ℕ) (open_now : List (OpenNode N)) (f : Forest N) → is_early m ≡ true → Knows m hp open_now f → Facts m m hp open_now f
  early-facts InHead hp open_now f e k = k
  early-facts _ hp open_now f e k = first_of (cc, assumption)

module _ {N : Type 0} (n : Naming N) (tells : TellsTables n) where
  module _ (at : ℕ) (t : Token N) (s : State N) (w : Well n s.site) (f : HeadFacts s) where
    by-late : (m : Mode) → is_late_rule m (kind_of n t) ≡ true → s.control.mode ≡ m → (is_texty m ≡ true → is_early s.control.saved ≡ false)
        → FlowFacts (perform n at t (rule_of m (kind_of n t)) s)
    by-late m e is saved = comes-less (λ u. Late u.control) HeadFacts (λ u v. Late v.control) (λ u. HeadFacts) (λ r. Unit {0}) late-facts (λ u. late-facts)
        (perform n at t (rule_of m (kind_of n t)) s) (perform-late n m (kind_of n t) e at t s is saved)

    pub rule-facts : FlowFacts (Rule n at t s)
    rule-facts = by-mode s.control.mode refl f where
      by-mode : (m : Mode) → s.control.mode ≡ m → Facts m s.control.saved s.control.head (stack s.site) (trees s.site)
          → FlowFacts (perform n at t (rule_of m (kind_of n t)) s)
      by-mode BeforeHead is g = before-head-rule n tells at t (kind_of n t) s w f
      by-mode InHead is g = in-head-rule n tells at t (kind_of n t) s is w g f
      by-mode InHeadNoscript is g = noscript-rule n tells at t (kind_of n t) s is w g f
      by-mode AfterHead is g = after-head-rule n tells at t s is w g (kind_of n t) f
      by-mode Text is g = by_test (is_early s.control.saved) (λ v. FlowFacts (perform n at t (text (kind_of n t)) s))
          (λ e. let o = early-facts s.control.saved s.control.head (drop 1 (stack s.site)) (trees s.site) e g in
          text-cases (λ p. FlowFacts (perform n at t p s)) (by-quiet n tells at t put refl s w f) (by-quiet n tells at t (error Text) refl s w f) o o
          (kind_of n t)) (λ e. by-late Text (late-rule Text (kind_of n t)) is (λ i. e))
      by-mode InTableText is g = by-late InTableText (late-rule InTableText (kind_of n t)) is (λ i. g)
      by-mode m is g = by-late m (late-rule m (kind_of n t)) is (λ i. never i)
