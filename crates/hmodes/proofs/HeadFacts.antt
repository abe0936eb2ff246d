-- What holds of the head pointer in each mode, and that every rule keeps it.
use Rattle.hmodes.proofs.Vocabulary.{rules, ◌≡◌, ℕ, ◌<◌, true, false, List, [], ◌∷◌, Option, Some, refl, ◌∙◌, drop, Forest, OpenNode, Naming, Outcome, Goes, SiteOf, stack, trees, Each, deep, OnGoes, Well, among-drop, Mode, InHead, InHeadNoscript, AfterHead, Text, InTableText, State, Flow, Done, Again, Refused, flow_then, flow_of, each-both, each-among}
use Rattle.hadopt.specs.Site as site
use Rattle.hmodes.proofs.Stands.{FlowWell}
use Rattle.hmodes.proofs.Facts.{is_early, is_texty, Late}
use Rattle.hmodes.proofs.Programs.{Comes}
use Rattle.hmodes.proofs.Heads.{Steady, steady-then}

module _ {N : Type 0} where
  -- the current node is the head
  abbrev pub IsAt : Option ℕ → List (OpenNode N) → Type 0
  IsAt hp [] = ⊥
  IsAt hp (x ∷ up) = hp ≡ Some x.node

  -- the head is in the document's tree, and no open node is inside it
  abbrev pub OutOf : Option ℕ → List (OpenNode N) → Forest N → Type 0
  OutOf hp open_now f = (h : ℕ) → hp ≡ Some h → ((0 < deep h 0 f) × (0 < h)) × Each (λ x. deep x.node h f ≡ 0) open_now

  abbrev pub Knows : Mode → Option ℕ → List (OpenNode N) → Forest N → Type 0
  Knows InHead hp open_now f = IsAt hp open_now
  Knows InHeadNoscript hp open_now f = IsAt hp (drop 1 open_now)
  Knows AfterHead hp open_now f = OutOf hp open_now f
  Knows _ hp open_now f = Unit {0}

  -- and in text what holds when its element is popped
  abbrev pub Facts : (mode saved : Mode) → Option ℕ → List (OpenNode N) → Forest N → Type 0
  Facts Text saved hp open_now f = Knows saved hp (drop 1 open_now) f
  Facts InTableText saved hp open_now f = is_early saved ≡ false
  Facts m saved hp open_now f = Knows m hp open_now f

  abbrev pub HeadFacts : State N → Type 0
  HeadFacts s = Facts s.control.mode s.control.saved s.control.head (stack s.site) (trees s.site)

  abbrev pub FlowFacts : Flow N → Type 0
  FlowFacts = Comes HeadFacts (λ t. HeadFacts) (λ r. Unit {0})

  pub late-knows : (m : Mode) (hp : Option ℕ) (open_now : List (OpenNode N)) (f : Forest N) → is_early m ≡ false → Knows m hp open_now f
  late-knows InHead hp open_now f e = cc
  late-knows _ hp open_now f e = first_of (cc, search rules)

  pub late-facts : (s : State N) → Late s.control → HeadFacts s
  late-facts s l = go s.control.mode s.control.saved l.mode l.sound where
    go : (m v : Mode) → is_early m ≡ false → (is_texty m ≡ true → is_early v ≡ false) → Facts m v s.control.head (stack s.site) (trees s.site)
    go Text v e k = late-knows v s.control.head (drop 1 (stack s.site)) (trees s.site) (k refl)
    go InTableText v e k = k refl
    go m v e k = late-knows m s.control.head (stack s.site) (trees s.site) e

module _ {N : Type 0} (n : Naming N) where
  abbrev InTree : SiteOf N → List (OpenNode N) → Type 0
  InTree s open_now = Each (λ x. (0 < deep x.node 0 (trees s)) × (0 < x.node)) open_now

  pub out-steady : (hp : Option ℕ) (open_now : List (OpenNode N)) (s t : SiteOf N) → InTree s open_now → Steady n s t → OutOf hp open_now (trees s)
      → OutOf hp open_now (trees t)
  out-steady hp open_now s t e k o = λ h i. let p = o h i in ((k.stays h p.0.0, p.0.1), each-both _ _ _ (λ x a b. k.out x.node h a.0 p.0.0 b) open_now e p.1)

  pub knows-steady : (m : Mode) (hp : Option ℕ) (open_now : List (OpenNode N)) (s t : SiteOf N) → InTree s open_now → Steady n s t
      → Knows m hp open_now (trees s) → Knows m hp open_now (trees t)
  knows-steady AfterHead hp open_now s t e k o = out-steady hp open_now s t e k o
  knows-steady _ hp open_now s t e k o = assumption

  facts-steady : (m v : Mode) (hp : Option ℕ) (s t : SiteOf N) → Well n s → Steady n s t → Facts m v hp (stack s) (trees s) → Facts m v hp (stack s) (trees t)
  facts-steady Text v hp s t w k o = knows-steady v hp (drop 1 (stack s)) s t (each-among _ (drop 1 (stack s)) (stack s) (among-drop (stack s)) w.each) k o
  facts-steady InTableText v hp s t w k o = o
  facts-steady m v hp s t w k o = knows-steady m hp (stack s) s t w.each k o

  -- a step that leaves modes, head pointer and open nodes as they were
  pub record Quiet (s u : State N) : Type 0 where
    pub mode : u.control.mode ≡ s.control.mode
    pub saved : u.control.saved ≡ s.control.saved
    pub head : u.control.head ≡ s.control.head
    pub open_now : stack u.site ≡ stack s.site
    pub steady : Steady n s.site u.site

  abbrev pub FlowQuiet : State N → Flow N → Type 0
  FlowQuiet s (Done u) = Quiet s u
  FlowQuiet s (Again t u) = ⊥
  FlowQuiet s (Refused r) = Unit {0}

  pub quiet-facts : (s u : State N) → Well n s.site → Quiet s u → HeadFacts s → HeadFacts u
  quiet-facts s u w q o = rw (q.mode, q.saved, q.head, q.open_now) (facts-steady s.control.mode s.control.saved s.control.head s.site u.site w q.steady o)

  pub quiet-flow : (s : State N) (f : Flow N) → Well n s.site → FlowQuiet s f → HeadFacts s → FlowFacts f
  quiet-flow s (Done u) w q o = quiet-facts s u w q o
  quiet-flow s (Again t u) w q o = absurd q
  quiet-flow s (Refused r) w q o = tt

  pub on-quiet : (s : State N) (o : Outcome (SiteOf N)) → OnGoes (λ t. Steady n s.site t × (stack t ≡ stack s.site)) o → FlowQuiet s (flow_of s o)
  on-quiet s (Goes x) h = record { mode = refl; saved = refl; head = refl; open_now = h.1; steady = h.0 }
  on-quiet s (site.Refused r) h = tt

  pub quiet-then : (s : State N) (f : Flow N) (g : State N → Flow N) → FlowQuiet s f → FlowWell n f → ((u : State N) → Well n u.site → FlowQuiet u (g u))
      → FlowQuiet s (flow_then f g)
  quiet-then s (Done u) g h w k = go (g u) (k u w) where
    go : (f : Flow N) → FlowQuiet u f → FlowQuiet s f
    go (Done v) q = let steady = steady-then n s.site u.site v.site h.steady q.steady in
        record { mode = q.mode ∙ h.mode; saved = q.saved ∙ h.saved; head = q.head ∙ h.head; open_now = q.open_now ∙ h.open_now; steady = steady }
    go (Again t v) q = q
    go (Refused r) q = tt
  quiet-then s (Again t u) g h w k = h
  quiet-then s (Refused r) g h w k = tt
