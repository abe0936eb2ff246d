-- What a program does with the mode and the saved one: one induction over programs.
use Rattle.hmodes.proofs.Vocabulary.{ap, if◌then◌else◌, cond_both, ◌≡◌, ℕ, Bool, true, false, not, cond, [], refl, sym, ◌∙◌, ◌&&◌, ◌||◌, Option, List, OpenNode, Tag, Naming, Outcome, Goes, SiteOf, stack, Mode, Do, ◌▸◌, when, unless, choose, fostered, each_pending, again, again_as, to, save_mode, to_saved, reset, Token, character, Control, State, Flow, Done, renamed, reset_mode, answer_of, perform, with_foster, with_control, flow_of}
use Rattle.hadopt.specs.Site as site
use Rattle.hmodes.proofs.Every.{never, both, other}
use Rattle.hmodes.proofs.Programs.{Comes, comes-less, comes-then, comes-map, comes-each}

-- what is known of a mode: which one it is, or that it is not of a class
pub data Known : Type 0 where
  At : Mode → Known
  Plain : Known
  Any : Known

-- whether a program leaves the saved mode plain, where it was or was not
abbrev pub leaves : Bool → Do → Bool
leaves b (p ▸ q) = leaves (leaves b p) q
leaves b save_mode = true
leaves b _ = b

leaves-true : (p : Do) → leaves true p ≡ true
leaves-true (p ▸ q) = rw (leaves-true p) (leaves-true q)
leaves-true save_mode = refl
leaves-true p = refl

wider : (b : Bool) (p : Do) → b ≡ true → leaves b p ≡ true
wider b p e = rw e (leaves-true p)

pub not-true : (v : Bool) → not v ≡ true → v ≡ false
not-true true e = cc
not-true false e = refl

-- modes of a class, and those behind which no mode of the class is saved
module _ (in_class hides_none : Mode → Bool) where
  abbrev pub is_plain : Known → Bool
  is_plain (At m) = not (in_class m)
  is_plain Plain = true
  is_plain Any = false

  -- where one or the other is known
  abbrev met : Known → Known → Known
  met w v = if is_plain w && is_plain v then Plain else Any

  abbrev pub mode_after : Known → Do → Known
  mode_after w (p ▸ q) = mode_after (mode_after w p) q
  mode_after w (when question p) = met w (mode_after w p)
  mode_after w (unless question p) = met w (mode_after w p)
  mode_after w (choose question p q) = met (mode_after w p) (mode_after w q)
  mode_after w (fostered p) = mode_after w p
  mode_after w (each_pending p) = Any
  mode_after w (to m) = At m
  mode_after w to_saved = Plain
  mode_after w reset = Plain
  mode_after w _ = w

  -- whether a program has the token go again only where it may, and keeps that what is saved is plain behind those modes
  abbrev pub keeps : (may_go : Known → Do → Bool) → Known → Bool → Do → Bool
  keeps may_go w b (p ▸ q) = keeps may_go w b p && keeps may_go (mode_after w p) (leaves b p) q
  keeps may_go w b (when question p) = keeps may_go w b p
  keeps may_go w b (unless question p) = keeps may_go w b p
  keeps may_go w b (choose question p q) = keeps may_go w b p && keeps may_go w b q
  keeps may_go w b (fostered p) = keeps may_go w b p
  keeps may_go w b (each_pending p) = keeps (λ v q. false) Any b p
  keeps may_go w b again = may_go w again
  keeps may_go w b (again_as x) = may_go w (again_as x)
  keeps may_go w b (to m) = not (hides_none m) || b
  keeps may_go w b save_mode = is_plain w
  keeps may_go w b to_saved = b
  keeps may_go w b _ = true

  -- what is known is so
  abbrev pub IsKnown : Known → Mode → Type 0
  IsKnown (At m) c = c ≡ m
  IsKnown Plain c = in_class c ≡ false
  IsKnown Any c = Unit {0}

  pub is-plain : (w : Known) (m : Mode) → is_plain w ≡ true → IsKnown w m → in_class m ≡ false
  is-plain (At x) m e h = rw h (not-true (in_class x) e)
  is-plain Plain m e h = h
  is-plain Any m e h = cc

  met-known : (w v : Known) (m : Mode) → (is_plain w ≡ true → is_plain v ≡ true → in_class m ≡ false) → IsKnown (met w v) m
  met-known w v m h = go (is_plain w) (is_plain v) h where
    go : (x y : Bool) → (x ≡ true → y ≡ true → in_class m ≡ false) → IsKnown (cond (x && y) Plain Any) m
    go true true k = k refl refl
    go true false k = tt
    go false y k = tt

  met-left : (w v : Known) (m : Mode) → IsKnown w m → IsKnown (met w v) m
  met-left w v m h = met-known w v m (λ e _. is-plain w m e h)

  met-right : (w v : Known) (m : Mode) → IsKnown v m → IsKnown (met w v) m
  met-right w v m h = met-known w v m (λ _ e. is-plain v m e h)

  pub record Holds (w : Known) (b : Bool) (c : Control) : Type 0 where
    pub mode : IsKnown w c.mode
    pub saved : b ≡ true → in_class c.saved ≡ false
    pub sound : hides_none c.mode ≡ true → in_class c.saved ≡ false

  less : (w v : Known) (b x : Bool) (c : Control) → (IsKnown v c.mode → IsKnown w c.mode) → (b ≡ true → x ≡ true) → Holds v x c → Holds w b c
  less w v b x c f g h = record { mode = f h.mode; saved = λ e. h.saved (g e); sound = h.sound }

  module _ {N : Type 0} (n : Naming N)
      (found : (c : Option N) (st : List (OpenNode N)) → (in_class (reset_mode n c st) ≡ false) × (hides_none (reset_mode n c st) ≡ false)) where
    -- what holds of a token, and of where it may go again
    pub record MayGo (may_go : Known → Do → Bool) (T : Token N → Type 0) (A : Token N → State N → Type 0) : Type 0 where
      pub same : (w : Known) (b : Bool) (t : Token N) (s : State N) → may_go w again ≡ true → T t → Holds w b s.control → A t s
      pub other : (w : Known) (b : Bool) (x : Tag) (t : Token N) (s : State N) → may_go w (again_as x) ≡ true → T t → Holds w b s.control
          → A (renamed (n.known x) t) s
      pub flagged : (t : Token N) (s : State N) → A t s → A t (with_foster false s)

    pub none-goes : MayGo (λ v q. false) (λ t. Unit {0}) (λ t s. ⊥)
    none-goes = record { same = λ w b t s e. never e; other = λ w b x t s e. never e; flagged = λ t s a. a }

    abbrev pub FlowHolds : (Token N → State N → Type 0) → Known → Bool → Flow N → Type 0
    FlowHolds A w b = Comes (λ s. Holds w b s.control) A (λ r. Unit {0})

    on-site : (A : Token N → State N → Type 0) (w : Known) (b : Bool) (s : State N) (o : Outcome (SiteOf N)) → Holds w b s.control
        → FlowHolds A w b (flow_of s o)
    on-site A w b s (Goes x) h = h
    on-site A w b s (site.Refused r) h = tt

    flow-less : (A : Token N → State N → Type 0) (w v : Known) (b : Bool) (p : Do) (f : Flow N) → ((m : Mode) → IsKnown v m → IsKnown w m)
        → FlowHolds A v (leaves b p) f → FlowHolds A w b f
    flow-less A w v b p f g = comes-less (λ s. Holds v (leaves b p) s.control) (λ s. Holds w b s.control) A A (λ r. Unit {0})
        (λ s. less w v b (leaves b p) s.control (g s.control.mode) (wider b p)) (λ t s a. a) f

    pub perform-keeps : (may_go : Known → Do → Bool) (T : Token N → Type 0) (A : Token N → State N → Type 0) → MayGo may_go T A
        → (w : Known) (b : Bool) (p : Do) → keeps may_go w b p ≡ true → (at : ℕ) (t : Token N) → T t → (s : State N) → Holds w b s.control
        → FlowHolds A (mode_after w p) (leaves b p) (perform n at t p s)
    perform-keeps may_go T A goes w b (p ▸ q) e at t o s h = let parts = both (keeps may_go w b p) (keeps may_go (mode_after w p) (leaves b p) q) e in
        comes-then (λ u. Holds (mode_after w p) (leaves b p) u.control) (λ u. Holds (mode_after (mode_after w p) q) (leaves (leaves b p) q) u.control) A
        (λ r. Unit {0}) (perform n at t p s) (perform n at t q) (perform-keeps may_go T A goes w b p parts.0 at t o s h)
        (perform-keeps may_go T A goes (mode_after w p) (leaves b p) q parts.1 at t o)
    perform-keeps may_go T A goes w b (when question p) e at t o s h = let v = mode_after w p in
        cond_both (answer_of n t question s) (perform n at t p s) (Done s) (FlowHolds A (met w v) b)
        (λ _. flow-less A (met w v) v b p (perform n at t p s) (met-right w v) (perform-keeps may_go T A goes w b p e at t o s h))
        (λ _. less (met w v) w b b s.control (met-left w v s.control.mode) (λ i. i) h)
    perform-keeps may_go T A goes w b (unless question p) e at t o s h = let v = mode_after w p in
        cond_both (answer_of n t question s) (Done s) (perform n at t p s) (FlowHolds A (met w v) b)
        (λ _. less (met w v) w b b s.control (met-left w v s.control.mode) (λ i. i) h)
        (λ _. flow-less A (met w v) v b p (perform n at t p s) (met-right w v) (perform-keeps may_go T A goes w b p e at t o s h))
    perform-keeps may_go T A goes w b (choose question p q) e at t o s h = let parts = both (keeps may_go w b p) (keeps may_go w b q) e in
        let v = met (mode_after w p) (mode_after w q) in
        cond_both (answer_of n t question s) (perform n at t p s) (perform n at t q s) (FlowHolds A v b) (λ _. flow-less A v (mode_after w p) b p
        (perform n at t p s) (met-left (mode_after w p) (mode_after w q)) (perform-keeps may_go T A goes w b p parts.0 at t o s h)) (λ _. flow-less A v
        (mode_after w q) b q (perform n at t q s) (met-right (mode_after w p) (mode_after w q)) (perform-keeps may_go T A goes w b q parts.1 at t o s h))
    perform-keeps may_go T A goes w b (fostered p) e at t o s h = let v = mode_after w p in
        comes-map (λ u. Holds v b u.control) A (λ r. Unit {0}) (with_foster false) (λ u k. k) goes.flagged (perform n at t p (with_foster true s))
        (flow-less A v v b p (perform n at t p (with_foster true s)) (λ m k. k) (perform-keeps may_go T A goes w b p e at t o (with_foster true s) h))
    perform-keeps may_go T A goes w b (each_pending p) e at t o s h = comes-each (λ u. Holds Any b u.control) A (λ r. Unit {0})
        (λ c. perform n c.at (character c.ch) p) (λ c u k. comes-less (λ x. Holds (mode_after Any p) (leaves b p) x.control) (λ x. Holds Any b x.control)
        (λ y x. ⊥) A (λ r. Unit {0}) (λ x. less Any (mode_after Any p) b (leaves b p) x.control (λ _. tt) (wider b p)) (λ y x never_so. absurd never_so)
        (perform n c.at (character c.ch) p u) (perform-keeps (λ v q. false) (λ y. Unit {0}) (λ y x. ⊥) none-goes Any b p e c.at (character c.ch) tt u k))
        s.control.pending (with_control (record s.control { pending = [] }) s) (record { mode = tt; saved = h.saved; sound = h.sound })
    perform-keeps may_go T A goes w b again e at t o s h = goes.same w b t s e o h
    perform-keeps may_go T A goes w b (again_as x) e at t o s h = goes.other w b x t s e o h
    perform-keeps may_go T A goes w b (to m) e at t o s h =
        record { mode = refl; saved = h.saved; sound = λ j. h.saved (other (not (hides_none m)) b e (ap not j)) }
    perform-keeps may_go T A goes w b save_mode e at t o s h = let p = is-plain w s.control.mode e h.mode in
        record { mode = h.mode; saved = λ _. p; sound = λ _. p }
    perform-keeps may_go T A goes w b to_saved e at t o s h = record { mode = h.saved e; saved = h.saved; sound = λ _. h.saved e }
    perform-keeps may_go T A goes w b reset e at t o s h = let r = found s.context (stack s.site) in
        record { mode = r.0; saved = h.saved; sound = λ i. let clash = sym r.1 ∙ i in cc }
    perform-keeps may_go T A goes w b p e at t o s h = first_of (assumption, search (on-site))
