-- What each mode knows of the head.
use Rattle.hmodes.proofs.Vocabulary.{◌≡◌, ℕ, Bool, true, false, not, option_map_or, List, [], ◌∷◌, Option, Some, None, refl, subst, ◌&&◌, ◌||◌, unwrap_or, OpenNode, Tag, Naming, Mode, BeforeHead, InHead, InHeadNoscript, AfterHead, InBody, Text, InTableText, TokenKind, Do, Token, Control, State, open_mode, context_mode, root_mode, reset_mode, perform, rule_of}
use Rattle.names.specs.declared.tag.Tag.TheVariants as tag
use Rattle.hmodes.proofs.Every.{never, both, in-each}
use Rattle.hmodes.proofs.Modes.{not-true, Known, At, Plain, Holds, is_plain, is-plain, mode_after, keeps, leaves, perform-keeps}
use Rattle.hmodes.proofs.Programs.{Comes, comes-less}

-- the modes that know something of the head, and those that go back to the saved one
abbrev pub is_early : Mode → Bool
is_early InHead = true
is_early InHeadNoscript = true
is_early AfterHead = true
is_early _ = false

abbrev pub is_texty : Mode → Bool
is_texty Text = true
is_texty InTableText = true
is_texty _ = false

-- the modes that an early one leads to, or is: their rules are looked at one by one
abbrev pub is_led : Mode → Bool
is_led BeforeHead = true
is_led m = is_early m

-- whether a rule goes to late modes alone, and leaves no early one behind those of text
abbrev may_go : Known → Do → Bool
may_go w p = is_plain is_early is_texty w

abbrev pub is_late_rule : Mode → TokenKind → Bool
is_late_rule m k =
    keeps is_early is_texty may_go (At m) (is_texty m) (rule_of m k) && is_plain is_early is_texty (mode_after is_early is_texty (At m) (rule_of m k))

pub late-rule : (m : Mode) (k : TokenKind) → (is_led m || is_late_rule m k) ≡ true
late-rule = in-each (λ m k. is_led m || is_late_rule m k) refl

-- a late mode
abbrev pub Late : Control → Type 0
Late = Holds is_early is_texty Plain false

late : (w : Known) (b : Bool) (c : Control) → is_plain is_early is_texty w ≡ true → Holds is_early is_texty w b c → Late c
late w b c e h = record { mode = is-plain is_early is_texty w c.mode e h.mode; saved = λ i. never i; sound = h.sound }

-- what reset gives: neither
abbrev is_found : Mode → Bool
is_found m = not (is_early m) && not (is_texty m)

open-found : (t : Tag) → option_map_or is_found (open_mode t) true ≡ true
open-found tag.Td = refl
open-found _ = refl

context-found : (t : Tag) → is_found (context_mode t) ≡ true
context-found tag.Tr = refl
context-found _ = refl

or-found : (o : Option Mode) (m : Mode) → option_map_or is_found o true ≡ true → is_found m ≡ true → is_found (unwrap_or o m) ≡ true
or-found None m a b = b
or-found (Some k) m a b = a

module _ {N : Type 0} (n : Naming N) where
  root-found : (c : Option N) (x : OpenNode N) → is_found (root_mode n c x) ≡ true
  root-found None x = or-found (open_mode (n.tag x.name)) InBody (open-found (n.tag x.name)) refl
  root-found (Some c) x = context-found (n.tag c)

  found : (c : Option N) (st : List (OpenNode N)) → is_found (reset_mode n c st) ≡ true
  found c [] = refl
  found c (x ∷ []) = root-found c x
  found c (x ∷ (y ∷ up)) = or-found (open_mode (n.tag x.name)) (reset_mode n c (y ∷ up)) (open-found (n.tag x.name)) (found c (y ∷ up))

  pub reset-found : (c : Option N) (st : List (OpenNode N)) → (is_early (reset_mode n c st) ≡ false) × (is_texty (reset_mode n c st) ≡ false)
  reset-found c st = let m = reset_mode n c st in let parts = both (not (is_early m)) (not (is_texty m)) (found c st) in
      (not-true (is_early m) parts.0, not-true (is_texty m) parts.1)

module _ {N : Type 0} (n : Naming N) where
  abbrev LateAgain : Token N → State N → Type 0
  LateAgain t s = Late s.control

  -- what such a rule does from a late mode
  pub perform-late : (m : Mode) (k : TokenKind) → is_late_rule m k ≡ true → (at : ℕ) (t : Token N) (s : State N) → s.control.mode ≡ m
      → (is_texty m ≡ true → is_early s.control.saved ≡ false) → Comes (λ u. Late u.control) LateAgain (λ r. Unit {0}) (perform n at t (rule_of m k) s)
  perform-late m k e at t s is saved = let p = rule_of m k in let w = mode_after is_early is_texty (At m) p in
      let parts = both (keeps is_early is_texty may_go (At m) (is_texty m) p) (is_plain is_early is_texty w) e in
      comes-less (λ u. Holds is_early is_texty w (leaves (is_texty m) p) u.control) (λ u. Late u.control) LateAgain LateAgain (λ r. Unit {0})
      (λ u. late w (leaves (is_texty m) p) u.control parts.1) (λ u v a. a) (perform n at t p s) (perform-keeps is_early is_texty n (reset-found n) may_go
      (λ u. Unit {0}) LateAgain (record { same = λ v b u x i _. late v b x.control i; other = λ v b y u x i _. late v b x.control i; flagged = λ u x a. a })
      (At m) (is_texty m) p parts.0 at t tt s (record { mode = is; saved = saved; sound = λ i. saved (subst (λ (v : Mode). is_texty v ≡ true) is i) }))
