-- Each rule that has a token go again does so in a mode that is lower for it, or with fewer open tables.
use Rattle.hmodes.proofs.Vocabulary.{if◌then◌else◌, ◌≡◌, ℕ, ◌+◌, ◌<◌, Bool, true, false, cond, refl, sym, subst, arith, leb, ltb, leb-true, ltb-true, ◌&&◌, ◌||◌, ◌==◌, is_space, Naming, Mode, Initial, BeforeHtml, BeforeHead, InHead, InHeadNoscript, AfterHead, InBody, Text, InTable, InTableText, InColumnGroup, InTableBody, InRow, AfterBody, AfterAfterBody, Tag, TokenKind, Nul, Ws, Char, Start, End, Do, again, again_as, Token, start, character, Control, State, Flow, kind_of, renamed, rule_of, Rule}
use Rattle.names.specs.declared.tag.Tag.TheVariants as tag
use Rattle.hmodes.specs.declared.family.Family.TheVariants as family
use Rattle.hmodes.proofs.Every.{never, both, other, in-each}
use Rattle.hmodes.proofs.Facts.{is_texty, reset-found}
use Rattle.hmodes.proofs.Modes.{Known, At, Plain, Any, IsKnown, Holds, mode_after, keeps, leaves, perform-keeps}
use Rattle.hmodes.proofs.Programs.{Comes, comes-less}

-- how high a mode is: for most tokens, and for those that go the other way through some modes
abbrev usual : Mode → ℕ
usual Initial = 12
usual BeforeHtml = 11
usual BeforeHead = 10
usual InHeadNoscript = 9
usual InHead = 8
usual AfterHead = 7
usual AfterAfterBody = 6
usual AfterBody = 5
usual InBody = 4
usual InTable = 6
usual InTableBody = 7
usual InRow = 8
usual _ = 9

abbrev for_cell : Mode → ℕ
for_cell InTable = 3
for_cell InTableBody = 2
for_cell InRow = 1
for_cell m = usual m

abbrev for_row : Mode → ℕ
for_row InTable = 3
for_row InTableBody = 2
for_row InRow = 3
for_row m = usual m

abbrev for_col : Mode → ℕ
for_col InColumnGroup = 1
for_col m = usual m

abbrev for_html : Mode → ℕ
for_html AfterBody = 1
for_html m = usual m

abbrev rank : TokenKind → Mode → ℕ
rank (Start family.Image) m = 15 + usual m
rank (Start family.Cell) m = for_cell m
rank (Start family.Row) m = for_row m
rank (Start family.Col) m = for_col m
rank (End family.Html) m = for_html m
rank _ m = usual m

-- where a table's start tag closes the open table
abbrev pub is_tabular : TokenKind → Mode → Bool
is_tabular (Start family.Table) InTable = true
is_tabular (Start family.Table) InColumnGroup = true
is_tabular (Start family.Table) InTableBody = true
is_tabular (Start family.Table) InRow = true
is_tabular _ _ = false

abbrev pub is_char : TokenKind → Bool
is_char Nul = true
is_char Ws = true
is_char Char = true
is_char _ = false

-- characters end in table text, and from the modes of text all others go back
abbrev pub level : TokenKind → Mode → ℕ
level k Text = 40
level k InTableText = if is_char k then 0 else 40
level k m = if is_tabular k m then 30 else rank k m

-- below what a rule goes on: that table's start tag, by what its rule does
abbrev pub cap : TokenKind → Mode → ℕ
cap k m = if is_tabular k m then 40 else level k m

-- whether a token of this kind goes on below this level
abbrev lower : TokenKind → ℕ → Known → Bool
lower k r (At m) = ltb (level k m) r
lower k r Plain = ltb 30 r
lower k r Any = false

abbrev is_start : TokenKind → Bool
is_start (Start f) = true
is_start _ = false

-- whether a token of this kind may go again below this level
abbrev may_fall : TokenKind → ℕ → Known → Do → Bool
may_fall k r w again = lower k r w
may_fall k r w (again_as tag.Img) = is_start k && lower (Start family.PhrasingVoid) r w
may_fall k r w _ = false

abbrev falls : Mode → TokenKind → Bool
falls m k = keeps is_texty is_texty (may_fall k (cap k m)) (At m) (is_texty m) (rule_of m k)

-- in text, what is saved is not text again
abbrev pub Sound : Control → Type 0
Sound c = is_texty c.mode ≡ true → is_texty c.saved ≡ false

pub level-plain : (k : TokenKind) (m : Mode) → is_texty m ≡ false → leb (level k m) 30 ≡ true
level-plain k m = other (is_texty m) (leb (level k m) 30) (in-each (λ m k. is_texty m || leb (level k m) 30) refl m k)

module _ {N : Type 0} (n : Naming N) (tells : n.tag (n.known tag.Img) ≡ tag.Img) where
  abbrev pub Lower : ℕ → Token N → State N → Type 0
  Lower r t s = Sound s.control × (level (kind_of n t) s.control.mode < r)

  -- a flow that goes on below this level, if it goes on
  abbrev pub FlowFalls : ℕ → Flow N → Type 0
  FlowFalls r = Comes (λ s. Sound s.control) (Lower r) (λ e. Unit {0})

  lower-is : (k : TokenKind) (r : ℕ) (w : Known) (m : Mode) → lower k r w ≡ true → IsKnown is_texty is_texty w m → level k m < r
  lower-is k r (At x) m e h = rw h (ltb-true (level k x) r e)
  lower-is k r Plain m e h = omega (arith, leb-true (level k m) 30 (level-plain k m h), ltb-true 30 r e)
  lower-is k r Any m e h = never e

  renamed-kind : (t : Token N) (k : TokenKind) → kind_of n t ≡ k → is_start k ≡ true → kind_of n (renamed (n.known tag.Img) t) ≡ Start family.PhrasingVoid
  renamed-kind (start x attrs closing) k e i = rw tells refl
  renamed-kind (character c) k e i = not-start (c == 0) (is_space c) (subst (λ (j : TokenKind). is_start j ≡ true) (sym e) i) where
    not-start : (u v : Bool) → is_start (cond u Nul (cond v Ws Char)) ≡ true → kind_of n (renamed (n.known tag.Img) (character c)) ≡ Start family.PhrasingVoid
    not-start true v e = cc
    not-start false true e = cc
    not-start false false e = cc
  renamed-kind t k e i = let clash = subst (λ (j : TokenKind). is_start j ≡ true) (sym e) i in cc

  renamed-lower : (k : TokenKind) (r : ℕ) (w : Known) (b : Bool) (x : Tag) (t : Token N) (s : State N) → may_fall k r w (again_as x) ≡ true → kind_of n t ≡ k
      → Holds is_texty is_texty w b s.control → Lower r (renamed (n.known x) t) s
  renamed-lower k r w b tag.Img t s e o h = let parts = both (is_start k) (lower (Start family.PhrasingVoid) r w) e in
      (h.sound, rw (renamed-kind t k o parts.0) (lower-is (Start family.PhrasingVoid) r w s.control.mode parts.1 h.mode))
  renamed-lower k r w b x t s e o h = never e

  -- what every rule does
  pub rule-down : (at : ℕ) (t : Token N) (s : State N) → Sound s.control → FlowFalls (cap (kind_of n t) s.control.mode) (Rule n at t s)
  rule-down at t s h = let m = s.control.mode in let k = kind_of n t in let r = cap k m in let p = rule_of m k in
      comes-less (λ u. Holds is_texty is_texty (mode_after is_texty is_texty (At m) p) (leaves (is_texty m) p) u.control) (λ u. Sound u.control) (Lower r)
      (Lower r) (λ e. Unit {0}) (λ u d. d.sound) (λ u v a. a) (Rule n at t s)
      (perform-keeps is_texty is_texty n (λ c st. ((reset-found n c st).1, (reset-found n c st).1)) (may_fall k r) (λ u. kind_of n u ≡ k) (Lower r)
      (record { same = λ w b u v e o d. (d.sound, rw o (lower-is k r w v.control.mode e d.mode)); other = renamed-lower k r; flagged = λ u v a. a }) (At m)
      (is_texty m) p (in-each falls refl m k) at t refl s (record { mode = refl; saved = h; sound = h }))
