-- A character that is put as it is.
use Rattle.hmodes.proofs.Vocabulary.{◌≡◌, ℕ, Bool, true, false, List, [], ◌∷◌, length, refl, ◌∙◌, ap, ◌==◌, if◌then◌else◌, eqb-true, is_space, Nodes, Place, LastIn, before, is_open, current, Listed, marker, entry, numbers, SiteOf, stack, open_node, place, stops_going_back, renewed_each, character_in_body, perform, flow_of, rule_of, State, character, flow_then, Rule, put, Mode, Do, char_rule, is_for_text}
use Rattle.hmodes.proofs.Every.{never}
use Rattle.hadopt.specs.Inserts as inserts
use Rattle.hmodes.specs.declared.token_kind.TokenKind.TheVariants.{Ws, Char, Nul}
use Rattle.hmodes.specs.declared.mode.Mode.TheVariants as mode

-- a mode that is for text goes by the rule of its text, for white space and for others
rule_is : (space : Bool) (m : Mode) → is_for_text m ≡ true → rule_of m (if space then Ws else Char) ≡ char_rule m
rule_is true mode.Text h = refl
rule_is true mode.InBody h = refl
rule_is true mode.InCaption h = refl
rule_is true mode.InCell h = refl
rule_is true mode.InTableText h = refl
rule_is false mode.Text h = refl
rule_is false mode.InBody h = refl
rule_is false mode.InCaption h = refl
rule_is false mode.InCell h = refl
rule_is false mode.InTableText h = refl
rule_is _ _ h = never h

module _ (at c : ℕ) (s : State ℕ) where
  pub rule-char : (c == 0) ≡ false → is_for_text s.control.mode ≡ true
      → Rule numbers at (character c) s ≡ perform numbers at (character c) (char_rule s.control.mode) s
  rule-char some h = ap (λ (z : Bool). perform numbers at (character c) (rule_of s.control.mode (if z then Nul else if is_space c then Ws else Char)) s) some
      ∙ ap (λ (p : Do). perform numbers at (character c) p s) (rule_is (is_space c) s.control.mode h)

-- there is nothing to reconstruct
abbrev pub is_reconstructed : SiteOf ℕ → Bool
is_reconstructed x = length (before (stops_going_back x) x.items) == 0

-- whether a character is put as it is by the rules of a mode
abbrev pub puts_now : Mode → SiteOf ℕ → Bool
puts_now mode.Text x = true
puts_now mode.InBody x = is_reconstructed x
puts_now mode.InCaption x = is_reconstructed x
puts_now mode.InCell x = is_reconstructed x
puts_now _ x = false

-- the place of a character: the end of the current node
abbrev pub here : SiteOf ℕ → Place
here x = LastIn (open_node (current (stack x)))

for-text : (m : Mode) (x : SiteOf ℕ) → puts_now m x ≡ true → is_for_text m ≡ true
for-text mode.Text x h = refl
for-text _ x h = cc

module _ (at c : ℕ) (s : State ℕ) where
  in_body : is_reconstructed s.site ≡ true → perform numbers at (character c) character_in_body s ≡ flow_of s (inserts.put at c (place numbers s.site) s.site)
  in_body h = ap (λ (k : ℕ). flow_then (flow_of s (renewed_each numbers at k s.site)) (perform numbers at (character c) put))
      (eqb-true (length (before (stops_going_back s.site) s.site.items)) 0 h)

  is_put : (m : Mode) → puts_now m s.site ≡ true → perform numbers at (character c) (char_rule m) s ≡ flow_of s (inserts.put at c (place numbers s.site) s.site)
  is_put mode.Text h = refl
  is_put mode.InBody h = in_body h
  is_put mode.InCaption h = in_body h
  is_put mode.InCell h = in_body h
  is_put _ h = never h

  pub rule_puts : (c == 0) ≡ false → puts_now s.control.mode s.site ≡ true
      → Rule numbers at (character c) s ≡ flow_of s (inserts.put at c (place numbers s.site) s.site)
  rule_puts some h = rule-char at c s some (for-text s.control.mode s.site h) ∙ is_put s.control.mode h

-- what is put changes neither the stack nor the list
before-nodes : (x : SiteOf ℕ) (v : Nodes ℕ) (items : List (Listed ℕ))
    → before (stops_going_back (record x { nodes = v })) items ≡ before (stops_going_back x) items
before-nodes x v [] = refl
before-nodes x v (marker ∷ items) = refl
before-nodes x v (entry e ∷ items) = ap (λ (r : List (Listed ℕ)). if is_open e.node (stack x) then [] else entry e ∷ r) (before-nodes x v items)

reconstructed-nodes : (x : SiteOf ℕ) (v : Nodes ℕ) → is_reconstructed (record x { nodes = v }) ≡ is_reconstructed x
reconstructed-nodes x v = ap (λ (r : List (Listed ℕ)). length r == 0) (before-nodes x v x.items)

pub puts-nodes : (m : Mode) (x : SiteOf ℕ) (v : Nodes ℕ) → puts_now m x ≡ true → puts_now m (record x { nodes = v }) ≡ true
puts-nodes mode.Text x v h = refl
puts-nodes _ x v h = cc (reconstructed-nodes x v)

pub place-here : (x : SiteOf ℕ) → x.foster ≡ false → place numbers x ≡ here x
place-here x off = rw off refl
