-- The rules where the state is quiet: by the mode, and what they do with characters.
use Rattle.hlaws.proofs.Names.{◌≡◌, ℕ, ◌+◌, ◌<◌, Bool, true, false, List, [], ◌∷◌, ◌++◌, map, None, refl, sym, ◌∙◌, ap, lt-leb, false≢true, list_all, nat_le, encode_utf8, text, Forest, none, tree, times, text_before, LastIn, OpenNode, Listed, entry, Placed, is_space, Naming, Outcome, Goes, is_fostering, Family, Mode, InBody, InCaption, InCell, Text, InTable, InTableText, InTableBody, InRow, Comment, Start, End, rule_of, perform, Token, character, Control, State, Done, kind_of, Rule, goes_again, step_begun, is_flow_mode, under, EntriesOpen, Chain, append-nil, append_assoc, encode_utf8_all, with_char, reconstructed, TokenKind, Nul, Ws, Char, Do, put, character_in_body, each_of, Flow, Again, flow_then, space_not_null}
use Rattle.hlaws.proofs.TokensText.{is_clean_char, clean_not_null}
use Rattle.hlaws.proofs.Growing.{graft-new, what-new, text_before-new}

-- all modes in which flow content is have one rule for a kind of tokens
abbrev pub IsFlowRule : TokenKind → Do → Type 0
IsFlowRule k r = (rule_of InBody k ≡ r) × (rule_of InCaption k ≡ r) × (rule_of InCell k ≡ r)

-- the rule in body
abbrev pub by_start : Family → Do
by_start w = rule_of InBody (Start w)

abbrev pub by_end : Family → Do
by_end w = rule_of InBody (End w)

flow_rule : (m : Mode) (k : TokenKind) (r : Do) → is_flow_mode m ≡ true → IsFlowRule k r → rule_of m k ≡ r
flow_rule InBody k r m h = h.0
flow_rule InCaption k r m h = h.1
flow_rule InCell k r m h = h.2
flow_rule _ k r m h = absurd (false≢true m)

-- the kinds of tokens that are no characters
abbrev pub is_other : TokenKind → Bool
is_other Nul = false
is_other Ws = false
is_other Char = false
is_other _ = true

-- the modes in which white space waits
abbrev pub is_parts_mode : Mode → Bool
is_parts_mode InTable = true
is_parts_mode InTableBody = true
is_parts_mode InRow = true
is_parts_mode _ = false

parts_rule : (m : Mode) → is_parts_mode m ≡ true → rule_of m Ws ≡ rule_of InTable Ws
parts_rule InTable h = refl
parts_rule _ h = cc

module _ {N : Type 0} where
  abbrev pub node : ℕ → N → OpenNode N
  node k x = record { node = k; name = x }

  -- the states of the law: limits, errors and context are those of z
  abbrev pub state : State N → ℕ → Forest N → List (OpenNode N) → List (Listed N) → Control → State N
  state z made f stack items c = record {
    site = record {
      nodes = record { limit = z.site.nodes.limit; made = made; trees = f };
      open_nodes = record { limit = z.site.open_nodes.limit; stack = stack };
      items = items;
      foster = false;
      errors = z.site.errors;
      again = z.site.again;
    };
    control = c;
    context = z.context;
    quirks_list = z.quirks_list;
  }

module _ {N : Type 0} (n : Naming N) (z : State N) where
  -- no element is reconstructed
  pub none_lost : (at made : ℕ) (f : Forest N) (stack : List (OpenNode N)) (items : List (Listed N)) (c : Control) → EntriesOpen stack items
      → reconstructed n at (state z made f stack items c).site ≡ Goes (state z made f stack items c).site
  none_lost at made f stack (entry e ∷ items) c o = rw o.0 refl
  none_lost at made f stack _ c o = refl

  -- a rule of a mode
  pub by_mode : (at : ℕ) (t : Token N) (mode : Mode) (k : TokenKind) (s s' : State N) → s.control.mode ≡ mode → kind_of n t ≡ k
      → perform n at t (rule_of mode k) s ≡ Done s' → Rule n at t s ≡ Done s'
  by_mode at t mode k s s' m fam p = (λ i. perform n at t (rule_of (m i) (fam i)) s) ∙ p

  -- the rule of all modes of flow
  pub in_flow : (at : ℕ) (t : Token N) (k : TokenKind) (r : Do) (s s' : State N) → is_flow_mode s.control.mode ≡ true → IsFlowRule k r → kind_of n t ≡ k
      → perform n at t r s ≡ Done s' → Rule n at t s ≡ Done s'
  in_flow at t k r s s' m h fam p =
      ap (λ j. perform n at t (rule_of s.control.mode j) s) fam ∙ ap (λ q. perform n at t q s) (flow_rule s.control.mode k r m h) ∙ p

  module _ (at made : ℕ) (f : Forest N) (d : OpenNode N) (up : List (OpenNode N)) (items : List (Listed N)) (c : Control) where
    abbrev now : State N
    now = state z made f (d ∷ up) items c

    -- WHITE SPACE OF A TABLE

    -- it is held: the first character, and one more
    pub first_held : (ch : ℕ) → is_parts_mode c.mode ≡ true → is_space ch ≡ true → is_fostering (n.tag d.name) ≡ true
        → Rule n at (character ch) now ≡ Again (character ch) (state z made f (d ∷ up) items (record c { pending = []; saved = c.mode; mode = InTableText }))
    first_held ch m space part = let kind : kind_of n (character ch) ≡ Ws = simp (space_not_null ch space, space) refl in
        ap (λ k. perform n at (character ch) (rule_of c.mode k) now) kind ∙ ap (λ r. perform n at (character ch) r now) (parts_rule c.mode m) ∙ simp part refl

    pub held : (ch : ℕ) → c.mode ≡ InTableText → is_space ch ≡ true
        → Rule n at (character ch) now ≡ Done (state z made f (d ∷ up) items (record c { pending = c.pending ++ record { ch = ch; at = at } ∷ [] }))
    held ch m space = by_mode at (character ch) InTableText Ws _ _ m (simp (space_not_null ch space, space) refl) refl

  -- CHARACTERS

  module _ (d : OpenNode N) (up : List (OpenNode N)) (items : List (Listed N)) where
    -- the first one of a text, and one more
    pub put_first : (at ch made : ℕ) (f : Forest N) (c : Control) → text_before (LastIn d.node) f ≡ None → times made f ≡ 0 → made < z.site.nodes.limit
        → perform n at (character ch) put (state z made f (d ∷ up) items c)
        ≡ Done (state z (made + 1) (under d.node (tree made (text (encode_utf8 ch)) none none) f) (d ∷ up) items c)
    put_first at ch made f c none_before fresh room = let full : nat_le z.site.nodes.limit made ≡ false = lt-leb z.site.nodes.limit made room in
        simp (none_before, full, graft-new d.node made (text (encode_utf8 ch)) f fresh) refl

    pub put_next : (at ch made k : ℕ) (t : List ℕ) (g : Forest N) (c : Control) → times d.node g ≡ 1 → times k g ≡ 0
        → perform n at (character ch) put (state z made (under d.node (tree k (text t) none none) g) (d ∷ up) items c)
        ≡ Done (state z made (under d.node (tree k (text (t ++ encode_utf8 ch)) none none) g) (d ∷ up) items c)
    put_next at ch made k t g c once absent = rw (text_before-new d.node k (text t) none g once absent refl refl)
        (ap (λ u. Done (state z made u (d ∷ up) items c)) (what-new d.node k (with_char ch) (text t) g absent))

    -- a mode puts the characters that pass
    abbrev pub Puts : Mode → (ℕ → Bool) → Type 0
    Puts m ok = (at ch made : ℕ) (f : Forest N) (c : Control) (s : State N) → c.mode ≡ m → ok ch ≡ true
        → perform n at (character ch) put (state z made f (d ∷ up) items c) ≡ Done s → Rule n at (character ch) (state z made f (d ∷ up) items c) ≡ Done s

    pub flow_puts : (m : Mode) → is_flow_mode m ≡ true → EntriesOpen (d ∷ up) items → Puts m is_clean_char
    flow_puts m flows o at ch made f c s e h p = go (is_space ch) refl where
      by_kind : (k : TokenKind) → IsFlowRule k character_in_body → kind_of n (character ch) ≡ k
          → Rule n at (character ch) (state z made f (d ∷ up) items c) ≡ Done s
      by_kind k same kind = in_flow at (character ch) k character_in_body (state z made f (d ∷ up) items c) s (ap is_flow_mode e ∙ flows) same kind
          (rw (none_lost at made f (d ∷ up) items c o) p)

      go : (b : Bool) → is_space ch ≡ b → Rule n at (character ch) (state z made f (d ∷ up) items c) ≡ Done s
      go true i = by_kind Ws (refl, refl, refl) (rw (clean_not_null ch h, i) refl)
      go false i = by_kind Char (refl, refl, refl) (rw (clean_not_null ch h, i) refl)

    pub raw_puts : Puts Text is_clean_char
    raw_puts at ch made f c s e h p = go (is_space ch) refl where
      go : (b : Bool) → is_space ch ≡ b → Rule n at (character ch) (state z made f (d ∷ up) items c) ≡ Done s
      go true i = by_mode at (character ch) Text Ws (state z made f (d ∷ up) items c) s e (rw (clean_not_null ch h, i) refl) p
      go false i = by_mode at (character ch) Text Char (state z made f (d ∷ up) items c) s e (rw (clean_not_null ch h, i) refl) p

    pub space_puts : (m : Mode) → rule_of m Ws ≡ put → Puts m is_space
    space_puts m rule at ch made f c s e h p = by_mode at (character ch) m Ws (state z made f (d ∷ up) items c) s e (rw (space_not_null ch h, h) refl)
        (ap (λ r. perform n at (character ch) r (state z made f (d ∷ up) items c)) rule ∙ p)

    -- the white space that was held
    abbrev puts : List Placed → State N → Flow N
    puts ps s = each_of (λ p. perform n p.at (character p.ch) put) ps s

    puts_next : (ps : List Placed) (made k : ℕ) (t : List ℕ) (g : Forest N) (c : Control) → times d.node g ≡ 1 → times k g ≡ 0
        → puts ps (state z made (under d.node (tree k (text t) none none) g) (d ∷ up) items c)
        ≡ Done (state z made (under d.node (tree k (text (t ++ encode_utf8_all (map (λ p. p.ch) ps))) none none) g) (d ∷ up) items c)
    puts_next [] made k t g c once absent = ap (λ u. Done (state z made (under d.node (tree k (text u) none none) g) (d ∷ up) items c)) (sym (append-nil t))
    puts_next (p ∷ ps) made k t g c once absent =
        ap (λ r. flow_then r (puts ps)) (put_next p.at p.ch made k t g c once absent) ∙ puts_next ps made k (t ++ encode_utf8 p.ch) g c once absent
        ∙ ap (λ u. Done (state z made (under d.node (tree k (text u) none none) g) (d ∷ up) items c))
        (append_assoc t (encode_utf8 p.ch) (encode_utf8_all (map (λ p. p.ch) ps)))

    -- what a token does that is no character: the white space goes in, and the token is reprocessed
    other_rule : (k : TokenKind) → is_other k ≡ true → rule_of InTableText k ≡ rule_of InTableText Comment
    other_rule Comment h = refl
    other_rule _ h = cc

    module _ (at : ℕ) (t : Token N) (p : Placed) (ps : List Placed) (made : ℕ) (f : Forest N) (c : Control) (other : is_other (kind_of n t) ≡ true)
        (m : c.mode ≡ InTableText) (waiting : c.pending ≡ p ∷ ps) (spaces : list_all (λ p. is_space p.ch) (p ∷ ps) ≡ true) (once : times d.node f ≡ 1)
        (absent : times made f ≡ 0) (room : made < z.site.nodes.limit) (none_before : text_before (LastIn d.node) f ≡ None) where
      abbrev flushed : Control → State N
      flushed c' = state z (made + 1) (under d.node (tree made (text (encode_utf8_all (map (λ p. p.ch) (p ∷ ps)))) none none) f) (d ∷ up) items
          (record c' { pending = []; mode = c'.saved })

      flush : Rule n at t (state z made f (d ∷ up) items c) ≡ Again t (flushed c)
      flush = let rule : rule_of c.mode (kind_of n t) ≡ rule_of InTableText Comment = ap (λ j. rule_of j (kind_of n t)) m ∙ other_rule (kind_of n t) other in
          let all : puts (p ∷ ps) (state z made f (d ∷ up) items (record c { pending = [] })) ≡ Done (state z (made + 1)
          (under d.node (tree made (text (encode_utf8_all (map (λ p. p.ch) (p ∷ ps)))) none none) f) (d ∷ up) items (record c { pending = [] })) =
          ap (λ r. flow_then r (puts ps)) (put_first p.at p.ch made f (record c { pending = [] }) none_before absent room)
          ∙ puts_next ps (made + 1) made (encode_utf8 p.ch) f (record c { pending = [] }) once absent in
          ap (λ r. perform n at t r (state z made f (d ∷ up) items c)) rule
          ∙ rw (waiting, spaces) (ap (λ r. flow_then r (λ s. Again t (record s { control = record s.control { mode = s.control.saved } }))) all)

  -- so the state takes the token as the one in which the white space is
  pub acts : (d : OpenNode N) (up : List (OpenNode N)) (items : List (Listed N)) (at : ℕ) (t : Token N) (p : Placed) (ps : List Placed) (made : ℕ)
      (f : Forest N) (c : Control) (o : Outcome (State N)) → is_other (kind_of n t) ≡ true → c.mode ≡ InTableText → c.pending ≡ p ∷ ps
      → list_all (λ p. is_space p.ch) (p ∷ ps) ≡ true → times d.node f ≡ 1 → times made f ≡ 0 → made < z.site.nodes.limit
      → text_before (LastIn d.node) f ≡ None
      → Chain n at t (step_begun (state z (made + 1) (under d.node (tree made (text (encode_utf8_all (map (λ p. p.ch) (p ∷ ps)))) none none) f) (d ∷ up)
      items (record c { pending = []; mode = c.saved }))) o → Chain n at t (step_begun (state z made f (d ∷ up) items c)) o
  acts d up items at t p ps made f c o other m waiting spaces once absent room none_before chain = goes_again
      (flush d up items at t p ps made f (record c { drop_lf = false; acknowledged = false }) other m waiting spaces once absent room none_before) chain
