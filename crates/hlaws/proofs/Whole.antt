-- The tokens of a plain list of trees build it under the current node.
use Rattle.hlaws.proofs.Names.{◌≡◌, ℕ, suc, ◌+◌, ◌<◌, ◌≤◌, Bool, true, false, not, ◌&&◌, ◌||◌, List, [], ◌∷◌, ◌++◌, length, map, Option, Some, None, refl, sym, ◌∙◌, ap, subst, arith, and_parts, or_parts, and_right, eq-eqb, lt-leb, false≢true, not-true, nat_le, encode_utf8, encode_utf8_all, chars, ◌==◌, list_all, Attribute, What, element, text, Forest, none, tree, size, times, graft_last, join, if_text, text_before, LastIn, OpenNode, in_scope, stops_in_scope, stops_item, EntryOf, Listed, marker, entry, with_room, without_entry, entry_of, find_entry, cleared, Placed, is_space, is_void, is_heading, has_implied_end, stops_button_scope, Naming, Goes, is, is_table_context, is_body_context, is_row_context, is_fostering, Family, Start, End, Mode, InCaption, InCell, Text, InTable, InTableText, InTableBody, InRow, InColumnGroup, family_of, rule_of, perform, void, raw, void_in_text, Token, start, end, comment, character, Control, State, Done, kind_of, reset_mode, Rule, step_begun, ends, goes_again, Step, goes, Content, Role, row, takes_role, takes_comments, texts_in, Inside, inside_element, is_nested, is_a, is_button, is_form_element, drops_line_feed, inserts_marker, is_flow_mode, fits_mode, fits_current, holds_list_items, is_dl, takes_space, numbered_forest, under, Thinned, same, kept, lost, EntriesOpen, EntriesLower, plain_tokens, append-nil, append_assoc, unwrap_or, content_within, reconstructed, block, close_block, end_item, Do, closes_p, is_character_token, ActsAs, depth, AllLower, list_all-map, inl}
use Rattle.hnodes.specs.Forest as forest
use Rattle.hopen.specs.declared.scope.Scope.TheVariants as scope
use Rattle.names.specs.declared.tag.Tag.TheVariants as tag
use Rattle.hmodes.specs.declared.family.Family.TheVariants as family
use Rattle.hserialize.specs.declared.content.Content.TheVariants as content
use Rattle.hserialize.specs.declared.content.Role.TheVariants as role
use Rattle.hlaws.proofs.Growing.{graft-new, under-none, under-new, once-grown, free-grown, once-new, rest-grown, times-numbered, text_before-new, text_before-leaf, then, thinned-room, open-thinned, open-pushed, lower-thinned, entries-more, no-entry}
use Rattle.hlaws.proofs.Content.{Profile, profile, plain_profile, around, class_profile, classed, void_empty, is_p, home, has_home, stands_in, no_nowhere, phrasing_mode, own_mode, comment_rule, around_fits, name_facts}
use Rattle.hlaws.proofs.Rules as rules
use Rattle.hlaws.proofs.Rules.{IsFlowRule, by_start, by_end, state, node}
use Rattle.hlaws.proofs.TokensText.{Leads, no_token, token_then, tokens_then, so, IsText, begins_text, is_clean_char}

-- WHAT IS USED OF A KIND OF NAMES

pub record NameLaws {N : Type 0} (n : Naming N) : Type 0 where
  pub same_self : (x : N) → n.same x x ≡ true
  pub knows_p : (x : N) → n.same x (n.known tag.P) ≡ is_p (n.tag x)
  pub button : (x : N) → n.same x (n.known tag.Button) ≡ is_button (n.tag x)
  pub anchor : (x y : N) → is_a (n.tag y) ≡ true → is_a (n.tag x) ≡ false → n.same y x ≡ false
  pub table : (x : N) → family_of (n.tag x) ≡ family.Table → n.same x (n.known tag.Table) ≡ true
  pub caption : (x : N) → family_of (n.tag x) ≡ family.Caption → n.same x (n.known tag.Caption) ≡ true
  pub table_row : (x : N) → family_of (n.tag x) ≡ family.Row → n.same x (n.known tag.Tr) ≡ true
  pub li : (x : N) → holds_list_items (n.tag x) ≡ true → n.same x (n.known tag.Li) ≡ false
  pub dd : (x : N) → is_dl (n.tag x) ≡ true → n.same x (n.known tag.Dd) ≡ false
  pub dt : (x : N) → is_dl (n.tag x) ≡ true → n.same x (n.known tag.Dt) ≡ false

-- LISTS THAT LOST ENTRIES

module _ {N : Type 0} where
  find-thinned : (alike : N → N → Bool) (x : N) {xs ys : List (Listed N)} → Thinned xs ys → find_entry alike x xs ≡ None → find_entry alike x ys ≡ None
  find-thinned alike x same h = h
  find-thinned alike x (kept t) h = grind (arith, find-thinned alike x t)
  find-thinned alike x (lost t) h = grind (arith, find-thinned alike x t)

lower-more : {N : Type 0} (made made' : ℕ) (up : List (OpenNode N)) → made ≤ made' → AllLower made up → AllLower made' up
lower-more made made' [] h o = tt
lower-more made made' (x ∷ up) h o = (let k = o.0 in omega arith, lower-more made made' up h o.1)

-- WHAT THE LAW SPEAKS OF

-- what the rules do not change where they build plain trees
pub record Keeps (c c' : Control) : Type 0 where
  pub mode : c'.mode ≡ c.mode
  pub head : c'.head ≡ c.head
  pub form : c'.form ≡ c.form
  pub quirks : c'.quirks ≡ c.quirks

keeps-then : {a b c : Control} → Keeps a b → Keeps b c → Keeps a c
keeps-then k l = record { mode = l.mode ∙ k.mode; head = l.head ∙ k.head; form = l.form ∙ k.form; quirks = l.quirks ∙ k.quirks }

abbrev pub begun_control : Control → Control
begun_control c = record c { drop_lf = false; acknowledged = false }

begun_keeps : (c : Control) → Keeps c (begun_control c)
begun_keeps c = record { mode = refl; head = refl; form = refl; quirks = refl }

-- what characters make of what was read before them
abbrev all_read : {A : Type 0} → (A → Placed → A) → A → List Placed → A
all_read next a [] = a
all_read next a (p ∷ ps) = all_read next (next a p) ps

abbrev then_char : List ℕ → Placed → List ℕ
then_char t p = t ++ encode_utf8 p.ch

abbrev then_placed : List Placed → Placed → List Placed
then_placed ps p = ps ++ p ∷ []

text_read : (t : List ℕ) (ps : List Placed) → all_read then_char t ps ≡ t ++ encode_utf8_all (map (λ p. p.ch) ps)
text_read t [] = sym (append-nil t)
text_read t (p ∷ ps) = text_read (t ++ encode_utf8 p.ch) ps ∙ append_assoc t (encode_utf8 p.ch) (encode_utf8_all (map (λ p. p.ch) ps))

placed_read : (qs ps : List Placed) → all_read then_placed qs ps ≡ qs ++ ps
placed_read qs [] = sym (append-nil qs)
placed_read qs (p ∷ ps) = placed_read (qs ++ p ∷ []) ps ∙ append_assoc qs (p ∷ []) ps

-- which texts are in content: white space in the parts of a table, where it may be
abbrev pub TextIn : Content → (space : Bool) → List ℕ → Type 0
TextIn content.TableParts space chs = (list_all is_space chs ≡ true) × (space ≡ true)
TextIn content.TableRows space chs = (list_all is_space chs ≡ true) × (space ≡ true)
TextIn content.Cells space chs = (list_all is_space chs ≡ true) × (space ≡ true)
TextIn content.Columns space chs = list_all is_space chs ≡ true
TextIn content.Empty space chs = ⊥
TextIn _ space chs = Unit {0}

abbrev pub TextFits : Inside → List ℕ → Type 0
TextFits i chs = TextIn i.content (takes_space i.texts) chs

-- what a text node is: its characters, none of them NUL
pub record GoodText (i : Inside) (t : List ℕ) : Type 0 where
  pub is : IsText t
  pub fits : TextFits i (is.one ∷ is.more)

module _ {N : Type 0} where
  -- where a LF is dropped, the first text does not begin with one
  abbrev pub LfSafe : Bool → Forest N → Type 0
  LfSafe drop (tree b (text t) kids rest) = (is : IsText t) → (drop && is.one == 10) ≡ false
  LfSafe drop _ = Unit {0}

  abbrev pub is_text : What N → Bool
  is_text (text t) = true
  is_text _ = false

module _ {N : Type 0} (n : Naming N) where
  -- lists that are content of what they are in
  abbrev pub Good : Inside → Forest N → Type 0
  Good i none = Unit {0}
  Good i (tree b (element x attrs) kids rest) = (takes_role i.content (row (n.tag x)).0 ≡ true) × (is_nested i (n.tag x) ≡ false)
      × LfSafe (drops_line_feed (n.tag x)) kids × Good (inside_element (n.tag x) i) kids × Good i rest
  Good i (tree b (text t) none rest) = GoodText i t × (begins_text rest ≡ false) × Good i rest
  Good i (tree b (forest.comment t) none rest) = (takes_comments i.content ≡ true) × Good i rest
  Good i _ = ⊥

  -- the tokens of an element that is not void, and of the list after it
  pub mapped : (b : ℕ) (x : N) (attrs : List (Attribute N)) (kids rest : Forest N) → is_void (n.tag x) ≡ false
      → plain_tokens n (tree b (element x attrs) kids rest) ≡ (start x attrs false ∷ plain_tokens n kids ++ end x ∷ []) ++ plain_tokens n rest
  mapped b x attrs kids rest no_void =
      (rw no_void refl) ∙ ap (λ us. start x attrs false ∷ us) (sym (append_assoc (plain_tokens n kids) (end x ∷ []) (plain_tokens n rest)))

  pub record Quiet (context : Option N) (i : Inside) (made : ℕ) (f : Forest N) (d : OpenNode N) (up : List (OpenNode N)) (items : List (Listed N))
      (c : Control) : Type 0 where
    pub mode_is : reset_mode n context (d ∷ up) ≡ c.mode
    pub mode_fits : fits_mode i.content c.mode ≡ true
    pub current_fits : fits_current i.content i.texts (n.tag d.name) ≡ true
    pub once : times d.node f ≡ 1
    pub fresh : (m : ℕ) → made ≤ m → times m f ≡ 0
    pub lower : AllLower made (d ∷ up)
    pub entries_lower : EntriesLower made items
    pub listed : EntriesOpen (d ∷ up) items
    pub no_p : closes_p i.content ≡ true → in_scope (stops_in_scope n.tag scope.Button) (is n tag.P) (d ∷ up) ≡ false
    pub no_button : i.in_button ≡ false → in_scope (stops_in_scope n.tag scope.Default) (is n tag.Button) (d ∷ up) ≡ false
    pub no_a : i.in_a ≡ false → (y : N) → is_a (n.tag y) ≡ true → find_entry n.same y items ≡ None
    pub no_form : i.in_form ≡ false → c.form ≡ None

  -- what the content is decides which modes and current nodes fit
  module _ {context : Option N} {i : Inside} {made : ℕ} {f : Forest N} {d : OpenNode N} {up : List (OpenNode N)} {items : List (Listed N)} {c : Control}
      (q : Quiet context i made f d up items c) (k : Content) (e : i.content ≡ k) where
    mode_in : fits_mode k c.mode ≡ true
    mode_in = ap (λ u. fits_mode u c.mode) (sym e) ∙ q.mode_fits

    current_in : fits_current k i.texts (n.tag d.name) ≡ true
    current_in = ap (λ u. fits_current u i.texts (n.tag d.name)) (sym e) ∙ q.current_fits

module _ {N : Type 0} (n : Naming N) (laws : NameLaws n) (z : State N) where
  -- a state that acts as the quiet one after a list
  pub record Built (l : Forest N) (made : ℕ) (f : Forest N) (d : OpenNode N) (up : List (OpenNode N)) (items : List (Listed N)) (c : Control)
      (s : State N) : Type 0 where
    pub items' : List (Listed N)
    pub control' : Control
    pub acts : ActsAs n s (state z (made + size l) (under d.node (numbered_forest made l) f) (d ∷ up) items' control')
    pub thinned : Thinned items items'
    pub keeps : Keeps c control'

  -- the same after a node: it is the quiet one, unless white space waits
  pub record NodeBuilt (b : ℕ) (w : What N) (kids : Forest N) (made : ℕ) (f : Forest N) (d : OpenNode N) (up : List (OpenNode N)) (items : List (Listed N))
      (c : Control) (s : State N) : Type 0 where
    pub built : Built (tree b w kids none) made f d up items c s
    pub no_drop : built.control'.drop_lf ≡ false
    pub exact : is_text w ≡ false
        → s ≡ state z (made + (1 + (size kids + 0))) (under d.node (numbered_forest made (tree b w kids none)) f) (d ∷ up) built.items' built.control'

  later : (i : Inside) (l : Forest N) (made : ℕ) (f : Forest N) (d : OpenNode N) (up : List (OpenNode N)) (items items' : List (Listed N)) (c c' : Control)
      → Quiet n z.context i made f d up items c → Thinned items items' → Keeps c c'
      → Quiet n z.context i (made + size l) (under d.node (numbered_forest made l) f) d up items' c'
  later i l made f d up items items' c c' q t k = let low : d.node < made = q.lower.0 in
      record {
        mode_is = q.mode_is ∙ sym k.mode;
        mode_fits = ap (fits_mode i.content) k.mode ∙ q.mode_fits;
        current_fits = q.current_fits;
        once = once-grown d.node made l f q.once low;
        fresh = λ m h. free-grown d.node made m l f q.once (q.fresh m (omega arith)) h;
        lower = lower-more made (made + size l) (d ∷ up) (omega arith) q.lower;
        entries_lower = entries-more made (made + size l) items' (omega arith) (lower-thinned made t q.entries_lower);
        listed = open-thinned (d ∷ up) t q.listed;
        no_p = q.no_p;
        no_button = q.no_button;
        no_a = λ h y e. find-thinned n.same y t (q.no_a h y e);
        no_form = λ h. k.form ∙ q.no_form h;
      }

  -- TOKENS FROM A STATE THAT ACTS AS ANOTHER

  char_step : {at ch : ℕ} {s s' : State N} → (s.control.drop_lf && ch == 10) ≡ false → Rule n at (character ch) (step_begun s) ≡ Done s'
      → Step n at (character ch) s (Goes s')
  char_step stays rule = goes stays (ends rule)

  pub itself : (s : State N) → ActsAs n s s
  itself s at t o h chain = chain

  -- a node after which the state stands as the law says
  as_it_stands : {b : ℕ} {w : What N} {kids : Forest N} {made : ℕ} {f : Forest N} {d : OpenNode N} {up : List (OpenNode N)} {items items' : List (Listed N)}
      {c c' : Control} → Thinned items items' → Keeps c c' → c'.drop_lf ≡ false → NodeBuilt b w kids made f d up items c
      (state z (made + (1 + (size kids + 0))) (under d.node (numbered_forest made (tree b w kids none)) f) (d ∷ up) items' c')
  as_it_stands {items' = items'} {c' = c'} t k drop = record
      { built = record { items' = items'; control' = c'; acts = λ at t o e chain. chain; thinned = t; keeps = k }; no_drop = drop; exact = λ e. refl }

  -- COMMENTS

  comment_built : {i : Inside} {b : ℕ} {t : List ℕ} {made : ℕ} {f : Forest N} {d : OpenNode N} {up : List (OpenNode N)} {items : List (Listed N)} {c : Control}
      {s : State N} → Quiet n z.context i made f d up items c → ActsAs n s (state z made f (d ∷ up) items c) → made < z.site.nodes.limit
      → Leads n (comment t ∷ []) s (NodeBuilt b (forest.comment t) none made f d up items c)
  comment_built {i} {b} {t} {made} {f} {d} {up} {items} {c} {s} q acts room =
      let full : nat_le z.site.nodes.limit made ≡ false = lt-leb z.site.nodes.limit made room in
      let s0 : State N = state z made f (d ∷ up) items (begun_control c) in
      let s1 : State N = state z (made + 1) (under d.node (tree made (forest.comment t) none none) f) (d ∷ up) items (begun_control c) in
      let rule : (at : ℕ) → Rule n at (comment t) s0 ≡ Done s1 = λ at. ap (λ r. perform n at (comment t) r s0) (comment_rule i.content c.mode q.mode_fits)
      ∙ simp (full, graft-new d.node made (forest.comment t) f (q.fresh made (omega arith))) refl in
      token_then (λ at. (s1, goes refl (acts at (comment t) (Goes s1) refl (ends (rule at))), no_token (as_it_stands same (begun_keeps c) refl)))

  -- TEXTS

  -- characters, each of which leads from what was read before it to that and itself
  chars_read : {A : Type 0} (ok : ℕ → Bool) (next : A → Placed → A) (S : A → State N)
      → ((a : A) (p : Placed) → ok p.ch ≡ true → Step n p.at (character p.ch) (S a) (Goes (S (next a p)))) → (a : A) (chs : List ℕ) → list_all ok chs ≡ true
      → Leads n (map (λ ch. character ch) chs) (S a) (λ s. (ps : List Placed) × (map (λ p. p.ch) ps ≡ chs) × (s ≡ S (all_read next a ps)))
  chars_read ok next S each a [] oks = no_token ([], refl, refl)
  chars_read ok next S each a (ch ∷ chs) oks = let both = and_parts (ok ch) (list_all ok chs) oks in
      token_then (λ at. let new : Placed = record { ch = ch; at = at } in
      (S (next a new), each a new both.0, so (chars_read ok next S each (next a new) chs both.1) (λ s k. (new ∷ k.0, ap (λ l. ch ∷ l) k.1, k.2))))

  -- a text, where each of its characters goes in by one rule
  pub text_built : {d : OpenNode N} {up : List (OpenNode N)} {items : List (Listed N)} {m : Mode} {ok : ℕ → Bool} {made : ℕ} {f : Forest N} {t : List ℕ}
      {c : Control} {P : State N → Type 0} → rules.Puts n z d up items m ok → times d.node f ≡ 1 → times made f ≡ 0 → (is : IsText t) → c.mode ≡ m
      → (c.drop_lf && is.one == 10) ≡ false → list_all ok (is.one ∷ is.more) ≡ true → text_before (LastIn d.node) f ≡ None → made < z.site.nodes.limit
      → P (state z (made + 1) (under d.node (tree made (text t) none none) f) (d ∷ up) items (begun_control c))
      → Leads n (map (λ ch. character ch) (chars t)) (state z made f (d ∷ up) items c) P
  text_built {d} {up} {items} {m} {ok} {made} {f} {t} {c} {P} puts once absent is mode safe oks none_before room there =
      let both = and_parts (ok is.one) (list_all ok is.more) oks in let s : State N = state z made f (d ∷ up) items c in
      let with_text : List ℕ → State N = λ u. state z (made + 1) (under d.node (tree made (text u) none none) f) (d ∷ up) items (begun_control c) in
      subst (λ (chs : List ℕ). Leads n (map (λ ch. character ch) chs) s P) (sym is.mapped) (token_then (λ at. (
        with_text (encode_utf8 is.one),
        char_step safe (puts at is.one made f (begun_control c) (with_text (encode_utf8 is.one)) mode both.0
            (rules.put_first n z d up items at is.one made f (begun_control c) none_before absent room)),
        so (chars_read ok then_char with_text
            (λ u q fine. char_step refl (puts q.at q.ch (made + 1) (under d.node (tree made (text u) none none) f) (begun_control c)
            (with_text (u ++ encode_utf8 q.ch)) mode fine (rules.put_next n z d up items q.at q.ch (made + 1) made u f (begun_control c) once absent)))
            (encode_utf8 is.one) is.more both.1)
            (λ s' k. subst P (sym (k.2 ∙ ap with_text (text_read (encode_utf8 is.one) k.0 ∙ ap (λ l. encode_utf8_all (is.one ∷ l)) k.1 ∙ is.bytes))) there),
      )))

  other_kind : (t : Token N) → is_character_token t ≡ false → rules.is_other (kind_of n t) ≡ true
  other_kind (character ch) h = cc
  other_kind _ h = refl

  -- ELEMENTS

  -- what the end tag of an element does, after its children
  record Closing (x : N) (made : ℕ) (d : OpenNode N) (up : List (OpenNode N)) (items : List (Listed N)) (c : Control) (items2 : List (Listed N))
      (c2 : Control) : Type 0 where
    pub items3 : List (Listed N)
    pub control3 : Control
    pub thins : Thinned items items3
    pub keeps : Keeps c control3
    pub no_drop : control3.drop_lf ≡ false
    pub rule : (at m : ℕ) (f : Forest N)
        → Rule n at (end x) (state z m f (node made x ∷ d ∷ up) items2 (begun_control c2)) ≡ Done (state z m f (d ∷ up) items3 control3)

  -- the same, where the tag's rule leaves this list, this mode and this form pointer
  closes : {x : N} {made : ℕ} {d : OpenNode N} {up : List (OpenNode N)} {items items2 : List (Listed N)} {c c2 : Control} (items3 : List (Listed N))
      (mode : Mode) (form : Option ℕ) → Thinned items items3 → mode ≡ c.mode → c2.head ≡ c.head → form ≡ c.form → c2.quirks ≡ c.quirks
      → ((at m : ℕ) (f : Forest N) → Rule n at (end x) (state z m f (node made x ∷ d ∷ up) items2 (begun_control c2))
      ≡ Done (state z m f (d ∷ up) items3 (record (begun_control c2) { mode = mode; form = form }))) → Closing x made d up items c items2 c2
  closes {c2 = c2} items3 mode form t m h fo qu rule = let control3 : Control = record (begun_control c2) { mode = mode; form = form } in
      let keeps : Keeps _ control3 = record { mode = m; head = h; form = fo; quirks = qu } in
      record { items3 = items3; control3 = control3; thins = t; keeps = keeps; no_drop = refl; rule = rule }

  module _ (b : ℕ) (x : N) (attrs : List (Attribute N)) (kids : Forest N) (made : ℕ) (f : Forest N) (d : OpenNode N) (up : List (OpenNode N))
      (items items1 : List (Listed N)) (c c1 : Control) (s : State N) (absent : times made f ≡ 0) (from : ActsAs n s (state z made f (d ∷ up) items c))
      (opening : (at : ℕ) → Rule n at (start x attrs false) (state z made f (d ∷ up) items (begun_control c))
      ≡ Done (state z (made + 1) (under d.node (tree made (element x attrs) none none) f) (node made x ∷ d ∷ up) items1 c1)) where
    finish : Leads n (plain_tokens n kids) (state z (made + 1) (under d.node (tree made (element x attrs) none none) f) (node made x ∷ d ∷ up) items1 c1)
        (λ s'. (k : Built kids (made + 1) (under d.node (tree made (element x attrs) none none) f) (node made x) (d ∷ up) items1 c1 s')
        × Closing x made d up items c k.items' k.control')
        → Leads n (start x attrs false ∷ plain_tokens n kids ++ end x ∷ []) s (NodeBuilt b (element x attrs) kids made f d up items c)
    finish inner = let s1 : State N = state z (made + 1) (under d.node (tree made (element x attrs) none none) f) (node made x ∷ d ∷ up) items1 c1 in
        let m : ℕ = made + (1 + (size kids + 0)) in
        let g : Forest N = under d.node (numbered_forest made (tree b (element x attrs) kids none)) f in
        let grown : under made (numbered_forest (made + 1) kids) (under d.node (tree made (element x attrs) none none) f) ≡ g =
        under-new d.node made (element x attrs) none (numbered_forest (made + 1) kids) f absent in
        let count : made + 1 + size kids ≡ m = omega arith in
        token_then (λ at. (
          s1,
          goes refl (from at (start x attrs false) (Goes s1) refl (ends (opening at))),
          tokens_then inner (λ s' i. token_then (λ at. let close = i.1 in let s3 : State N = state z m g (d ∷ up) close.items3 close.control3 in
              let acts : ActsAs n s' (state z m g (node made x ∷ d ∷ up) i.0.items' i.0.control') =
              subst (ActsAs n s') (λ j. state z (count j) (grown j) (node made x ∷ d ∷ up) i.0.items' i.0.control') i.0.acts in
              (s3, goes refl (acts at (end x) (Goes s3) refl (ends (close.rule at m g))), no_token (as_it_stands close.thins close.keeps close.no_drop)))),
        ))

  built_none : {made : ℕ} {f : Forest N} {d : OpenNode N} {up : List (OpenNode N)} {items : List (Listed N)} {c : Control} {s : State N}
      → ActsAs n s (state z made f (d ∷ up) items c) → Built none made f d up items c s
  built_none {made} {f} {d} {up} {items} {c} {s} from = let count : made ≡ made + 0 = omega arith in
      let acts : ActsAs n s (state z (made + 0) (under d.node none f) (d ∷ up) items c) =
      subst (ActsAs n s) (λ i. state z (count i) (sym (under-none d.node f) i) (d ∷ up) items c) from in
      record { items' = items; control' = c; acts = acts; thinned = same; keeps = record { mode = refl; head = refl; form = refl; quirks = refl } }

  -- a list in which one text is at most
  pub data OneText (l : Forest N) : Type 0 where
    nothing_there : l ≡ none → OneText l
    one_text : (b : ℕ) (u : List ℕ) → IsText u → l ≡ tree b (text u) none none → OneText l

  pub raw_kids : (i : Inside) (l : Forest N) → takes_comments i.content ≡ false → ((r : Role) → takes_role i.content r ≡ false) → Good n i l → OneText l
  raw_kids i none c r g = nothing_there refl
  raw_kids i (tree b (element x attrs) kids rest) c r g = absurd (let h = r (row (n.tag x)).0 in let k = g.0 in cc)
  raw_kids i (tree b (forest.comment t) none rest) c r g = absurd (let k = g.0 in cc)
  raw_kids i (tree b (text t) none rest) c r g = go (raw_kids i rest c r g.2) g.1 where
    go : OneText rest → begins_text rest ≡ false → OneText (tree b (text t) none rest)
    go (nothing_there e) h = one_text b t g.0.is (ap (tree b (text t) none) e)
    go (one_text b' u is e) h = absurd (let z = ap begins_text e in cc)
  raw_kids i _ c r g = absurd g

  -- a text that is read raw, or none
  module _ (made : ℕ) (f : Forest N) (d : OpenNode N) (up : List (OpenNode N)) (items : List (Listed N)) (c : Control) (once : times d.node f ≡ 1)
      (absent : times made f ≡ 0) (is_text_mode : c.mode ≡ Text) (none_before : text_before (LastIn d.node) f ≡ None) where
    abbrev Raw : Forest N → Type 0
    Raw l = LfSafe c.drop_lf l → made + size l ≤ z.site.nodes.limit
        → Leads n (plain_tokens n l) (state z made f (d ∷ up) items c) (λ s. (k : Built l made f d up items c s) × (k.control'.saved ≡ c.saved))

    raw_built : (l : Forest N) → OneText l → Raw l
    unfolding built_none
    raw_built l (nothing_there e) = subst (λ (v : Forest N). Raw v) (sym e) (λ safe room.
        no_token (built_none (itself (state z made f (d ∷ up) items c)), refl))
    raw_built l (one_text b u is e) = subst (λ (v : Forest N). Raw v) (sym e)
        (λ safe room ts h. text_built (rules.raw_puts n z d up items) once absent is is_text_mode (safe is) is.clean none_before (omega arith)
        (record { items' = items; control' = begun_control c; acts = λ at t o e chain. chain; thinned = same; keeps = begun_keeps c }, refl) ts
        (h ∙ append-nil (map (λ ch. character ch) (chars u))))

  -- an element that holds one
  module _ (b : ℕ) (x : N) (attrs : List (Attribute N)) (made : ℕ) (f : Forest N) (d : OpenNode N) (up : List (OpenNode N)) (items : List (Listed N))
      (c c1 : Control) (s : State N) (once : times d.node f ≡ 1) (fresh : (m : ℕ) → made ≤ m → times m f ≡ 0)
      (from : ActsAs n s (state z made f (d ∷ up) items c))
      (opening : (at : ℕ) → Rule n at (start x attrs false) (state z made f (d ∷ up) items (begun_control c))
      ≡ Done (state z (made + 1) (under d.node (tree made (element x attrs) none none) f) (node made x ∷ d ∷ up) items c1)) (is_text_mode : c1.mode ≡ Text)
      (is_saved : c1.saved ≡ c.mode) (heads : c1.head ≡ c.head) (forms : c1.form ≡ c.form) (quirky : c1.quirks ≡ c.quirks) where
    pub raw_element : (kids : Forest N) → OneText kids → LfSafe c1.drop_lf kids → made + (1 + size kids) ≤ z.site.nodes.limit
        → Leads n (start x attrs false ∷ plain_tokens n kids ++ end x ∷ []) s (NodeBuilt b (element x attrs) kids made f d up items c)
    raw_element kids content safe room = let absent : times made f ≡ 0 = fresh made (omega arith) in
        finish b x attrs kids made f d up items items c c1 s absent from opening
        (so (raw_built (made + 1) (under d.node (tree made (element x attrs) none none) f) (node made x) (d ∷ up) items c1
        (once-new d.node made (element x attrs) f once absent)
        (free-grown d.node made (made + 1) (tree b (element x attrs) none none) f once (fresh (made + 1) (omega arith)) (omega arith)) is_text_mode
        (text_before-leaf d.node made (element x attrs) f once absent) kids content safe (omega arith)) (λ s' i. let k = i.0 in (
          k,
          closes k.items' k.control'.saved k.control'.form k.thinned (i.1 ∙ is_saved) (k.keeps.head ∙ heads) (k.keeps.form ∙ forms) (k.keeps.quirks ∙ quirky)
              (λ at m g. rules.by_mode n z at (end x) Text (End (family_of (n.tag x))) _ _ (k.keeps.mode ∙ is_text_mode) refl refl),
        )))

  -- THE LAW

  abbrev LawOf : Forest N → Type 0
  LawOf l = (i : Inside) (made : ℕ) (f : Forest N) (d : OpenNode N) (up : List (OpenNode N)) (items : List (Listed N)) (c : Control) (s : State N)
      → Quiet n z.context i made f d up items c → Good n i l → ActsAs n s (state z made f (d ∷ up) items c)
      → (begins_text l ≡ true → s ≡ state z made f (d ∷ up) items c) → (begins_text l ≡ true → text_before (LastIn d.node) f ≡ None) → LfSafe c.drop_lf l
      → made + size l ≤ z.site.nodes.limit → suc (length up) + depth l ≤ z.site.open_nodes.limit → Leads n (plain_tokens n l) s (Built l made f d up items c)

  marked : {xs ys : List (Listed N)} → Thinned (marker ∷ xs) ys → ys ≡ marker ∷ xs
  marked same = refl

  pub lf_none : (l : Forest N) → LfSafe false l
  lf_none (tree b (text t) kids rest) = λ is. refl
  lf_none _ = tt

  -- a list where nothing may be
  pub good-empty : (i : Inside) (l : Forest N) → i.content ≡ content.Empty → Good n i l → l ≡ none
  good-empty i none e g = refl
  good-empty i (tree b (element x attrs) kids rest) e g = absurd (let h = ap (λ k. takes_role k (row (n.tag x)).0) e in let k = g.0 in cc)
  good-empty i (tree b (text t) none rest) e g = absurd (subst (λ (k : Content). TextIn k (takes_space i.texts) (g.0.is.one ∷ g.0.is.more)) e g.0.fits)
  good-empty i (tree b (forest.comment t) none rest) e g = absurd (let h = ap takes_comments e in let k = g.0 in cc)
  good-empty i _ e g = absurd g

  -- START TAGS

  module _ (x : N) (attrs : List (Attribute N)) (i : Inside) (made : ℕ) (f : Forest N) (d : OpenNode N) (up : List (OpenNode N)) (items : List (Listed N))
      (c : Control) (s : State N) (q : Quiet n z.context i made f d up items c) (from : ActsAs n s (state z made f (d ∷ up) items c))
      (taken : takes_role i.content (row (n.tag x)).0 ≡ true) (room : made < z.site.nodes.limit) (deep : suc (length up) < z.site.open_nodes.limit) where
    abbrev now : State N
    now = state z made f (d ∷ up) items (begun_control c)

    abbrev f1 : Forest N
    f1 = under d.node (tree made (element x attrs) none none) f

    absent1 : times made f ≡ 0
    absent1 = q.fresh made (omega arith)

    -- the node is made, grafted and pushed, and no element is reconstructed
    full : nat_le z.site.nodes.limit made ≡ false
    full = lt-leb z.site.nodes.limit made room

    high : nat_le z.site.open_nodes.limit (suc (length up)) ≡ false
    high = lt-leb z.site.open_nodes.limit (suc (length up)) deep

    grown : graft_last made d.node (join f (tree made (element x attrs) none none)) ≡ f1
    grown = graft-new d.node made (element x attrs) f absent1

    none_lost : (at : ℕ) → reconstructed n at now.site ≡ Goes now.site
    none_lost at = rules.none_lost n z at made f (d ∷ up) items (begun_control c) q.listed

    abbrev Comes : State N → Type 0
    Comes s' = (at : ℕ) → Rule n at (start x attrs false) now ≡ Done s'

    -- by the class of the name
    module _ (r : Profile) (p : profile (n.tag x) ≡ r) where
      role_is : takes_role i.content r.role ≡ true
      role_is = ap (λ o. takes_role i.content o.role) (sym p) ∙ taken

      stands : has_home r.role ≡ true → i.content ≡ home r.role
      stands h = stands_in i.content r.role h role_is

      phrasing_flows : r.role ≡ role.Phrasing → is_flow_mode c.mode ≡ true
      phrasing_flows e = phrasing_mode i.content c.mode (ap (takes_role i.content) (sym e) ∙ role_is) q.mode_fits

      -- a flow element is in flow, no p is open in button scope, and the current node is no heading
      in_flow : r.role ≡ role.Flow
          → (is_flow_mode c.mode ≡ true) × (in_scope (stops_in_scope n.tag scope.Button) (is n tag.P) (d ∷ up) ≡ false) × (is_heading (n.tag d.name) ≡ false)
      in_flow e = let k : i.content ≡ content.Flow = stands_in i.content role.Flow refl (ap (takes_role i.content) (sym e) ∙ role_is) in
          (mode_in n q content.Flow k, q.no_p (ap closes_p k), not-true (is_heading (n.tag d.name)) (current_in n q content.Flow k))

      flow_start : (rule : Do) (s' : State N) → is_flow_mode c.mode ≡ true → IsFlowRule (Start r.family) rule
          → ((at : ℕ) → perform n at (start x attrs false) rule now ≡ Done s') → Comes s'
      flow_start rule s' flows h done at =
          rules.in_flow n z at (start x attrs false) (Start r.family) rule now s' flows h (ap (λ u. Start u.family) p) (done at)

      mode_start : (m : Mode) (s' : State N) → c.mode ≡ m → ((at : ℕ) → perform n at (start x attrs false) (rule_of m (Start r.family)) now ≡ Done s')
          → Comes s'
      mode_start m s' is done at = rules.by_mode n z at (start x attrs false) m (Start r.family) now s' is (ap (λ u. Start u.family) p) (done at)

    -- ELEMENTS A CLASS AT A TIME

    module _ (b : ℕ) (kids : Forest N) (law : LawOf kids) (alone : is_nested i (n.tag x) ≡ false) (lf : LfSafe (drops_line_feed (n.tag x)) kids)
        (g : Good n (inside_element (n.tag x) i) kids) (room_in : made + (1 + size kids) ≤ z.site.nodes.limit)
        (deep_in : suc (length up) + suc (depth kids) ≤ z.site.open_nodes.limit) where
      abbrev j : Inside
      j = inside_element (n.tag x) i

      abbrev Opens : List (Listed N) → Control → Type 0
      Opens items1 c1 = Comes (state z (made + 1) f1 (node made x ∷ d ∷ up) items1 c1)

      abbrev Node : Type 0
      Node = Leads n (start x attrs false ∷ plain_tokens n kids ++ end x ∷ []) s (NodeBuilt b (element x attrs) kids made f d up items c)

      -- no p is open inside it
      abbrev NoP : Type 0
      NoP = in_scope (stops_in_scope n.tag scope.Button) (is n tag.P) (node made x ∷ d ∷ up) ≡ false

      p_below : is_p (n.tag x) ≡ false → in_scope (stops_in_scope n.tag scope.Button) (is n tag.P) (d ∷ up) ≡ false → NoP
      p_below p h = grind (arith, laws.knows_p x)

      p_stopped : is_p (n.tag x) ≡ false → stops_button_scope (n.tag x) ≡ true → NoP
      p_stopped p h = rw (laws.knows_p x, p, h) refl

      -- a marker hides a button, as it stops the search for one
      no_button_in : j.in_button ≡ false → in_scope (stops_in_scope n.tag scope.Default) (is n tag.Button) (node made x ∷ d ∷ up) ≡ false
      no_button_in h = go (inserts_marker (n.tag x)) refl h where
        go : (m : Bool) → inserts_marker (n.tag x) ≡ m → ((not m && i.in_button) || is_button (n.tag x)) ≡ false
            → in_scope (stops_in_scope n.tag scope.Default) (is n tag.Button) (node made x ∷ d ∷ up) ≡ false
        go true e k = rw (laws.button x, (or_parts false (is_button (n.tag x)) k).1, (name_facts (n.tag x)).marker_stops e) refl
        go false e k = let m = or_parts i.in_button (is_button (n.tag x)) k in
            rw (laws.button x, m.1, q.no_button m.0) (and_right (not (stops_in_scope n.tag scope.Default (node made x))) false refl)

      -- what is asked of the list inside the element
      abbrev EntriesFit : List (Listed N) → Type 0
      EntriesFit items1 = EntriesOpen (node made x ∷ d ∷ up) items1 × EntriesLower (made + 1) items1

      as_before : EntriesFit items
      as_before = (open-pushed (node made x) (d ∷ up) items q.listed, entries-more made (made + 1) items (omega arith) q.entries_lower)

      abbrev NoA : List (Listed N) → Type 0
      NoA items1 = j.in_a ≡ false → (y : N) → is_a (n.tag y) ≡ true → find_entry n.same y items1 ≡ None

      anchors_same : inserts_marker (n.tag x) ≡ false → NoA items
      anchors_same m h y e = q.no_a (or_parts i.in_a (is_a (n.tag x)) (ap (λ u. (not u && i.in_a) || is_a (n.tag x)) (sym m) ∙ h)).0 y e

      forms_same : j.in_form ≡ false → c.form ≡ None
      forms_same h = q.no_form (or_parts i.in_form (is_form_element (n.tag x)) h).0

      self : n.same x x ≡ true
      self = laws.same_self x

      -- what the end tag does, in flow and in another mode
      abbrev Ends : Type 0
      Ends = (at m : ℕ) (g : Forest N) (items2 : List (Listed N)) (c2 : Control) → is_flow_mode c2.mode ≡ true
          → Rule n at (end x) (state z m g (node made x ∷ d ∷ up) items2 c2) ≡ Done (state z m g (d ∷ up) items2 c2)

      abbrev EndsIn : Mode → (List (Listed N) → List (Listed N)) → Mode → Type 0
      EndsIn mode after back = (at m : ℕ) (g : Forest N) (items2 : List (Listed N)) (c2 : Control) → c2.mode ≡ mode
          → Rule n at (end x) (state z m g (node made x ∷ d ∷ up) items2 c2) ≡ Done (state z m g (d ∷ up) (after items2) (record c2 { mode = back }))

      module _ (r : Profile) (p : profile (n.tag x) ≡ r) where
        stays : has_implied_end (n.tag x) ≡ r.has_implied_end
        stays = ap (λ u. u.has_implied_end) p

        flow_end : (rule : Do) (s s' : State N) (at : ℕ) → IsFlowRule (End r.family) rule → is_flow_mode s.control.mode ≡ true
            → perform n at (end x) rule s ≡ Done s' → Rule n at (end x) s ≡ Done s'
        flow_end rule s s' at h flows done = rules.in_flow n z at (end x) (End r.family) rule s s' flows h (ap (λ u. End u.family) p) done

        flow_ends : (rule : Do) → IsFlowRule (End r.family) rule → ((at m : ℕ) (g : Forest N) (items2 : List (Listed N)) (c2 : Control)
            → perform n at (end x) rule (state z m g (node made x ∷ d ∷ up) items2 c2) ≡ Done (state z m g (d ∷ up) items2 c2)) → Ends
        flow_ends rule h done at m g items2 c2 flows = flow_end rule _ _ at h flows (done at m g items2 c2)

        mode_ends : (mode : Mode) (after : List (Listed N) → List (Listed N)) (back : Mode)
            → ((at m : ℕ) (g : Forest N) (items2 : List (Listed N)) (c2 : Control) → perform n at (end x) (rule_of mode (End r.family))
            (state z m g (node made x ∷ d ∷ up) items2 c2) ≡ Done (state z m g (d ∷ up) (after items2) (record c2 { mode = back })))
            → EndsIn mode after back
        mode_ends mode after back done at m g items2 c2 is =
            rules.by_mode n z at (end x) mode (End r.family) _ _ is (ap (λ u. End u.family) p) (done at m g items2 c2)

        -- an element whose children are built by the law, from this list and this control on
        by_law : (k : Content) → content_within i.content r.content ≡ k → (items1 : List (Listed N)) (c1 : Control)
            → unwrap_or r.mode (reset_mode n z.context (d ∷ up)) ≡ c1.mode → fits_mode k c1.mode ≡ true → fits_current k (texts_in k) (n.tag x) ≡ true
            → r.drops ≡ c1.drop_lf → EntriesFit items1 → (closes_p k ≡ true → NoP) → NoA items1 → (j.in_form ≡ false → c1.form ≡ None) → Opens items1 c1
            → ((items2 : List (Listed N)) (c2 : Control) → Thinned items1 items2 → Keeps c1 c2 → Closing x made d up items c items2 c2) → Node
        by_law k within items1 c1 mode fits cur drop fit pp anchors forms opening closing =
            let o : j.content ≡ k = ap (λ u. content_within i.content u.content) p ∙ within in
            let q1 : Quiet n z.context j (made + 1) f1 (node made x) (d ∷ up) items1 c1 = record {
              mode_is = ap (λ u. unwrap_or u.mode (reset_mode n z.context (d ∷ up))) p ∙ mode;
              mode_fits = ap (λ u. fits_mode u c1.mode) o ∙ fits;
              current_fits = ap (λ u. fits_current u (texts_in u) (n.tag x)) o ∙ cur;
              once = once-new d.node made (element x attrs) f q.once absent1;
              fresh = λ m h. free-grown d.node made m (tree b (element x attrs) none none) f q.once (q.fresh m (omega arith)) h;
              lower = (omega arith, lower-more made (made + 1) (d ∷ up) (omega arith) q.lower);
              entries_lower = fit.1;
              listed = fit.0;
              no_p = λ e. pp (ap closes_p (sym o) ∙ e);
              no_button = no_button_in;
              no_a = anchors;
              no_form = forms;
            } in
            let s1 : State N = state z (made + 1) f1 (node made x ∷ d ∷ up) items1 c1 in
            let safe : LfSafe c1.drop_lf kids = subst (λ (v : Bool). LfSafe v kids) (ap (λ u. u.drops) p ∙ drop) lf in
            finish b x attrs kids made f d up items items1 c c1 s absent1 from opening
            (so (law j (made + 1) f1 (node made x) (d ∷ up) items1 c1 s1 q1 g (itself s1) (λ e. refl)
            (λ e. text_before-leaf d.node made (element x attrs) f q.once absent1) safe (omega arith) (omega arith))
            (λ s' k. (k, closing k.items' k.control' k.thinned k.keeps)))

        -- an element in flow that changes neither the list nor the control, but for a LF that is dropped after its start tag
        own : (k : Content) → content_within i.content r.content ≡ k → is_flow_mode c.mode ≡ true → fits_mode k c.mode ≡ true
            → fits_current k (texts_in k) (n.tag x) ≡ true → r.mode ≡ None → r.marks ≡ false → (closes_p k ≡ true → NoP)
            → Opens items (record (begun_control c) { drop_lf = r.drops }) → Ends → Node
        own k within flows fits cur mode marks pp opening ends_so =
            by_law k within items (record (begun_control c) { drop_lf = r.drops }) (ap (λ o. unwrap_or o (reset_mode n z.context (d ∷ up))) mode ∙ q.mode_is)
            fits cur refl as_before pp (anchors_same (ap (λ u. u.marks) p ∙ marks)) forms_same opening (λ items2 c2 t k.
            closes items2 c2.mode c2.form t k.mode k.head k.form k.quirks (λ at m g. ends_so at m g items2 (begun_control c2) (ap is_flow_mode k.mode ∙ flows)))

        -- a table and its parts: a mode of their own inside, and the mode that was after them
        in_parts : (k : Content) (m back : Mode) → content_within i.content r.content ≡ k → r.mode ≡ Some m → r.marks ≡ false → r.drops ≡ false
            → fits_mode k m ≡ true → fits_current k (texts_in k) (n.tag x) ≡ true → closes_p k ≡ false → back ≡ c.mode
            → Opens items (record (begun_control c) { mode = m }) → EndsIn m (λ l. l) back → Node
        in_parts k m back within mode marks drop fits cur open_p was opening ends_so =
            by_law k within items (record (begun_control c) { mode = m }) (ap (λ o. unwrap_or o (reset_mode n z.context (d ∷ up))) mode) fits cur drop as_before
            (λ e. absurd (false≢true (sym open_p ∙ e))) (anchors_same (ap (λ u. u.marks) p ∙ marks)) forms_same opening
            (λ items2 c2 t k. closes items2 back c2.form t was k.head k.form k.quirks (λ at m g. ends_so at m g items2 (begun_control c2) k.mode))

        -- a caption, a cell and an object: flow content after a marker, after which the list is as it was
        marking : (m back : Mode) → content_within i.content r.content ≡ content.Flow → unwrap_or r.mode (reset_mode n z.context (d ∷ up)) ≡ m
            → is_flow_mode m ≡ true → r.is_heading ≡ false → r.is_p ≡ false → r.stops_button ≡ true → r.drops ≡ false → back ≡ c.mode
            → Opens (marker ∷ items) (record (begun_control c) { mode = m }) → EndsIn m cleared back → Node
        marking m back within mode flows no_heading no_p stops_it drop was opening ends_so =
            by_law content.Flow within (marker ∷ items) (record (begun_control c) { mode = m }) mode flows (ap (λ u. not u.is_heading) p ∙ ap not no_heading)
            drop (tt, as_before.1) (λ h. p_stopped (ap (λ u. u.is_p) p ∙ no_p) (ap (λ u. u.stops_button) p ∙ stops_it)) (λ h y e. refl) forms_same opening
            (λ items2 c2 t k. closes (cleared items2) back c2.form (subst (λ (l : List (Listed N)). Thinned items l) (sym (ap cleared (marked t))) same) was
            k.head k.form k.quirks (λ at m g. ends_so at m g items2 (begun_control c2) k.mode))

      -- blocks, and lists
      a_block : (k : Content) (lists dls : Bool) → profile (n.tag x) ≡ record (plain_profile family.Block role.Flow k) { holds_list_items = lists; is_dl = dls }
          → content_within i.content k ≡ k → ((m : Mode) → fits_mode k m ≡ is_flow_mode m) → fits_current k (texts_in k) (n.tag x) ≡ true → Node
      a_block k lists dls p within fit cur = let flow = in_flow _ p refl in
          own _ p k within flow.0 (fit c.mode ∙ flow.0) cur refl refl (λ h. p_below (ap (λ r. r.is_p) p) flow.1)
          (flow_start _ p block _ flow.0 (refl, refl, refl) (λ at. simp (flow.1, full, high, grown) refl))
          (flow_ends _ p close_block (refl, refl, refl) (λ at m g items2 c2. simp (self, stays _ p) refl))

      -- PHRASING ELEMENTS: WHAT IS AROUND ONE MAY BE IN IT

      around_current : (w : Family) (a button : Bool) → profile (n.tag x) ≡ around w a button → fits_current i.content (texts_in i.content) (n.tag x) ≡ true
      around_current w a button p = around_fits i.content (n.tag x) (role_is _ p) (ap (λ r. r.is_heading) p)

      p_around : (w : Family) (a button : Bool) → profile (n.tag x) ≡ around w a button → closes_p i.content ≡ true → NoP
      p_around w a button p h = p_below (ap (λ r. r.is_p) p) (q.no_p h)

      -- formatting elements have an entry
      abbrev new : EntryOf N
      new = record { node = made; name = x; attrs = attrs }

      roomy : Thinned items (with_room n.same new items)
      roomy = thinned-room n.same new items

      unlisted : (l : List (Listed N)) → Thinned (with_room n.same new items) l → (entry_of made l ≡ None) × (without_entry made l ≡ l)
      unlisted l t = no-entry made l (lower-thinned made (then roomy t) q.entries_lower)

      module _ (w : Family) (a : Bool) (p : profile (n.tag x) ≡ around w a false) (adopts : IsFlowRule (End w) (by_end family.A)) where
        formatting_closing : (items2 : List (Listed N)) (c2 : Control) → Thinned (entry new ∷ with_room n.same new items) items2 → Keeps (begun_control c) c2
            → Closing x made d up items c items2 c2
        formatting_closing items2 c2 t k = go t where
          flows : is_flow_mode c2.mode ≡ true
          flows = ap is_flow_mode k.mode ∙ phrasing_flows _ p refl

          listed_case : (l : List (Listed N)) → Thinned (with_room n.same new items) l → Closing x made d up items c (entry new ∷ l) c2
          listed_case l u = let gone : without_entry made l ≡ l = (unlisted l u).1 in
              closes l c2.mode c2.form (then roomy u) k.mode k.head k.form k.quirks
              (λ at m g. flow_end _ p (by_end family.A) _ _ at adopts flows (simp (self, eq-eqb made made refl, gone) refl))

          go : {l : List (Listed N)} → Thinned (entry new ∷ with_room n.same new items) l → Closing x made d up items c l c2
          go same = listed_case (with_room n.same new items) same
          go (kept u) = listed_case _ u
          go (lost {ys = l} u) = let gone : entry_of made l ≡ None = (unlisted l u).0 in
              closes l c2.mode c2.form (then roomy u) k.mode k.head k.form k.quirks
              (λ at m g. flow_end _ p (by_end family.A) _ _ at adopts flows (simp (self, gone) refl))

        formatting : NoA (entry new ∷ with_room n.same new items) → Opens (entry new ∷ with_room n.same new items) (begun_control c) → Node
        formatting anchors opening = let still_open = open-pushed (node made x) (d ∷ up) (with_room n.same new items) (open-thinned (d ∷ up) roomy q.listed) in
            by_law _ p i.content refl (entry new ∷ with_room n.same new items) (begun_control c) q.mode_is q.mode_fits (around_current w a false p) refl
            ((rw (eq-eqb made made refl) refl, still_open), (omega arith, lower-thinned (made + 1) roomy as_before.1)) (p_around w a false p) anchors forms_same
            opening formatting_closing

      -- RAW TEXTS: title, textarea, style, script and iframe

      abbrev raw_control : Bool → Control
      raw_control drops = record (begun_control c) { saved = c.mode; mode = Text; drop_lf = drops }

      a_raw : (w : Family) (k : Content) (drops : Bool) → profile (n.tag x) ≡ record (plain_profile w role.Phrasing k) { drops = drops }
          → content_within i.content k ≡ k → takes_comments k ≡ false → ((r : Role) → takes_role k r ≡ false) → Opens items (raw_control drops) → Node
      a_raw w k drops p within no_comments no_elements opens = raw_element b x attrs made f d up items c (raw_control drops) s q.once q.fresh from opens refl
          refl refl refl refl kids (raw_kids j kids (ap takes_comments o ∙ no_comments) (λ r. ap (λ u. takes_role u r) o ∙ no_elements r) g)
          (subst (λ (v : Bool). LfSafe v kids) (ap (λ r. r.drops) p) lf) room_in where
            o : j.content ≡ k
            o = ap (λ u. content_within i.content u.content) p ∙ within

      a_raw_element : (w : Family) (k : Content) → IsFlowRule (Start w) raw → profile (n.tag x) ≡ plain_profile w role.Phrasing k
          → content_within i.content k ≡ k → takes_comments k ≡ false → ((r : Role) → takes_role k r ≡ false) → Node
      a_raw_element w k rule p within no_comments no_elements =
          a_raw w k false p within no_comments no_elements (flow_start _ p raw _ (phrasing_flows _ p refl) rule (λ at. simp (full, high, grown) refl))

      -- the parts of a table are in it
      in_table : i.content ≡ content.TableParts → (c.mode ≡ InTable) × (is_table_context (n.tag d.name) ≡ true)
      in_table e =
          ((own_mode c.mode).parts (mode_in n q content.TableParts e), (and_parts (is_table_context (n.tag d.name)) _ (current_in n q content.TableParts e)).0)

      of_class : (w : Family) (k : Content) → profile (n.tag x) ≡ class_profile w k → is_void (n.tag x) ≡ false → Node
      of_class family.Block content.ListItems p plain = a_block content.ListItems true false p refl (λ m. refl) (ap (λ r. r.holds_list_items) p)
      of_class family.Block content.Definitions p plain = a_block content.Definitions false true p refl (λ m. refl) (ap (λ r. r.is_dl) p)
      of_class family.Block _ p plain = a_block content.Flow false false p refl (λ m. refl) (ap (λ r. not r.is_heading) p)
      of_class family.Title k p plain = a_raw_element family.Title content.Text (refl, refl, refl) p refl refl (λ r. refl)
      of_class family.Style k p plain = a_raw_element family.Style content.RawText (refl, refl, refl) p refl refl (λ r. refl)
      of_class family.Script k p plain = a_raw_element family.Script content.ScriptText (refl, refl, refl) p refl refl (λ r. refl)
      of_class family.Iframe k p plain = a_raw_element family.Iframe content.RawText (refl, refl, refl) p refl refl (λ r. refl)
      of_class family.Textarea k p plain = a_raw family.Textarea content.Text true p refl refl (λ r. refl)
          (flow_start _ p (by_start family.Textarea) _ (phrasing_flows _ p refl) (refl, refl, refl) (λ at. simp (full, high, grown) refl))
      of_class family.P k p plain = let flow = in_flow _ p refl in let known : n.same x (n.known tag.P) ≡ true = laws.knows_p x ∙ ap (λ r. r.is_p) p in
          own _ p content.Phrasing refl flow.0 flow.0 refl refl refl (λ h. absurd (false≢true h))
          (flow_start _ p block _ flow.0 (refl, refl, refl) (λ at. simp (flow.1, full, high, grown) refl))
          (flow_ends _ p (by_end family.P) (refl, refl, refl) (λ at m g items2 c2. simp (known, stays _ p) refl))
      of_class family.Heading k p plain = let flow = in_flow _ p refl in let heading : is_heading (n.tag x) ≡ true = ap (λ r. r.is_heading) p in
          own _ p content.Phrasing refl flow.0 flow.0 refl refl refl (λ h. absurd (false≢true h))
          (flow_start _ p (by_start family.Heading) _ flow.0 (refl, refl, refl) (λ at. simp (flow.1, flow.2, full, high, grown) refl))
          (flow_ends _ p (by_end family.Heading) (refl, refl, refl) (λ at m g items2 c2. simp (heading, self, stays _ p) refl))
      of_class family.Li k p plain = let e : i.content ≡ content.ListItems = stands _ p refl in
          let flows : is_flow_mode c.mode ≡ true = mode_in n q content.ListItems e in
          let within : holds_list_items (n.tag d.name) ≡ true = current_in n q content.ListItems e in
          let no_p = q.no_p (ap closes_p e) in
          let no_li : in_scope (λ y. stops_item (n.tag y.name)) (is n tag.Li) (d ∷ up) ≡ false =
          rw (laws.li d.name within, (name_facts (n.tag d.name)).list_stops within) refl in
          own _ p content.Flow refl flows flows (ap (λ r. not r.is_heading) p) refl refl (λ h. p_below (ap (λ r. r.is_p) p) no_p)
          (flow_start _ p (by_start family.Li) _ flows (refl, refl, refl) (λ at. simp (no_li, no_p, full, high, grown) refl))
          (flow_ends _ p (end_item scope.ListItem) (refl, refl, refl) (λ at m g items2 c2. grind (arith, self)))
      of_class family.Dd k p plain = let e : i.content ≡ content.Definitions = stands _ p refl in
          let flows : is_flow_mode c.mode ≡ true = mode_in n q content.Definitions e in
          let within : is_dl (n.tag d.name) ≡ true = current_in n q content.Definitions e in
          let no_p = q.no_p (ap closes_p e) in
          let no_dd : in_scope (λ y. stops_item (n.tag y.name)) (is n tag.Dd) (d ∷ up) ≡ false =
          rw (laws.dd d.name within, (name_facts (n.tag d.name)).dl_stops within) refl in
          let no_dt : in_scope (λ y. stops_item (n.tag y.name)) (is n tag.Dt) (d ∷ up) ≡ false =
          rw (laws.dt d.name within, (name_facts (n.tag d.name)).dl_stops within) refl in
          own _ p content.Flow refl flows flows (ap (λ r. not r.is_heading) p) refl refl (λ h. p_below (ap (λ r. r.is_p) p) no_p)
          (flow_start _ p (by_start family.Dd) _ flows (refl, refl, refl) (λ at. simp (no_dd, no_dt, no_p, full, high, grown) refl))
          (flow_ends _ p (end_item scope.Default) (refl, refl, refl) (λ at m g items2 c2. grind (arith, self)))
      of_class family.Pre k p plain = let flow = in_flow _ p refl in
          own _ p content.Phrasing refl flow.0 flow.0 refl refl refl (λ h. absurd (false≢true h))
          (flow_start _ p (by_start family.Pre) _ flow.0 (refl, refl, refl) (λ at. simp (flow.1, full, high, grown) refl))
          (flow_ends _ p close_block (refl, refl, refl) (λ at m g items2 c2. simp (self, stays _ p) refl))
      of_class family.Form k p plain = let flow = in_flow _ p refl in let formed : is_form_element (n.tag x) ≡ true = ap (λ r. r.is_form_element) p in
          let no_form : c.form ≡ None = q.no_form (sym ((name_facts (n.tag x)).nested_form i formed) ∙ alone) in
          by_law _ p content.Flow refl items (record (begun_control c) { form = Some made }) q.mode_is flow.0 (ap (λ r. not r.is_heading) p) refl as_before
          (λ h. p_below (ap (λ r. r.is_p) p) flow.1) (anchors_same (ap (λ r. r.marks) p))
          (λ h. absurd (let y = (or_parts i.in_form (is_form_element (n.tag x)) h).1 in cc))
          (flow_start _ p (by_start family.Form) _ flow.0 (refl, refl, refl) (λ at. simp (no_form, flow.1, full, high, grown) refl))
          (λ items2 c2 t k. let pointer : c2.form ≡ Some made = k.form in
          closes items2 c2.mode None t k.mode k.head (sym no_form) k.quirks (λ at m g. flow_end _ p (by_end family.Form) _ _ at (refl, refl, refl)
          (ap is_flow_mode k.mode ∙ flow.0) (simp (pointer, eq-eqb made made refl, stays _ p) refl)))
      of_class family.Other k p plain = let flows : is_flow_mode c.mode ≡ true = phrasing_flows _ p refl in
          own _ p i.content refl flows q.mode_fits (around_current family.Other false false p) refl refl (p_around family.Other false false p)
          (flow_start _ p (by_start family.Other) _ flows (refl, refl, refl) (λ at. simp (none_lost at, full, high, grown) refl))
          (flow_ends _ p (by_end family.Other) (refl, refl, refl) (λ at m g items2 c2. simp (self, stays _ p) refl))
      of_class family.Button k p plain = let flows : is_flow_mode c.mode ≡ true = phrasing_flows _ p refl in
          let no_button = q.no_button (sym ((name_facts (n.tag x)).nested_button i (ap (λ r. r.is_button) p)) ∙ alone) in
          own _ p i.content refl flows q.mode_fits (around_current family.Button false true p) refl refl (p_around family.Button false true p)
          (flow_start _ p (by_start family.Button) _ flows (refl, refl, refl) (λ at. simp (no_button, none_lost at, full, high, grown) refl))
          (flow_ends _ p close_block (refl, refl, refl) (λ at m g items2 c2. simp (self, stays _ p) refl))
      of_class family.Formatting k p plain = formatting family.Formatting false p (refl, refl, refl)
          (λ h y e. rw (laws.anchor x y e (ap (λ r. r.is_a) p)) (find-thinned n.same y roomy (anchors_same (ap (λ r. r.marks) p) h y e)))
          (flow_start _ p (by_start family.Formatting) _ (phrasing_flows _ p refl) (refl, refl, refl) (λ at. simp (none_lost at, full, high, grown) refl))
      of_class family.A k p plain = let named : is_a (n.tag x) ≡ true = ap (λ r. r.is_a) p in
          let no_a : find_entry n.same x items ≡ None = q.no_a (sym ((name_facts (n.tag x)).nested_a i named) ∙ alone) x named in
          formatting family.A true p (refl, refl, refl)
          (λ h y e. absurd (let v = (or_parts (not (inserts_marker (n.tag x)) && i.in_a) (is_a (n.tag x)) h).1 in cc))
          (flow_start _ p (by_start family.A) _ (phrasing_flows _ p refl) (refl, refl, refl) (λ at. simp (no_a, none_lost at, full, high, grown) refl))
      of_class family.Table k p plain = let flow = in_flow _ p refl in let known : n.same x (n.known tag.Table) ≡ true = laws.table x (ap (λ r. r.family) p) in
          in_parts _ p content.TableParts InTable (reset_mode n z.context (d ∷ up)) refl refl refl refl refl
          (ap (λ r. r.table_context && (r.fosters || false)) p) refl q.mode_is
          (flow_start _ p (by_start family.Table) _ flow.0 (refl, refl, refl) (λ at. grind (arith, flow.1, full, high, grown)))
          (mode_ends _ p InTable (λ l. l) _ (λ at m g items2 c2. simp known refl))
      of_class family.Colgroup k p plain = let (mode_at, clear) = in_table (stands _ p refl) in
          in_parts _ p content.Columns InColumnGroup InTable refl refl refl refl refl (ap (λ r. r.is_colgroup) p) refl (sym mode_at)
          (mode_start _ p InTable _ mode_at (λ at. simp (clear, full, high, grown) refl))
          (mode_ends _ p InColumnGroup (λ l. l) InTable (λ at m g items2 c2. refl))
      of_class family.TableSection k p plain = let (mode_at, clear) = in_table (stands _ p refl) in
          let section : is_body_context (n.tag x) ≡ true = ap (λ r. r.body_context) p in
          in_parts _ p content.TableRows InTableBody InTable refl refl refl refl refl (ap (λ r. r.body_context && (r.fosters || false)) p) refl (sym mode_at)
          (mode_start _ p InTable _ mode_at (λ at. simp (clear, full, high, grown) refl))
          (mode_ends _ p InTableBody (λ l. l) InTable (λ at m g items2 c2. simp (self, section) refl))
      of_class family.Row k p plain = let e : i.content ≡ content.TableRows = stands _ p refl in
          let mode_at : c.mode ≡ InTableBody = (own_mode c.mode).rows (mode_in n q content.TableRows e) in
          let clear : is_body_context (n.tag d.name) ≡ true = (and_parts (is_body_context (n.tag d.name)) _ (current_in n q content.TableRows e)).0 in
          let known : n.same x (n.known tag.Tr) ≡ true = laws.table_row x (ap (λ r. r.family) p) in
          let row_is : is_row_context (n.tag x) ≡ true = ap (λ r. r.row_context) p in
          in_parts _ p content.Cells InRow InTableBody refl refl refl refl refl (ap (λ r. r.row_context && (r.fosters || false)) p) refl (sym mode_at)
          (mode_start _ p InTableBody _ mode_at (λ at. simp (clear, full, high, grown) refl))
          (mode_ends _ p InRow (λ l. l) InTableBody (λ at m g items2 c2. simp (known, row_is) refl))
      of_class family.Caption k p plain = let (mode_at, clear) = in_table (stands _ p refl) in
          let known : n.same x (n.known tag.Caption) ≡ true = laws.caption x (ap (λ r. r.family) p) in
          marking _ p InCaption InTable refl refl refl refl refl refl refl (sym mode_at)
          (mode_start _ p InTable _ mode_at (λ at. simp (clear, full, high, grown) refl))
          (mode_ends _ p InCaption cleared InTable (λ at m g items2 c2. simp (known, stays _ p) refl))
      of_class family.Cell k p plain = let e : i.content ≡ content.Cells = stands _ p refl in
          let mode_at : c.mode ≡ InRow = (own_mode c.mode).cells (mode_in n q content.Cells e) in
          let clear : is_row_context (n.tag d.name) ≡ true = (and_parts (is_row_context (n.tag d.name)) _ (current_in n q content.Cells e)).0 in
          marking _ p InCell InRow refl refl refl refl refl refl refl (sym mode_at)
          (mode_start _ p InRow _ mode_at (λ at. simp (clear, full, high, grown) refl))
          (mode_ends _ p InCell cleared InRow (λ at m g items2 c2. simp (self, stays _ p) refl))
      of_class family.Object k p plain = let flows : is_flow_mode c.mode ≡ true = phrasing_flows _ p refl in
          marking _ p c.mode c.mode refl q.mode_is flows refl refl refl refl refl
          (flow_start _ p (by_start family.Object) _ flows (refl, refl, refl) (λ at. simp (none_lost at, full, high, grown) refl))
          (λ at m g items2 c2 mode. flow_end _ p (by_end family.Object) _ (state z m g (d ∷ up) (cleared items2) c2) at (refl, refl, refl)
          (ap is_flow_mode mode ∙ flows) (simp (self, stays _ p) refl) ∙ (λ v. Done (state z m g (d ∷ up) (cleared items2) (record c2 { mode = mode v }))))
      of_class _ k p plain = absurd (false≢true (sym plain ∙ ap (λ r. r.is_void) p))

    -- VOID ELEMENTS

    module _ (b : ℕ) where
      abbrev Void : Type 0
      Void = Leads n (start x attrs false ∷ []) s (NodeBuilt b (element x attrs) none made f d up items c)

      abbrev passed : State N
      passed = state z (made + 1) f1 (d ∷ up) items (record (begun_control c) { acknowledged = true })

      void_built : Comes passed → Void
      void_built opening = token_then (λ at. (
        passed,
        goes refl (from at (start x attrs false) (Goes passed) refl (ends (opening at))),
        no_token (as_it_stands same (record { mode = refl; head = refl; form = refl; quirks = refl }) refl),
      ))

      in_phrasing : (r : Profile) (p : profile (n.tag x) ≡ r) (rule : Do) → IsFlowRule (Start r.family) rule → r.role ≡ role.Phrasing
          → ((at : ℕ) → perform n at (start x attrs false) rule now ≡ Done passed) → Void
      in_phrasing r p rule h e done = void_built (flow_start r p rule _ (phrasing_flows r p e) h done)

      in_text : (at : ℕ) → perform n at (start x attrs false) void_in_text now ≡ Done passed
      in_text at = simp (none_lost at, full, high, grown) refl

      plain_void : (at : ℕ) → perform n at (start x attrs false) void now ≡ Done passed
      plain_void at = simp (full, high, grown) refl

      of_void : (w : Family) (k : Content) → profile (n.tag x) ≡ class_profile w k → is_void (n.tag x) ≡ true → Void
      of_void family.Br k p void_is = in_phrasing _ p void_in_text (refl, refl, refl) refl in_text
      of_void family.Input k p void_is = in_phrasing _ p void_in_text (refl, refl, refl) refl in_text
      of_void family.PhrasingVoid k p void_is = in_phrasing _ p void_in_text (refl, refl, refl) refl in_text
      of_void family.MediaVoid k p void_is = in_phrasing _ p void (refl, refl, refl) refl plain_void
      of_void family.HeadVoid k p void_is = in_phrasing _ p void (refl, refl, refl) refl plain_void
      of_void family.Col k p void_is =
          void_built (mode_start _ p InColumnGroup _ ((own_mode c.mode).columns (mode_in n q _ (stands _ p refl))) (λ at. simp (full, high, grown) refl))
      of_void family.Hr k p void_is = let flow = in_flow _ p refl in
          void_built (flow_start _ p (by_start family.Hr) _ flow.0 (refl, refl, refl) (λ at. simp (flow.1, full, high, grown) refl))
      of_void family.Block content.ListItems p void_is = absurd (false≢true (sym (ap (λ r. r.is_void) p) ∙ void_is))
      of_void _ _ p void_is = absurd (let v = ap (λ r. r.is_void) p in let o = ap (λ r. r.role) p in let none = no_nowhere i.content in cc)

  -- THE INDUCTION

  fosters_at : (a b : Bool) → (a || not b) ≡ true → b ≡ true → a ≡ true
  fosters_at a b h e = grind arith

  text_node : (i : Inside) (b : ℕ) (t : List ℕ) (made : ℕ) (f : Forest N) (d : OpenNode N) (up : List (OpenNode N)) (items : List (Listed N)) (c : Control)
      → Quiet n z.context i made f d up items c → (good : GoodText i t) → text_before (LastIn d.node) f ≡ None → (c.drop_lf && good.is.one == 10) ≡ false
      → made < z.site.nodes.limit
      → Leads n (map (λ ch. character ch) (chars t)) (state z made f (d ∷ up) items c) (NodeBuilt b (text t) none made f d up items c)
  text_node i b t made f d up items c q good none_before safe room = go i.content refl where
    s : State N
    s = state z made f (d ∷ up) items c

    Node : Type 0
    Node = Leads n (map (λ ch. character ch) (chars t)) s (NodeBuilt b (text t) none made f d up items c)

    -- in flow, and in a colgroup
    put_at_once : (m : Mode) (ok : ℕ → Bool) → rules.Puts n z d up items m ok → c.mode ≡ m → list_all ok (good.is.one ∷ good.is.more) ≡ true → Node
    put_at_once m ok puts mode oks =
        text_built puts q.once (q.fresh made (omega arith)) good.is mode safe oks none_before room (as_it_stands same (begun_keeps c) refl)

    -- in the parts of a table, where white space waits
    in_parts : rules.is_parts_mode c.mode ≡ true → is_fostering (n.tag d.name) ≡ true → list_all is_space (good.is.one ∷ good.is.more) ≡ true → Node
    in_parts parts fosters spaces = let both = and_parts (is_space good.is.one) (list_all is_space good.is.more) spaces in
        let c0 : Control = record (begun_control c) { pending = []; saved = c.mode; mode = InTableText } in
        let held : List Placed → State N = λ l. state z made f (d ∷ up) items (record c0 { pending = l }) in
        let c3 : Control = record c0 { mode = c.mode } in
        let put : List ℕ → State N = λ u. state z (made + 1) (under d.node (tree made (text u) none none) f) (d ∷ up) items c3 in
        subst (λ (chs : List ℕ). Leads n (map (λ ch. character ch) chs) s (NodeBuilt b (text t) none made f d up items c)) (sym good.is.mapped)
        (token_then (λ at. let new : Placed = record { ch = good.is.one; at = at } in (
          held (new ∷ []),
          goes safe (goes_again (rules.first_held n z at made f d up items (begun_control c) good.is.one parts both.0 fosters)
              (ends (rules.held n z at made f d up items c0 good.is.one refl both.0))),
          so (chars_read is_space then_placed held
              (λ l q fine. char_step refl (rules.held n z q.at made f d up items (record c0 { pending = l }) q.ch refl fine)) (new ∷ []) good.is.more both.1)
              (λ s' k. let all : List Placed = new ∷ k.0 in
              let bytes : encode_utf8_all (map (λ p. p.ch) all) ≡ t = ap (λ l. encode_utf8_all (good.is.one ∷ l)) k.1 ∙ good.is.bytes in
              let acts : ActsAs n (held all) (put (encode_utf8_all (map (λ p. p.ch) all))) =
              λ at t o other chain. rules.acts n z d up items at t new k.0 made f (record c0 { pending = all }) o (other_kind t other) refl refl
              (sym (list_all-map is_space (λ (p : Placed). p.ch) all) ∙ ap (λ l. list_all is_space (good.is.one ∷ l)) k.1 ∙ spaces) q.once
              (q.fresh made (omega arith)) room none_before chain in
              let as_held : s' ≡ held all = k.2 ∙ ap held (placed_read (new ∷ []) k.0) in
              let moved : ActsAs n s' (put t) =
              subst (λ (v : State N). ActsAs n v (put t)) (sym as_held) (subst (λ (u : List ℕ). ActsAs n (held all) (put u)) bytes acts) in
              let keeps : Keeps c c3 = record { mode = refl; head = refl; form = refl; quirks = refl } in
              record
              { built = record { items' = items; control' = c3; acts = moved; thinned = same; keeps = keeps }; no_drop = refl; exact = λ e. absurd cc }),
        )))

    text_now : (k : Content) → i.content ≡ k → TextIn k (takes_space i.texts) (good.is.one ∷ good.is.more)
    text_now k e = subst (λ (u : Content). TextIn u (takes_space i.texts) (good.is.one ∷ good.is.more)) e good.fits

    go : (k : Content) → i.content ≡ k → Node
    go content.TableParts e = let z = text_now content.TableParts e in
        in_parts (ap rules.is_parts_mode ((own_mode c.mode).parts (mode_in n q content.TableParts e)))
        (fosters_at _ _ (and_parts (is_table_context (n.tag d.name)) _ (current_in n q content.TableParts e)).1 z.1) z.0
    go content.TableRows e = let z = text_now content.TableRows e in
        in_parts (ap rules.is_parts_mode ((own_mode c.mode).rows (mode_in n q content.TableRows e)))
        (fosters_at _ _ (and_parts (is_body_context (n.tag d.name)) _ (current_in n q content.TableRows e)).1 z.1) z.0
    go content.Cells e = let z = text_now content.Cells e in
        in_parts (ap rules.is_parts_mode ((own_mode c.mode).cells (mode_in n q content.Cells e)))
        (fosters_at _ _ (and_parts (is_row_context (n.tag d.name)) _ (current_in n q content.Cells e)).1 z.1) z.0
    go content.Columns e = put_at_once InColumnGroup is_space (rules.space_puts n z d up items InColumnGroup refl)
        ((own_mode c.mode).columns (mode_in n q content.Columns e)) (text_now content.Columns e)
    go content.Empty e = absurd (text_now content.Empty e)
    go k e = put_at_once c.mode is_clean_char (rules.flow_puts n z d up items c.mode (mode_in n q k e) q.listed) refl good.is.clean

  node_and_rest : {b : ℕ} {w : What N} {kids rest : Forest N} {i : Inside} {made : ℕ} {f : Forest N} {d : OpenNode N} {up : List (OpenNode N)}
      {items : List (Listed N)} {c : Control} {s : State N} → LawOf rest → (us : List (Token N)) → Quiet n z.context i made f d up items c → Good n i rest
      → (begins_text rest ≡ true → is_text w ≡ false) → (is_text w ≡ false → if_text made (Some w) ≡ None)
      → made + (1 + (size kids + size rest)) ≤ z.site.nodes.limit → suc (length up) + depth rest ≤ z.site.open_nodes.limit
      → Leads n us s (NodeBuilt b w kids made f d up items c) → Leads n (us ++ plain_tokens n rest) s (Built (tree b w kids rest) made f d up items c)
  node_and_rest {b} {w} {kids} {rest} {i} {made} {f} {d} {up} {items} {c} {s} law us q g other unlike room deep node_law = tokens_then node_law (λ s1 node_head.
      let head = node_head.built in let g1 : Forest N = under d.node (numbered_forest made (tree b w kids none)) f in
      let made1 : ℕ = made + (1 + (size kids + 0)) in
      let q1 : Quiet n z.context i made1 g1 d up head.items' head.control' =
      later i (tree b w kids none) made f d up items head.items' c head.control' q head.thinned head.keeps in
      let count : made1 + size rest ≡ made + (1 + (size kids + size rest)) = omega arith in
      let grown = rest-grown d.node made b w kids rest f in
      so (law i made1 g1 d up head.items' head.control' s1 q1 g head.acts (λ e. node_head.exact (other e)) (λ e. text_before-new d.node made w
      (numbered_forest (made + 1) kids) f q.once (q.fresh made (omega arith)) (times-numbered d.node (made + 1) kids (inl (let low = q.lower.0 in omega arith)))
      (times-numbered made (made + 1) kids (inl (omega arith))) ∙ unlike (other e)) (subst (λ (v : Bool). LfSafe v rest) (sym node_head.no_drop) (lf_none rest))
      (omega arith) deep) (λ s2 back. let m : ℕ = made + (1 + (size kids + size rest)) in
      let acts : ActsAs n s2 (state z m (under d.node (numbered_forest made (tree b w kids rest)) f) (d ∷ up) back.items' back.control') =
      subst (ActsAs n s2) (λ j. state z (count j) (grown j) (d ∷ up) back.items' back.control') back.acts in
      let keeps = keeps-then head.keeps back.keeps in
      record { items' = back.items'; control' = back.control'; acts = acts; thinned = then head.thinned back.thinned; keeps = keeps }))

  pub builds : (l : Forest N) → LawOf l
  builds none i made f d up items c s q g from no_text before safe room deep = no_token (built_none from)
  builds (tree b (element x attrs) kids rest) i made f d up items c s q g from no_text before safe room deep =
      go (is_void (n.tag x)) refl (builds kids) (builds rest) where
        w : Family
        w = family_of (n.tag x)

        k : Content
        k = (row (n.tag x)).1

        p : profile (n.tag x) ≡ class_profile w k
        p = classed (n.tag x) (λ e. false≢true (sym (no_nowhere i.content) ∙ ap (takes_role i.content) (sym e) ∙ g.0))

        go : (v : Bool) → is_void (n.tag x) ≡ v → LawOf kids → LawOf rest
            → Leads n (plain_tokens n (tree b (element x attrs) kids rest)) s (Built (tree b (element x attrs) kids rest) made f d up items c)
        go false plain law_kids law_rest = subst (λ (us : List (Token N)). Leads n us s (Built (tree b (element x attrs) kids rest) made f d up items c))
            (sym (mapped n b x attrs kids rest plain))
            (node_and_rest law_rest (start x attrs false ∷ plain_tokens n kids ++ end x ∷ []) q g.4 (λ e. refl) (λ e. refl) room (omega arith) (of_class x attrs
            i made f d up items c s q from g.0 (omega arith) (omega arith) b kids law_kids g.1 g.2 g.3 (omega arith) (omega arith) w k p plain))
        go true void_is law_kids law_rest =
            let empty : kids ≡ none = good-empty (inside_element (n.tag x) i) kids
            (ap (λ o. content_within i.content o.content) p ∙ ap (content_within i.content) (void_empty w k (sym (ap (λ r. r.is_void) p) ∙ void_is))) g.3 in
            let spelled : plain_tokens n (tree b (element x attrs) kids rest) ≡ start x attrs false ∷ plain_tokens n rest = rw void_is refl in
            let sized : size kids ≡ 0 = ap size empty in
            subst (λ (us : List (Token N)). Leads n us s (Built (tree b (element x attrs) kids rest) made f d up items c)) (sym spelled)
            (subst (λ (k : Forest N). Leads n (start x attrs false ∷ plain_tokens n rest) s (Built (tree b (element x attrs) k rest) made f d up items c))
            (sym empty) (node_and_rest law_rest (start x attrs false ∷ []) q g.4 (λ e. refl) (λ e. refl) (omega arith) (omega arith)
            (of_void x attrs i made f d up items c s q from g.0 (omega arith) (omega arith) b w k p void_is)))
  builds (tree b (text t) none rest) i made f d up items c s q g from no_text before safe room deep =
      subst (λ (u : State N). Leads n (plain_tokens n (tree b (text t) none rest)) u (Built (tree b (text t) none rest) made f d up items c))
      (sym (no_text refl)) (node_and_rest (builds rest) (map (λ ch. character ch) (chars t)) q g.2 (λ e. absurd (let z = g.1 in cc)) (λ e. absurd cc) room
      deep (text_node i b t made f d up items c q g.0 (before refl) (safe g.0.is) (omega arith)))
  builds (tree b (forest.comment t) none rest) i made f d up items c s q g from no_text before safe room deep =
      node_and_rest (builds rest) (comment t ∷ []) q g.1 (λ e. refl) (λ e. refl) room deep (comment_built q from (omega arith))
  builds _ i made f d up items c s q g from no_text before safe room deep = absurd g
