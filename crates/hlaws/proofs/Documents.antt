-- The tokens of a plain document build it: its parts in their order, each in the insertion mode that takes it.
use Rattle.hlaws.proofs.Names.{rules as std_rules, ◌≡◌, ℕ, suc, ◌+◌, ◌<◌, ◌≤◌, Bool, true, false, ◌&&◌, cond, List, [], ◌∷◌, ◌++◌, length, map, None, Some, refl, sym, ◌∙◌, ap, subst, arith, inl, and_parts, ne_eqb, lt-leb, false≢true, nat_le, bytes_eq, bytes_eq-Decides, codes, chars, Attribute, What, element, text, Forest, none, tree, size, times, join, graft_last, if_text, text_before, LastIn, OpenNode, is_void, tag_named, Tag, texts, Goes, Start, End, Comment, Mode, InBody, Text, family_of, rule_of, perform, void, raw, Token, start, end, comment, character, eof, Control, State, Done, Rule, step_begun, ends, goes_again, Step, goes, Inside, inside_element, are_content, plain_tokens, numbered_forest, under, HoldsUtf8, Thinned, same, Listed, with_error, Limits, document_begins, flow_of, mode_error, Again, kind_of, is_self_closing, Chain, is_dropped, finished, put, Initial, BeforeHtml, BeforeHead, InHead, AfterHead, AfterBody, AfterAfterBody, TokenKind, Ws, is_plain, is_plain_text, is_plain_comment, are_plain_attributes, is_empty_text, is_leaf, leaves_then, comments_then, doctype_then, element_then, is_metadata, inside_head, are_metadata, body_on, are_in_html, html_on, is_plain_document, Texts, ActsAs, depth, is_flow_mode, is_character_token, trees, PlainDocumentBuilds, added, forces_quirks}
use Rattle.hnodes.specs.Forest as forest
use Rattle.hmodes.specs.Head.{in_head as head_rule}
use Rattle.hmodes.specs.declared.token_kind.TokenKind.TheVariants.{Eof}
use Rattle.hmodes.specs.declared.family.Family.TheVariants as family
use Rattle.names.specs.declared.tag.Tag.TheVariants as tag
use Rattle.hserialize.specs.PlainDocument as plain
use Rattle.hserialize.specs.declared.content.Content.TheVariants as content
use Rattle.hserialize.specs.declared.content.Texts.TheVariants as allowed
use Rattle.hlaws.proofs.Content.{four}
use Rattle.hlaws.proofs.FromTable.{good, lf_safe, is_text as text_is, spaced, text_laws}
use Rattle.hlaws.proofs.Growing.{graft-new, under-none, under-new, once-grown, free-grown, once-new, rest-grown, times-numbered, text_before-new, text_before-leaf}
use Rattle.hlaws.proofs.Rules as rules
use Rattle.hlaws.proofs.Rules.{state, node}
use Rattle.hlaws.proofs.TokensText.{Led, Leads, no_token, token_then, tokens_then, so, IsText, begins_text}
use Rattle.hlaws.proofs.TokensWhole.{html_doctype, texts_after, holds_text, no_role, no_comment}
use Rattle.hlaws.proofs.Whole as whole
use Rattle.hlaws.proofs.Whole.{begun_control, is_text, LfSafe, Quiet, NodeBuilt, Good, OneText}

abbrev Name : Type 0
Name = List ℕ

abbrev Open : Type 0
Open = List (OpenNode Name)

-- what is true between two parts, of how many nodes were made, of the tree and of the state
abbrev Stage : Type 1
Stage = ℕ → Forest Name → State Name → Type 0

-- node d is in the tree, and numbers from `made` on are free
record Spot (made : ℕ) (f : Forest Name) (d : ℕ) : Type 0 where
  pub once : times d f ≡ 1
  pub free : (m : ℕ) → made ≤ m → times m f ≡ 0
  pub low : d < made

-- These tokens lead from a state to one of a stage, with the list under node d.
abbrev Adds : List (Token Name) → (l : Forest Name) (made : ℕ) (f : Forest Name) (d : ℕ) (s : State Name) → Stage → Type 0
Adds us l made f d s There = Leads texts us s (There (made + size l) (under d (numbered_forest made l) f))

-- what is true of the state throughout
record Stands (limits : Limits) (m : Mode) (z : State Name) (c : Control) : Type 0 where
  pub mode : c.mode ≡ m
  pub form : c.form ≡ None
  pub no_context : z.context ≡ None
  pub nodes : z.site.nodes.limit ≡ limits.nodes
  pub deep : z.site.open_nodes.limit ≡ limits.depth

still : {limits : Limits} {m m' : Mode} {z : State Name} {c c' : Control} → Stands limits m z c → c'.mode ≡ m' → c'.form ≡ c.form → Stands limits m' z c'
still stands mode form = record { mode = mode; form = form ∙ stands.form; no_context = stands.no_context; nodes = stands.nodes; deep = stands.deep }

-- a state in a mode, with these open nodes and no formatting element
record In (limits : Limits) (m : Mode) (opened : Open) (made : ℕ) (f : Forest Name) (s : State Name) : Type 0 where
  pub z : State Name
  pub c : Control
  pub is : s ≡ state z made f opened [] c
  pub stands : Stands limits m z c
  pub no_drop : c.drop_lf ≡ false

-- one that acts as such a state
record ActsIn (limits : Limits) (m : Mode) (opened : Open) (made : ℕ) (f : Forest Name) (s : State Name) : Type 0 where
  pub z : State Name
  pub c : Control
  pub acts : ActsAs texts s (state z made f opened [] c)
  pub stands : Stands limits m z c

-- a stage of one thing or another
abbrev Some_of : {A : Type 0} → (A → Stage) → Stage
Some_of {A} S made f s = (x : A) × S x made f s

abbrev html_node : ℕ → OpenNode Name
html_node h = node h (codes "html")

abbrev head_node : ℕ → OpenNode Name
head_node e = node e (codes "head")

abbrev body_node : ℕ → OpenNode Name
body_node b = node b (codes "body")

no_text_there : (made : ℕ) (w : What Name) → is_text w ≡ false → if_text made (Some w) ≡ None
no_text_there made (text t) h = absurd cc
no_text_there made _ h = refl

emptied : {ys : List (Listed Name)} → Thinned [] ys → ys ≡ []
emptied same = refl

module _ (limits : Limits) where
  -- what is to be shown of a list, of all lists that pass a test, and of a leaf
  abbrev At : Forest Name → (d k : ℕ) → (Here There : Stage) → Type 0
  At l d k Here There = (made : ℕ) (f : Forest Name) (s : State Name) → Spot made f d → Here made f s → (begins_text l ≡ true → text_before (LastIn d) f ≡ None)
      → made + size l ≤ limits.nodes → k + depth l ≤ limits.depth → Adds (plain_tokens texts l) l made f d s There

  abbrev Law : (Forest Name → Bool) → (d k : ℕ) → (Here There : Stage) → Type 0
  Law test d k Here There = (l : Forest Name) → HoldsUtf8 l → test l ≡ true → At l d k Here There

  abbrev leaf_tokens : What Name → List (Token Name)
  leaf_tokens (text t) = map (λ c. character c) (chars t)
  leaf_tokens (forest.comment t) = comment t ∷ []
  leaf_tokens w = []

  abbrev LeafLaw : Texts → (d : ℕ) → Stage → Type 0
  LeafLaw which d Here = (b : ℕ) (w : What Name) (rest : Forest Name) (made : ℕ) (f : Forest Name) (s : State Name) → HoldsUtf8 (tree b w none rest)
      → is_leaf which w none rest ≡ true → Spot made f d → Here made f s → (is_text w ≡ true → text_before (LastIn d) f ≡ None) → made < limits.nodes
      → Adds (leaf_tokens w) (tree b w none none) made f d s Here

  -- ONE PART AFTER ANOTHER

  -- a node, and the list after it
  node_then : {Mid : Stage} (There : Stage) (b : ℕ) (w : What Name) (kids rest : Forest Name) {d : ℕ} {made : ℕ} {f : Forest Name} {s : State Name} (k : ℕ)
      → At rest d k Mid There → (us : List (Token Name)) → Spot made f d → (begins_text rest ≡ true → is_text w ≡ false)
      → made + (1 + (size kids + size rest)) ≤ limits.nodes → k + depth rest ≤ limits.depth → Adds us (tree b w kids none) made f d s Mid
      → Adds (us ++ plain_tokens texts rest) (tree b w kids rest) made f d s There
  node_then There b w kids rest {d} {made} {f} {s} k law us q unlike room deep node_law = tokens_then node_law (λ s1 here.
      let one : Forest Name = tree b w kids none in let made1 : ℕ = made + (1 + (size kids + 0)) in
      let count : made1 + size rest ≡ made + (1 + (size kids + size rest)) = omega arith in
      let grown = rest-grown d made b w kids rest f in
      so (law made1 (under d (numbered_forest made one) f) s1 (record {
        once = once-grown d made one f q.once q.low;
        free = λ m h. free-grown d made m one f q.once (q.free m (omega arith)) h;
        low = let x = q.low in omega arith;
      }) here (λ e. text_before-new d made w (numbered_forest (made + 1) kids) f q.once (q.free made (omega arith))
      (times-numbered d (made + 1) kids (inl (let low = q.low in omega arith))) (times-numbered made (made + 1) kids (inl (omega arith)))
      ∙ no_text_there made w (unlike e)) (omega arith) deep) (λ s2 there. subst (λ (m : ℕ). There m (under d (numbered_forest made (tree b w kids rest)) f) s2)
      count (subst (λ (g : Forest Name). There (made1 + size rest) g s2) grown there)))

  ends_add : (Here : Stage) (d k : ℕ) → Law plain.ends_document d k Here Here
  ends_add Here d k none u h = λ made f s q here no_text room deep.
      let count : made ≡ made + 0 = omega arith in
      no_token (subst (λ (m : ℕ). Here m (under d none f) s) count (subst (λ (g : Forest Name). Here made g s) (sym (under-none d f)) here))
  ends_add Here d k (tree b w kids rest) u h = absurd (false≢true h)

  leaf_then : {Here : Stage} (There : Stage) (which : Texts) (d k : ℕ) → LeafLaw which d Here → (b : ℕ) (w : What Name) (kids rest : Forest Name)
      → HoldsUtf8 (tree b w kids rest) → is_leaf which w kids rest ≡ true → At rest d k Here There → At (tree b w kids rest) d k Here There
  leaf_then There which d k leaf b (forest.comment t) none rest u is others made f s q here no_text room deep = node_then There b (forest.comment t) none rest k
      others (comment t ∷ []) q (λ e. refl) room deep (leaf b (forest.comment t) rest made f s u is q here (λ x. absurd cc) (omega arith))
  leaf_then There which d k leaf b (text t) none rest u is others made f s q here no_text room deep = node_then There b (text t) none rest k others
      (map (λ c. character c) (chars t)) q (λ e. absurd (text_next rest is e)) room deep (leaf b (text t) rest made f s u is q here no_text (omega arith)) where
        text_next : (rest : Forest Name) → is_leaf which (text t) none rest ≡ true → begins_text rest ≡ true → ⊥
        text_next (tree m (text v) ks more) is e = let x = (and_parts (is_plain_text which t && true) _ is).1 in cc
        text_next _ is e = cc
  leaf_then There which d k leaf b (forest.comment t) (tree _ _ _ _) rest u is others made f s q here no_text room deep =
      absurd (false≢true (and_parts (is_plain_comment t) false is).1)
  leaf_then There which d k leaf b (text t) (tree _ _ _ _) rest u is others made f s q here no_text room deep =
      absurd (false≢true (and_parts (is_plain_text which t) false (and_parts (is_plain_text which t && false) _ is).0).1)
  leaf_then There which d k leaf b _ _ rest u is others made f s q here no_text room deep = absurd (false≢true is)

  leaves_add : {Here : Stage} (There : Stage) (which : Texts) (next : Forest Name → Bool) (d k : ℕ) → LeafLaw which d Here → Law next d k Here There
      → Law (leaves_then which next) d k Here There
  leaves_add {Here} There which next d k leaf law none u h = law none u h
  leaves_add {Here} There which next d k leaf law (tree b w kids rest) u h =
      go (leaves_add There which next d k leaf law rest (texts_after b w kids rest u)) (is_leaf which w kids rest) refl h where
        go : (leaves_then which next rest ≡ true → At rest d k Here There) → (v : Bool) → is_leaf which w kids rest ≡ v
            → cond v (leaves_then which next rest) (next (tree b w kids rest)) ≡ true → At (tree b w kids rest) d k Here There
        go others true is more = leaf_then There which d k leaf b w kids rest u is (others more)
        go others false is more = law (tree b w kids rest) u more

  -- TOKENS

  -- what a token leads to
  abbrev Comes : Token Name → (at : ℕ) → State Name → Stage → ℕ → Forest Name → Type 0
  Comes t at s There made f = (s' : State Name) × Chain texts at t (step_begun s) (Goes s') × There made f s'

  not_dropped : (t : Token Name) (s : State Name) → is_character_token t ≡ false → is_dropped t s ≡ false
  not_dropped (character ch) s h = cc
  not_dropped _ s h = refl

  -- one token alone
  one_token : {t : Token Name} {s : State Name} {P : State Name → Type 0} → is_character_token t ≡ false
      → ((at : ℕ) → (s' : State Name) × Chain texts at t (step_begun s) (Goes s') × P s') → Leads texts (t ∷ []) s P
  one_token {t = t} {s = s} other comes = token_then (λ at. let o = comes at in (o.0, goes (not_dropped t s other) o.1, no_token o.2))

  -- another node, or another open one, is within the limits
  node_fits : {m : Mode} {z : State Name} {c : Control} → Stands limits m z c → (made : ℕ) → made < limits.nodes → nat_le z.site.nodes.limit made ≡ false
  node_fits {z = z} stands made h = lt-leb z.site.nodes.limit made (let x = stands.nodes in omega arith)

  open_fits : {m : Mode} {z : State Name} {c : Control} → Stands limits m z c → (k : ℕ) → k < limits.depth → nat_le z.site.open_nodes.limit k ≡ false
  open_fits {z = z} stands k h = lt-leb z.site.open_nodes.limit k (let x = stands.deep in omega arith)

  -- a state acts as itself
  abbrev itself : {m : Mode} {opened : Open} {made : ℕ} {f : Forest Name} {s : State Name} → In limits m opened made f s → ActsIn limits m opened made f s
  itself {opened = opened} {made = made} {f = f} here =
      let acts = subst (λ (v : State Name). ActsAs texts v (state here.z made f opened [] here.c)) (sym here.is) (λ at t o e chain. chain) in
      record { z = here.z; c = here.c; acts = acts; stands = here.stands }

  -- what a rule does with the control
  abbrev Becomes : Mode → Mode → (Control → Control) → Type 0
  Becomes m m' g = (c : Control) → c.mode ≡ m → ((g c).mode ≡ m') × ((g c).form ≡ c.form) × ((g c).drop_lf ≡ c.drop_lf)

  abbrev to_mode : Mode → Control → Control
  to_mode m c = record c { mode = m }

  -- a token that is done with by the rule of the mode
  by_rule : {t : Token Name} {k : TokenKind} {m m' : Mode} {opened left : Open} {at made made' : ℕ} {f f' : Forest Name} {s : State Name}
      (g : Control → Control) → kind_of texts t ≡ k → is_character_token t ≡ false → is_self_closing t ≡ false → Becomes m m' g
      → (here : ActsIn limits m opened made f s) → perform texts at t (rule_of m k) (state here.z made f opened [] (begun_control here.c))
      ≡ Done (state here.z made' f' left [] (g (begun_control here.c))) → Comes t at s (In limits m' left) made' f'
  by_rule {t} {k} {m} {opened = opened} {left = left} {at = at} {made = made} {made' = made'} {f = f} {f' = f'} g kind other unclosed becomes here done =
      let c : Control = begun_control here.c in let s0 : State Name = state here.z made f opened [] c in
      let s1 : State Name = state here.z made' f' left [] (g c) in
      let b = becomes c here.stands.mode in
      let ended_so : finished at t s1 ≡ s1 = rw unclosed refl in (
        s1,
        here.acts at t (Goes s1) other
            (subst (λ (v : State Name). Chain texts at t s0 (Goes v)) ended_so (ends (rules.by_mode texts here.z at t m k s0 s1 here.stands.mode kind done))),
        record { z = here.z; c = g c; is = refl; stands = still here.stands b.0 b.1; no_drop = b.2 },
      )

  -- COMMENTS AND WHITE SPACE

  -- a mode in which a comment goes last into node d
  abbrev PutsComments : Mode → Open → ℕ → Type 0
  PutsComments m opened d = (z : State Name) (at made : ℕ) (t : Name) (f : Forest Name) (c : Control) → perform texts at (comment t) (rule_of m Comment)
      (state z made f opened [] c) ≡ flow_of (state z made f opened [] c) (added at (forest.comment t) (LastIn d) (state z made f opened [] c).site)

  comment_adds : (m : Mode) (opened : Open) (d : ℕ) → PutsComments m opened d → (b : ℕ) (t : Name) (made : ℕ) (f : Forest Name) (s : State Name) → Spot made f d
      → In limits m opened made f s → made < limits.nodes → Adds (comment t ∷ []) (tree b (forest.comment t) none none) made f d s (In limits m opened)
  comment_adds m opened d puts b t made f s q here room = let grown = graft-new d made (forest.comment t) f (q.free made (omega arith)) in
      one_token refl (λ at. by_rule (λ c. c) refl refl refl (λ c e. (e, refl, refl)) (itself here)
      (puts here.z at made t f (begun_control here.c) ∙ simp (node_fits here.stands made room, grown) refl))

  comments : (m : Mode) (opened : Open) (d : ℕ) → PutsComments m opened d → LeafLaw allowed.None d (In limits m opened)
  comments m opened d puts b (forest.comment t) rest made f s u is q here no_text room = comment_adds m opened d puts b t made f s q here room
  comments m opened d puts b (text t) rest made f s u is q here no_text room = absurd (let x = is in grind arith)
  comments m opened d puts b _ rest made f s u is q here no_text room = absurd (false≢true is)

  -- white space goes into the current node
  spaces : (m : Mode) (x : OpenNode Name) (up : Open) → PutsComments m (x ∷ up) x.node → rule_of m Ws ≡ put
      → LeafLaw allowed.WhiteSpace x.node (In limits m (x ∷ up))
  spaces m x up puts ws b (forest.comment t) rest made f s u is q here no_text room = comment_adds m (x ∷ up) x.node puts b t made f s q here room
  spaces m x up puts ws b (text t) rest made f s u is q here no_text room = let i : IsText t = text_is t u.0 (grind arith) (grind arith) in
      subst (λ (v : State Name). Leads texts (leaf_tokens (text t)) v (In limits m (x ∷ up) (made + 1) (under x.node (tree made (text t) none none) f)))
      (sym here.is) (whole.text_built texts text_laws here.z (rules.space_puts texts here.z x up [] m ws) q.once (q.free made (omega arith)) i here.stands.mode
      (rw here.no_drop refl) (spaced t i u.0 (grind arith)) (no_text refl) (let y = here.stands.nodes in omega arith)
      (record { z = here.z; c = begun_control here.c; is = refl; stands = still here.stands here.stands.mode refl; no_drop = refl }))
  spaces m x up puts ws b _ rest made f s u is q here no_text room = absurd (false≢true is)

  some_leaf : {A : Type 0} (which : Texts) (d : ℕ) (S : A → Stage) → ((x : A) → LeafLaw which d (S x)) → LeafLaw which d (Some_of S)
  some_leaf which d S law b w rest made f s u is q here no_text room = so (law here.0 b w rest made f s u is q here.1 no_text room) (λ s' there.
      (here.0, there))

  -- ELEMENTS

  -- what a start tag does, and an end tag
  abbrev Opens : Name → (d k : ℕ) → Stage → (ℕ → Stage) → Type 0
  Opens x d k Here Inner = (attrs : List (Attribute Name)) (at made : ℕ) (f : Forest Name) (s : State Name) → Spot made f d → Here made f s
      → made < limits.nodes → k < limits.depth → Comes (start x attrs false) at s (Inner made) (made + 1) (under d (tree made (element x attrs) none none) f)

  abbrev Closes : Name → (Inner Mid : Stage) → Type 0
  Closes x Inner Mid = (at made : ℕ) (f : Forest Name) (s : State Name) → Inner made f s → Comes (end x) at s Mid made f

  element_adds : {Here Mid : Stage} (There : Stage) {Inner Inside : ℕ → Stage} (x : Name) (children next : Forest Name → Bool) (d k : ℕ)
      → is_void (tag_named x) ≡ false → Opens x d k Here Inner → ((e : ℕ) → d < e → Law children e (k + 1) (Inner e) (Inside e))
      → ((e : ℕ) → Closes x (Inside e) Mid) → Law next d k Mid There → Law (element_then x children next) d k Here There
  element_adds {Here} {Mid} There x children next d k no_void opening kids_law closing law (tree b (element name attrs) kids rest) u h =
      subst (λ (y : Name). At (tree b (element y attrs) kids rest) d k Here There) (sym named) at_x where
        f4 : (bytes_eq name x ≡ true) × (are_plain_attributes attrs ≡ true) × (children kids ≡ true) × (next rest ≡ true)
        f4 = four _ _ _ _ h

        named : name ≡ x
        named = (bytes_eq-Decides name x).0 f4.0

        one_adds : (made : ℕ) (f : Forest Name) (s : State Name) → Spot made f d → Here made f s → made + (1 + size kids) ≤ limits.nodes
            → k + suc (depth kids) ≤ limits.depth
            → Adds (start x attrs false ∷ plain_tokens texts kids ++ end x ∷ []) (tree b (element x attrs) kids none) made f d s Mid
        one_adds made f s q here room deep = token_then (λ at.
            let f1 : Forest Name = under d (tree made (element x attrs) none none) f in let o = opening attrs at made f s q here (omega arith) (omega arith) in
            let spot : Spot (made + 1) f1 made = record {
              once = once-new d made (element x attrs) f q.once (q.free made (omega arith));
              free = λ m h. free-grown d made m (tree made (element x attrs) none none) f q.once (q.free m (omega arith)) h;
              low = omega arith;
            } in
            let grown : under made (numbered_forest (made + 1) kids) f1 ≡ under d (tree made (element x attrs) (numbered_forest (made + 1) kids) none) f =
            under-new d made (element x attrs) none (numbered_forest (made + 1) kids) f (q.free made (omega arith)) in
            let count : made + 1 + size kids ≡ made + (1 + (size kids + 0)) = omega arith in (
              o.0,
              goes refl o.1,
              tokens_then (kids_law made q.low kids u.2 f4.2 (made + 1) f1 o.0 spot o.2
                  (λ e. text_before-leaf d made (element x attrs) f q.once (q.free made (omega arith))) (omega arith) (omega arith))
                  (λ s' i. so (one_token refl (λ at. closing made at (made + 1 + size kids) (under made (numbered_forest (made + 1) kids) f1) s' i))
                  (λ s2 there. subst (λ (m : ℕ). Mid m (under d (tree made (element x attrs) (numbered_forest (made + 1) kids) none) f) s2) count
                  (subst (λ (g : Forest Name). Mid (made + 1 + size kids) g s2) grown there))),
            ))

        at_x : At (tree b (element x attrs) kids rest) d k Here There
        at_x made f s q here no_text room deep ts h =
            node_then There b (element x attrs) kids rest k (law rest u.3 f4.3) (start x attrs false ∷ plain_tokens texts kids ++ end x ∷ []) q (λ e. refl) room
            (omega arith) (one_adds made f s q here (omega arith) (omega arith)) ts (h ∙ whole.mapped texts b x attrs kids rest no_void)
  element_adds There x children next d k no_void opening kids_law closing law _ u h = absurd (false≢true h)

  -- a start tag whose rule inserts its element last into node d, opens it and goes to a mode
  opens : (x : Name) (m m' : Mode) (opened : Open) (d : ℕ) (g : ℕ → Control → Control) → ((e : ℕ) → Becomes m m' (g e))
      → ((z : State Name) (attrs : List (Attribute Name)) (at made : ℕ) (f : Forest Name) (c : Control) → nat_le z.site.nodes.limit made ≡ false
      → nat_le z.site.open_nodes.limit (length opened) ≡ false
      → graft_last made d (join f (tree made (element x attrs) none none)) ≡ under d (tree made (element x attrs) none none) f
      → perform texts at (start x attrs false) (rule_of m (Start (family_of (tag_named x)))) (state z made f opened [] c)
      ≡ Done (state z (made + 1) (under d (tree made (element x attrs) none none) f) (node made x ∷ opened) [] (g made c)))
      → Opens x d (length opened) (In limits m opened) (λ e. In limits m' (node e x ∷ opened))
  opens x m m' opened d g becomes rule attrs at made f s q here room deep =
      by_rule (g made) refl refl refl (becomes made) (itself here) (rule here.z attrs at made f (begun_control here.c) (node_fits here.stands made room)
      (open_fits here.stands (length opened) deep) (graft-new d made (element x attrs) f (q.free made (omega arith))))

  -- an end tag whose rule leaves these nodes open and goes to a mode
  closes : (x : Name) (m m' : Mode) (opened left : Open) → ((z : State Name) (at made : ℕ) (f : Forest Name) (c : Control) → z.context ≡ None
      → perform texts at (end x) (rule_of m (End (family_of (tag_named x)))) (state z made f opened [] c) ≡ Done (state z made f left [] (to_mode m' c)))
      → Closes x (ActsIn limits m opened) (In limits m' left)
  closes x m m' opened left rule at made f s here =
      by_rule (to_mode m') refl refl refl (λ c e. (refl, refl, refl)) here (rule here.z at made f (begun_control here.c) here.stands.no_context)

  -- HEAD

  -- what "in head" does with an element of a plain head
  data Metadata (t : Tag) : Type 0 where
    a_void : is_void t ≡ true → head_rule (Start (family_of t)) ≡ void → (inside_element t inside_head).content ≡ content.Empty → Metadata t
    a_raw : is_void t ≡ false → head_rule (Start (family_of t)) ≡ raw → holds_text (inside_element t inside_head).content ≡ true → Metadata t

  metadata : (t : Tag) → is_metadata t ≡ true → Metadata t
  metadata tag.Base h = a_void refl refl refl
  metadata tag.Basefont h = a_void refl refl refl
  metadata tag.Bgsound h = a_void refl refl refl
  metadata tag.Link h = a_void refl refl refl
  metadata tag.Meta h = a_void refl refl refl
  metadata tag.Script h = a_raw refl refl refl
  metadata tag.Style h = a_raw refl refl refl
  metadata tag.Title h = a_raw refl refl refl
  metadata _ h = absurd (false≢true h)

  module _ (h e : ℕ) where
    abbrev in_the_head : Open
    in_the_head = head_node e ∷ html_node h ∷ []

    abbrev InTheHead : Stage
    InTheHead = In limits InHead in_the_head

    -- an element of which the rules of plain trees say what it builds
    built_in_head : (us : List (Token Name)) (b : ℕ) (w : What Name) (kids : Forest Name) (made : ℕ) (f : Forest Name) (s : State Name)
        (here : InTheHead made f s) → is_text w ≡ false → Leads texts us (state here.z made f in_the_head [] here.c)
        (NodeBuilt texts text_laws here.z b w kids made f (head_node e) (html_node h ∷ []) [] here.c) → Adds us (tree b w kids none) made f e s InTheHead
    built_in_head us b w kids made f s here no_text leads = subst (λ (v : State Name). Adds us (tree b w kids none) made f e v InTheHead) (sym here.is)
        (so leads (λ s' n. let k = n.built in let g : Forest Name = under e (numbered_forest made (tree b w kids none)) f in
        let is = n.exact no_text
        ∙ ap (λ (l : List (Listed Name)). state here.z (made + (1 + (size kids + 0))) g in_the_head l k.control') (emptied k.thinned) in
        let stands = still here.stands (k.keeps.mode ∙ here.stands.mode) k.keeps.form in
        record { z = here.z; c = k.control'; is = is; stands = stands; no_drop = n.no_drop }))

    module _ (b : ℕ) (x : Name) (attrs : List (Attribute Name)) (made : ℕ) (f : Forest Name) (s : State Name) (q : Spot made f e) (here : InTheHead made f s)
        (room : made < limits.nodes) (deep : 2 < limits.depth) where
      abbrev leaf : Forest Name
      leaf = tree made (element x attrs) none none

      abbrev now : State Name
      now = state here.z made f in_the_head [] (begun_control here.c)

      full : nat_le here.z.site.nodes.limit made ≡ false
      full = node_fits here.stands made room

      high : nat_le here.z.site.open_nodes.limit 2 ≡ false
      high = open_fits here.stands 2 deep

      grown : graft_last made e (join f leaf) ≡ under e leaf f
      grown = graft-new e made (element x attrs) f (q.free made (omega arith))

      void_adds : head_rule (Start (family_of (tag_named x))) ≡ void → Adds (start x attrs false ∷ []) (tree b (element x attrs) none none) made f e s InTheHead
      void_adds rule = one_token refl (λ at. by_rule (λ c. record c { acknowledged = true }) refl refl refl (λ c k. (k, refl, refl)) (itself here)
          (ap (λ r. perform texts at (start x attrs false) r now) rule ∙ simp (full, high, grown) refl))

      raw_adds : (kids : Forest Name) → head_rule (Start (family_of (tag_named x))) ≡ raw → OneText texts text_laws here.z kids
          → made + (1 + size kids) ≤ limits.nodes
          → Adds (start x attrs false ∷ plain_tokens texts kids ++ end x ∷ []) (tree b (element x attrs) kids none) made f e s InTheHead
      raw_adds kids rule content room_in = built_in_head _ b (element x attrs) kids made f s here refl (whole.raw_element texts text_laws here.z b x attrs made
          f (head_node e) (html_node h ∷ []) [] here.c c1 (state here.z made f in_the_head [] here.c) q.once q.free (λ at t o e chain. chain) opening refl refl
          refl refl refl kids content (whole.lf_none texts text_laws here.z kids) (let y = here.stands.nodes in omega arith)) where
            c1 : Control
            c1 = record (begun_control here.c) { saved = here.c.mode; mode = Text }

            opening : (at : ℕ) → Rule texts at (start x attrs false) now ≡ Done (state here.z (made + 1) (under e leaf f) (node made x ∷ in_the_head) [] c1)
            opening at = rules.by_mode texts here.z at (start x attrs false) InHead (Start (family_of (tag_named x))) now _ here.stands.mode refl
                (ap (λ r. perform texts at (start x attrs false) r now) rule ∙ simp (full, high, grown) refl)

    head_leaf : LeafLaw allowed.WhiteSpace e InTheHead
    head_leaf = spaces InHead (head_node e) (html_node h ∷ []) (λ z at made t f c. refl) refl

    metadata_adds : Law are_metadata e 2 InTheHead InTheHead
    metadata_adds none u is = ends_add InTheHead e 2 none u refl
    metadata_adds (tree b (element x attrs) kids rest) u is = by_class (metadata_adds rest u.3 f4.3) (metadata (tag_named x) f4.0) where
      inside : Inside
      inside = inside_element (tag_named x) inside_head

      f4 : (is_metadata (tag_named x) ≡ true) × (are_plain_attributes attrs ≡ true) × (are_content inside kids ≡ true) × (are_metadata rest ≡ true)
      f4 = four _ _ _ _ is

      g : Good texts inside kids
      g = good inside kids (inl refl) u.2 f4.2

      by_class : At rest e 2 InTheHead InTheHead → Metadata (tag_named x) → At (tree b (element x attrs) kids rest) e 2 InTheHead InTheHead
      by_class others (a_void v rule empty) = subst (λ (l : Forest Name). At (tree b (element x attrs) l rest) e 2 InTheHead InTheHead)
          (sym (whole.good-empty texts text_laws (document_begins [] limits) inside kids empty g))
          (λ made f s q here no_text room deep ts h. node_then InTheHead b (element x attrs) none rest 2 others (start x attrs false ∷ []) q (λ y. refl) room
          (omega arith) (void_adds b x attrs made f s q here (omega arith) (omega arith) rule) ts (h ∙ rw v refl))
      by_class others (a_raw v rule holds) = λ made f s q here no_text room deep ts h.
          node_then InTheHead b (element x attrs) kids rest 2 others (start x attrs false ∷ plain_tokens texts kids ++ end x ∷ []) q (λ y. refl) room
          (omega arith) (raw_adds b x attrs made f s q here (omega arith) (omega arith) kids rule
          (whole.raw_kids texts text_laws here.z inside kids (no_comment inside.content holds) (λ r. no_role inside.content r holds) g) (omega arith)) ts
          (h ∙ whole.mapped texts b x attrs kids rest v)
    metadata_adds (tree b w kids rest) u is = let p = and_parts (is_leaf allowed.WhiteSpace w kids rest) (are_metadata rest) is in
        leaf_then InTheHead allowed.WhiteSpace e 2 head_leaf b w kids rest u p.0 (metadata_adds rest (texts_after b w kids rest u) p.1)

  -- BODY

  body_adds : (h b : ℕ) → h < b
      → Law (is_plain (codes "body")) b 2 (In limits InBody (body_node b ∷ html_node h ∷ [])) (ActsIn limits InBody (body_node b ∷ html_node h ∷ []))
  body_adds h b low l u is made f s q here no_text room deep =
      let inside : Inside = record { content = content.Flow; texts = allowed.Any; in_a = false; in_button = false; in_form = false } in
      let s0 : State Name = state here.z made f (body_node b ∷ html_node h ∷ []) [] here.c in
      let quiet : Quiet texts here.z.context inside made f (body_node b) (html_node h ∷ []) [] here.c =
      let mode = sym here.stands.mode in let fits = ap is_flow_mode here.stands.mode in let below : h < made = (let y = q.low in omega arith) in
      let form = here.stands.form in
      search std_rules in
      subst (λ (v : State Name). Adds (plain_tokens texts l) l made f b v (ActsIn limits InBody (body_node b ∷ html_node h ∷ []))) (sym here.is)
      (so (whole.builds texts text_laws here.z l inside made f (body_node b) (html_node h ∷ []) [] here.c s0 quiet (good inside l (inl refl) u is)
      (λ at t o e chain. chain) (λ e. refl) no_text (subst (λ (v : Bool). LfSafe v l) (sym here.no_drop) (lf_safe false l refl))
      (let y = here.stands.nodes in omega arith) (let y = here.stands.deep in omega arith)) (λ s' k.
      let acts = subst (λ (l' : List (Listed Name)).
      ActsAs texts s' (state here.z (made + size l) (under b (numbered_forest made l) f) (body_node b ∷ html_node h ∷ []) l' k.control'))
      (emptied k.thinned) k.acts in
      record { z = here.z; c = k.control'; acts = acts; stands = still here.stands (k.keeps.mode ∙ here.stands.mode) k.keeps.form }))

  -- HTML

  abbrev AfterBodyIn : ℕ → Stage
  AfterBodyIn h = Some_of (λ (b : ℕ). In limits AfterBody (body_node b ∷ html_node h ∷ []))

  -- after html, whatever stays open
  abbrev Last : Stage
  Last = Some_of (In limits AfterAfterBody)

  body_on_adds : (h : ℕ) → Law body_on h 1 (In limits AfterHead (html_node h ∷ [])) (AfterBodyIn h)
  body_on_adds h = element_adds (AfterBodyIn h) (codes "body") (is_plain (codes "body")) (comments_then plain.ends_document) h 1 refl
      (opens (codes "body") AfterHead InBody (html_node h ∷ []) h (λ e. to_mode InBody) (λ e c k. (refl, refl, refl))
      (λ z attrs at made f c full high grown. simp (full, high, grown) refl)) (body_adds h) (λ b at made f s here.
      let k =
      closes (codes "body") InBody AfterBody (body_node b ∷ html_node h ∷ []) (body_node b ∷ html_node h ∷ []) (λ z at made f c w. refl) at made f s here in
      (k.0, k.1, (b, k.2))) (leaves_add (AfterBodyIn h) allowed.None plain.ends_document h 1
      (some_leaf allowed.None h _ (λ b. comments AfterBody (body_node b ∷ html_node h ∷ []) h (λ z at made t f c. refl))) (ends_add (AfterBodyIn h) h 1))

  in_html_adds : (h : ℕ) → Law are_in_html h 1 (In limits BeforeHead (html_node h ∷ [])) (AfterBodyIn h)
  in_html_adds h = leaves_add (AfterBodyIn h) allowed.None _ h 1 (comments BeforeHead (html_node h ∷ []) h (λ z at made t f c. refl))
      (element_adds (AfterBodyIn h) (codes "head") are_metadata (leaves_then allowed.WhiteSpace body_on) h 1 refl
      (opens (codes "head") BeforeHead InHead (html_node h ∷ []) h (λ e c. record c { head = Some e; mode = InHead }) (λ e c k. (refl, refl, refl))
      (λ z attrs at made f c full high grown. simp (full, high, grown) refl)) (λ e low. metadata_adds h e) (λ e at made f s here.
      closes (codes "head") InHead AfterHead (head_node e ∷ html_node h ∷ []) (html_node h ∷ []) (λ z at made f c w. refl) at made f s (itself here))
      (leaves_add (AfterBodyIn h) allowed.WhiteSpace body_on h 1 (spaces AfterHead (html_node h) [] (λ z at made t f c. refl) refl) (body_on_adds h)))

  html_on_adds : (Here : Stage) → Opens (codes "html") 0 0 Here (λ h. In limits BeforeHead (html_node h ∷ [])) → Law html_on 0 0 Here Last
  html_on_adds Here opening = element_adds Last (codes "html") are_in_html (comments_then plain.ends_document) 0 0 refl opening (λ h low. in_html_adds h)
      (λ h at made f s (here : AfterBodyIn h made f s). let opened : Open = body_node here.0 ∷ html_node h ∷ [] in
      let k = closes (codes "html") AfterBody AfterAfterBody opened opened (λ z at made f c w. rw w refl) at made f s (itself here.1) in
      (k.0, k.1, (opened, k.2))) (leaves_add Last allowed.None plain.ends_document 0 0
      (some_leaf allowed.None 0 _ (λ opened. comments AfterAfterBody opened 0 (λ z at made t f c. refl))) (ends_add Last 0 0))

  -- the start tag in "before html", and in "initial", where a doctype is missing
  html_opens : Opens (codes "html") 0 0 (In limits BeforeHtml []) (λ h. In limits BeforeHead (html_node h ∷ []))
  html_opens = opens (codes "html") BeforeHtml BeforeHead [] 0 (λ e. to_mode BeforeHead) (λ e c k. (refl, refl, refl))
      (λ z attrs at made f c full high grown. simp (full, high, grown) refl)

  html_opens_first : Opens (codes "html") 0 0 (In limits Initial []) (λ h. In limits BeforeHead (html_node h ∷ []))
  html_opens_first attrs at made f s q here room deep = let t : Token Name = start (codes "html") attrs false in
      let z1 : State Name = record here.z { site = with_error (mode_error Initial) at here.z.site } in
      let c1 : Control = record (begun_control here.c) { quirks = true; mode = BeforeHtml } in
      let s0 : State Name = state here.z made f [] [] (begun_control here.c) in
      let s1 : State Name = state z1 made f [] [] c1 in
      let missing : Rule texts at t s0 ≡ Again t s1 = ap (λ o. perform texts at t (rule_of o (Start family.Html)) s0) here.stands.mode in
      let stands : Stands limits BeforeHtml z1 c1 = record
      { mode = refl; form = here.stands.form; no_context = here.stands.no_context; nodes = here.stands.nodes; deep = here.stands.deep } in
      let o = html_opens attrs at made f s1 q (record { z = z1; c = c1; is = refl; stands = stands; no_drop = refl }) room deep in
      (o.0, subst (λ (v : State Name). Chain texts at t (step_begun v) (Goes o.0)) (sym here.is) (goes_again missing o.1), o.2)

  -- DOCUMENTS

  empty_is : (t : Name) → is_empty_text t ≡ true → t ≡ []
  empty_is [] h = refl
  empty_is (c ∷ cs) h = absurd (false≢true h)

  doctype_adds : (next : Forest Name → Bool) → Law next 0 0 (In limits Initial []) Last → Law next 0 0 (In limits BeforeHtml []) Last
      → Law (doctype_then next) 0 0 (In limits Initial []) Last
  doctype_adds next without law (tree b (forest.doctype name public_id system_id) none rest) u h =
      let n : name ≡ codes "html" = (bytes_eq-Decides name (codes "html")).0 (grind arith) in let p : public_id ≡ [] = empty_is public_id (grind arith) in
      let y : system_id ≡ [] = empty_is system_id (grind arith) in
      subst (λ (l : Forest Name). At l 0 0 (In limits Initial []) Last) (λ i. tree b (forest.doctype (sym n i) (sym p i) (sym y i)) none rest)
      (λ made f s q here no_text room deep. node_then Last b (forest.doctype (codes "html") [] []) none rest 0 (law rest u.1 (grind arith)) (html_doctype ∷ [])
      q (λ e. refl) room deep (one_token refl (λ at.
      by_rule (λ c. record c { quirks = forces_quirks here.z html_doctype; mode = BeforeHtml }) refl refl refl (λ c e. (refl, refl, refl)) (itself here)
      (simp (node_fits here.stands made (omega arith), graft-new 0 made (forest.doctype (codes "html") [] []) f (q.free made (omega arith))) refl))))
  doctype_adds next without law (tree b (forest.doctype name public_id system_id) (tree m w ks more) rest) u h = absurd (grind arith)
  doctype_adds next without law l u h = without l u h

  document_adds : Law is_plain_document 0 0 (In limits Initial []) Last
  document_adds = leaves_add Last allowed.None _ 0 0 (comments Initial [] 0 (λ z at made t f c. refl)) (doctype_adds (comments_then html_on)
      (leaves_add Last allowed.None html_on 0 0 (comments Initial [] 0 (λ z at made t f c. refl)) (html_on_adds (In limits Initial []) html_opens_first))
      (leaves_add Last allowed.None html_on 0 0 (comments BeforeHtml [] 0 (λ z at made t f c. refl)) (html_on_adds (In limits BeforeHtml []) html_opens)))

-- the law
pub law : PlainDocumentBuilds
law quirks limits l ts u is fits tokens = let s : State Name = document_begins quirks limits in let alone : Forest Name = tree 0 forest.document none none in
    let g : Forest Name = under 0 (numbered_forest 1 l) alone in
    let built = document_adds limits l u is 1 alone s (record { once = refl; free = λ m h. rw (ne_eqb 0 m (λ e. omega arith)) refl; low = omega arith })
    (record { z = s; c = s.control; is = refl; stands = record { mode = refl; form = refl; no_context = refl; nodes = refl; deep = refl }; no_drop = refl })
    (λ e. refl) (let n = fits.nodes in omega arith) (let o = fits.open_nodes in omega arith) in
    let ended : Led texts s (λ (v : State Name). trees v.site ≡ g) ts =
    tokens_then built (λ s' a. let here = a.1 in let s1 : State Name = state here.z (1 + size l) g a.0 [] (begun_control here.c) in
    token_then (λ at. let done : Rule texts at eof s1 ≡ Done s1 = ap (λ o. perform texts at eof (rule_of o Eof) s1) here.stands.mode in
    (s1, subst (λ (v : State Name). Step texts at eof v (Goes s1)) (sym here.is) (goes refl (ends done)), no_token refl))) ts tokens in
    record { reached = ended.reached; steps = ended.steps; trees_are = ended.there }
