-- Plain lists of trees and plain documents come back, as their tokens are read and build them.
use Rattle.hlaws.proofs.Names.{◌≡◌, ℕ, ◌≤◌, List, ◌++◌, length, map, None, Ok, refl, sym, ap, ◌∙◌, subst, IsUtf8, ParseError, Placed, input_errors, Policy, read_len, refusal_of, Tok, Tokens, texts, Goes, State, Steps, reads_in, input_text, start_of, start_kind, ParseOptions, manner, policy, Parse, Parses, accepted, token_placed, decoded_text, in_order, order-permutes, order-sorted, take, ParseCase, first_state, take-length, BadBytes, rules, suc, ◌+◌, Bool, true, false, not, ◌∷◌, arith, Forest, size, BuildsForest, begins_with_line_feed, trees, PlainBuilds, ActsAs, [], Some, ◌⊎◌, inl, inr, ne_eqb, false≢true, none, tree, children_of, join-none, raw_kind, tag_named, tag_text, Tag, Mode, InBody, InCaption, InCell, InTable, InTableBody, InRow, fragment_begins, rule_of, perform, eof, Done, Rule, step_begun, ends, goes, Content, Escaping, fits_mode, fits_current, is_flow_mode, numbered_forest, HoldsUtf8, AreRead, fragment, is_context, token_taken, row, texts_in, Inside, are_content, are_content_if, in_context_of, is_form_element, plain_tokens, IsQuiet, stack, erased, node, context_mode, Keep, FitsForest, GivesForest, PlainComesBack, written, ◌&&◌, ◌||◌, nat_le, bytes_eq, codes, is_refused, tags, is_plain, is_plain_name, IsBuiltForest, What, no_tree, document, PlainDocumentComesBack, GivesDocument, without_identifiers, ComesBackWithoutIdentifiers, written_among, node_text, is_raw_in, name_in, max, depth}
use Rattle.htext.specs.declared.BadBytes.TheVariants as bad
use Rattle.htext.proofs.Refusals as refusals
use Rattle.hlaws.proofs.OneAnswer.{all-read}
use Rattle.hlaws.specs.Building as spec
use Rattle.hlaws.proofs.FromTable.{good, lf_safe, text_laws, named_back}
use Rattle.hlaws.proofs.Rules.{state}
use Rattle.hlaws.proofs.Whole.{Quiet, LfSafe, builds}
use Rattle.names.specs.declared.tag.Tag.TheVariants as tag
use Rattle.hmodes.specs.declared.token_kind.TokenKind.TheVariants.{Eof}
use Rattle.hserialize.specs.declared.content.Content.TheVariants as content
use Rattle.hserialize.specs.declared.content.Texts.TheVariants as allowed
use Rattle.hlaws.proofs.TokensText.{AreTokens, Led, Leads, no_token, token_then, tokens_then}
use Rattle.hlaws.proofs.Content.{own_mode}
use Rattle.hlaws.proofs.TokensWhole.{tokens_law, document_tokens}
use Rattle.hnodes.specs.Forest as forest
use Rattle.hlaws.proofs.Documents.{law}

-- bytes in UTF-8 that fit are accepted, whatever becomes of bad ones, and all read
accepted-bytes : (how : Policy) (bytes : List ℕ) → IsUtf8 bytes → length bytes ≤ how.limit → refusal_of how bytes ≡ None
accepted-bytes how bytes utf8 within = by how.bad where
  by : (of : BadBytes) → refusal_of (record { bom = how.bom; bad = of; limit = how.limit }) bytes ≡ None
  by bad.Refuse = (refusals.accepted how.limit bytes).1 (utf8, within)
  by bad.Replace = (refusals.replaced how.bom how.limit bytes).1 within

front-is : (how : Policy) (bytes : List ℕ) → refusal_of how bytes ≡ None → take (read_len how bytes) bytes ≡ bytes
front-is how bytes e = ap (λ (n : ℕ). take n bytes) (all-read how bytes e) ∙ take-length bytes

pub record IsAccepted (opts : ParseOptions) (parse_case : ParseCase) (bytes : List ℕ) (state : State (List ℕ)) : Type 0 where
  pub parse : Parse
  pub parses : Parses opts parse_case bytes (Ok parse)
  pub trees : parse.trees ≡ state.site.nodes.trees

pub accepts : (opts : ParseOptions) (parse_case : ParseCase) (bytes : List ℕ) (toks : List Tok) (errors : List ParseError) (state : State (List ℕ))
    → IsUtf8 bytes → length bytes ≤ opts.input
    → Tokens opts.table (start_kind (start_of parse_case)) (decoded_text (policy opts parse_case).bom bytes) (length bytes) toks errors
    → Steps texts (map token_placed toks) (first_state opts parse_case) (Goes state) → IsAccepted opts parse_case bytes state
accepts opts parse_case bytes toks errors state utf8 within read steps = let how = policy opts parse_case in
    let none : refusal_of how bytes ≡ None = accepted-bytes how bytes utf8 within in
    let all = input_errors (reads_in (manner opts parse_case) bytes) ++ (errors ++ state.site.errors) in
    let same : decoded_text how.bom bytes ≡ input_text (manner opts parse_case) bytes = ap (decoded_text how.bom) (sym (front-is how bytes none)) in
    let taken = subst (λ (t : List Placed). Tokens opts.table (start_kind (start_of parse_case)) t (length bytes) toks errors) same read in
    let parses = accepted errors (in_order all) state (record { tokens = toks; read = taken; steps = steps }) (order-permutes all) (order-sorted all) none in
    record { parse = record { trees = state.site.nodes.trees; errors = in_order all }; parses = parses; trees = refl }

dropping : (v : Bool) (l : Forest (List ℕ)) → (v ≡ true → begins_with_line_feed l ≡ false) → LfSafe v l
dropping false l h = lf_safe false l refl
dropping true l h = lf_safe true l (ap not (h refl))

pub plain_builds : PlainBuilds
plain_builds inside l s ts q utf8 plain well room h = subst (λ (v : State (List ℕ)). BuildsForest texts l q.current.node ts v) (sym same) at_literal where
  literal : State (List ℕ)
  literal = state s s.site.nodes.made (trees s.site) (q.current ∷ q.up) s.site.items s.control

  same : s ≡ literal
  same = λ i. record s { site = record s.site { open_nodes = record s.site.open_nodes { stack = q.stack_is i }; foster = q.foster_off i } }

  quiet : Quiet texts s.context inside s.site.nodes.made (trees s.site) q.current q.up s.site.items s.control
  quiet = let mode = sym q.mode_is in search rules

  deep : suc (length q.up) + spec.depth l ≤ s.site.open_nodes.limit
  deep = let e = ap length q.stack_is in let r = room.open_nodes in omega arith

  at_literal : BuildsForest texts l q.current.node ts literal
  at_literal =
      let built = builds texts text_laws s l inside s.site.nodes.made (trees s.site) q.current q.up s.site.items s.control literal quiet
      (good inside l q.texts_fit utf8 plain) (λ at t o e chain. chain) (λ e. refl) well.text (dropping s.control.drop_lf l well.line_feed) room.nodes deep
      ts h in
      let k = built.there in
      let acted = state s (s.site.nodes.made + size l) (spec.under q.current.node (spec.numbered_forest s.site.nodes.made l) (trees s.site)) (q.current ∷ q.up)
      k.items' k.control' in
      record
      { reached = built.reached; acted = acted; steps = built.steps; acts = k.acts; built = let keeps = k.keeps in let thinned = k.thinned in search rules }

-- CONTEXTS

-- whether a parser takes a context of this name, which is known as t
abbrev is_taken : Tag → List ℕ → Bool
is_taken t name = nat_le (length name) 64 && is_plain_name name && not (bytes_eq name (codes "colgroup") || is_refused t)

-- whether a list is plain in it
abbrev is_plain_in : Tag → Forest (List ℕ) → Bool
is_plain_in t l = are_content_if (in_context_of (row t).1 (is_form_element t)) l

known : (t : Tag) (l : Forest (List ℕ)) → is_plain_in t l ≡ true → is_taken t (tag_text t) ≡ true
known tag.Other l h = cc
known _ l h = cc

-- a context in which lists are plain is one that a parser takes
context_taken : (context : List ℕ) (l : Forest (List ℕ)) → is_plain context l ≡ true → is_context context ≡ true
context_taken context l plain =
    let named : context ≡ tag_text (tag_named context) = named_back tags context (tag_named context) refl (λ e.
    let z = ap (λ t. is_plain_in t l) (sym e) ∙ plain in cc) in
    ap (is_taken (tag_named context)) named ∙ known (tag_named context) l plain

-- a list under other numbers
pub erased-numbered : (k : ℕ) (l : Forest (List ℕ)) → erased (numbered_forest k l) ≡ erased l
erased-numbered k none = refl
erased-numbered k (tree b w kids rest) = let x = erased-numbered (k + 1) kids in let y = erased-numbered (k + 1 + size kids) rest in λ i. node w (x i) (y i)

-- the mode of a context is that of its content
abbrev mode_ok : Content → Mode → Bool
mode_ok content.TableParts m = fits_mode content.TableParts m
mode_ok content.TableRows m = fits_mode content.TableRows m
mode_ok content.Cells m = fits_mode content.Cells m
mode_ok content.Columns m = true
mode_ok content.Empty m = true
mode_ok _ m = is_flow_mode m

context_ok : (t : Tag) → mode_ok (row t).1 (context_mode t) ≡ true
context_ok tag.A = refl
context_ok _ = refl

pub placed_token : (toks : List Tok) → map (λ t. t.token) (map token_placed toks) ≡ map token_taken toks
placed_token [] = refl
placed_token (t ∷ toks) = ap (λ ts. token_taken t ∷ ts) (placed_token toks)

abbrev ends_body : Mode → Bool
ends_body InBody = true
ends_body InCaption = true
ends_body InCell = true
ends_body InTable = true
ends_body InTableBody = true
ends_body InRow = true
ends_body _ = false

eof_rule : (m : Mode) → ends_body m ≡ true → rule_of m Eof ≡ rule_of InBody Eof
eof_rule InBody h = refl
eof_rule _ h = cc

flow_ends : (m : Mode) → is_flow_mode m ≡ true → ends_body m ≡ true
flow_ends InBody h = refl
flow_ends _ h = cc

module _ (opts : ParseOptions) (escaping : Escaping) (context : List ℕ) (allowed_here : is_context context ≡ true) (l : Forest (List ℕ)) (utf8 : HoldsUtf8 l)
    (fits : FitsForest opts (written escaping (Some context) l) l)
    (read : AreRead opts.table Keep (raw_kind (tag_named context)) (written escaping (Some context) l) (plain_tokens texts l ++ eof ∷ [])) where
  abbrev start_state : State (List ℕ)
  start_state = fragment_begins texts context opts.limits

  abbrev mode : Mode
  mode = context_mode (tag_named context)

  begins : (inside : Inside) → fits_mode inside.content mode ≡ true → fits_current inside.content inside.texts (tag_named (tag_text tag.Html)) ≡ true
      → (inside.texts ≡ texts_in inside.content) ⊎ (inside.texts ≡ allowed.None) → inside.in_form ≡ is_form_element (tag_named context)
      → IsQuiet texts inside start_state
  begins inside m cur t form = record {
    current = record { node = 1; name = tag_text tag.Html };
    up = [];
    stack_is = refl;
    once = refl;
    free = λ k h. rw (ne_eqb 0 k (λ e. omega arith), ne_eqb 1 k (λ e. omega arith)) (omega arith);
    lower = (omega arith, tt);
    entries_lower = tt;
    listed = tt;
    foster_off = refl;
    mode_is = refl;
    mode_fits = m;
    current_fits = cur;
    texts_fit = t;
    no_p = λ h. refl;
    no_button = λ h. refl;
    no_a = λ h y e. refl;
    no_form = λ h. rw (sym form ∙ h) refl;
  }

  -- the end of the input
  at_end : (at : ℕ) (acted : State (List ℕ)) → stack acted.site ≡ stack start_state.site → ends_body acted.control.mode ≡ true
      → Rule texts at eof (step_begun acted) ≡ Done (step_begun acted)
  at_end at acted opened m = ap (λ r. perform texts at eof r (step_begun acted)) (eof_rule acted.control.mode m) ∙ rw opened refl

  from_inside : (inside : Inside) → fits_mode inside.content mode ≡ true → fits_current inside.content inside.texts (tag_named (tag_text tag.Html)) ≡ true
      → (inside.texts ≡ texts_in inside.content) ⊎ (inside.texts ≡ allowed.None) → inside.in_form ≡ is_form_element (tag_named context) → ends_body mode ≡ true
      → are_content inside l ≡ true → GivesForest opts context (written escaping (Some context) l) l
  unfolding begins
  from_inside inside m cur t form ending plain = let q = begins inside m cur t form in
      let tokens_are : AreTokens (map token_placed read.toks) (plain_tokens texts l ++ eof ∷ []) = placed_token read.toks ∙ read.are in
      let begun : Leads texts (plain_tokens texts l) start_state
      (λ v. (acted : State (List ℕ)) × ActsAs texts v acted × IsBuiltForest texts l 1 start_state acted) = λ ts h.
      let b = plain_builds inside l start_state ts q utf8 plain (record { text = λ h. refl; line_feed = λ h. absurd cc })
      (record { nodes = let n = fits.nodes in omega arith; open_nodes = let o = fits.open_nodes in omega arith }) h in
      record { reached = b.reached; steps = b.steps; there = (b.acted, b.acts, b.built) } in
      let ended : Led texts start_state (λ v. (acted : State (List ℕ)) × (v ≡ step_begun acted) × IsBuiltForest texts l 1 start_state acted)
      (map token_placed read.toks) = tokens_then begun (λ v b. let acted = b.0 in
      token_then (λ at. (
        step_begun acted,
        goes refl (b.1 at eof (Goes (step_begun acted)) refl (ends (at_end at acted (ap (λ o. o.stack) b.2.open_same) (ap ends_body b.2.mode ∙ ending)))),
        no_token (acted, refl, b.2),
      ))) (map token_placed read.toks) tokens_are in
      let done =
      accepts opts (fragment context) (written escaping (Some context) l) read.toks read.errors ended.reached read.utf8 fits.input read.read ended.steps in
      let built = ap (λ f. erased (children_of 1 f)) ended.there.2.trees_are ∙ ap erased (join-none (numbered_forest 2 l)) ∙ erased-numbered 2 l in
      let grown = done.trees ∙ ap (λ (v : State (List ℕ)). trees v.site) ended.there.1 in
      record { allowed = allowed_here; parse = done.parse; parses = done.parses; children = ap (λ f. erased (children_of 1 f)) grown ∙ built }

  comes : (k : Content) → (row (tag_named context)).1 ≡ k → are_content_if (in_context_of k (is_form_element (tag_named context))) l ≡ true
      → GivesForest opts context (written escaping (Some context) l) l
  comes k e h = go k (ap (λ c. mode_ok c mode) (sym e) ∙ context_ok (tag_named context)) h where
    go : (k : Content) → mode_ok k mode ≡ true → are_content_if (in_context_of k (is_form_element (tag_named context))) l ≡ true
        → GivesForest opts context (written escaping (Some context) l) l
    go content.TableParts m h = from_inside _ m refl (inr refl) refl (ap ends_body ((own_mode mode).parts m)) h
    go content.TableRows m h = from_inside _ m refl (inr refl) refl (ap ends_body ((own_mode mode).rows m)) h
    go content.Cells m h = from_inside _ m refl (inr refl) refl (ap ends_body ((own_mode mode).cells m)) h
    go content.Columns m h = absurd (false≢true h)
    go content.Empty m h = absurd (false≢true h)
    go _ m h = from_inside _ m refl (inl refl) refl (flow_ends mode m) h

-- the law
pub comes_back : PlainComesBack
comes_back opts escaping context l is_table core utf8 plain fits = comes opts escaping context (context_taken context l plain) l utf8 fits
    (tokens_law opts.table escaping context l is_table core utf8 plain) (row (tag_named context)).1 refl plain

pub document_comes_back : PlainDocumentComesBack
document_comes_back opts escaping l is_table core utf8 plain within fits = let read = document_tokens opts.table escaping l is_table core utf8 plain in
    let b = law opts.quirks opts.limits l (map token_placed read.toks) utf8 plain fits (placed_token read.toks ∙ read.are) in
    let k = accepts opts document (written escaping None l) read.toks read.errors b.reached read.utf8 within read.read b.steps in
    let trees_are = k.trees ∙ b.trees_are in
    record { parse = k.parse; parses = k.parses; tree_is = ap erased trees_are ∙ ap (λ x. node forest.document x no_tree) (erased-numbered 1 l) }

-- IDENTIFIERS

texts_without : (l : Forest (List ℕ)) → HoldsUtf8 l → HoldsUtf8 (without_identifiers l)
texts_without none u = u
texts_without (tree n (forest.element name attrs) kids rest) u = (u.0, u.1, u.2, texts_without rest u.3)
texts_without (tree n (forest.text t) kids rest) u = (u.0, u.1, texts_without rest u.2)
texts_without (tree n (forest.comment t) kids rest) u = (u.0, u.1, texts_without rest u.2)
texts_without (tree n _ kids rest) u = (u.0, texts_without rest u.1)

-- what is written of a list, and its size and depth, do not tell of identifiers
record Same (how : Escaping) (l m : Forest (List ℕ)) : Type 0 where
  pub written_is : written how None m ≡ written how None l
  pub size_is : size m ≡ size l
  pub depth_is : depth m ≡ depth l

with_node : (how : Escaping) (n : ℕ) (w : What (List ℕ)) (kids rest rest' : Forest (List ℕ)) → Same how rest rest'
    → Same how (tree n w kids rest) (tree n w kids rest')
with_node how n w kids rest rest' s = record {
  written_is = ap (λ x. node_text how false w (written_among how (is_raw_in (name_in w)) kids) ++ x) s.written_is;
  size_is = ap (λ x. 1 + (size kids + x)) s.size_is;
  depth_is = of_node w;
} where
  of_node : (w : What (List ℕ)) → depth (tree n w kids rest') ≡ depth (tree n w kids rest)
  of_node (forest.element name attrs) = ap (max (suc (depth kids))) s.depth_is
  of_node _ = s.depth_is

same_without : (how : Escaping) (l : Forest (List ℕ)) → Same how l (without_identifiers l)
same_without how none = record { written_is = refl; size_is = refl; depth_is = refl }
same_without how (tree n (forest.doctype name public_id system_id) kids rest) = let s = same_without how rest in
    let written_is = ap (λ (x : List ℕ). (codes "<!DOCTYPE " ++ name ++ codes ">") ++ x) s.written_is in
    record { written_is = written_is; size_is = ap (λ x. 1 + (size kids + x)) s.size_is; depth_is = s.depth_is }
same_without how (tree n w kids rest) = with_node how n w kids rest (without_identifiers rest) (same_without how rest)

pub document_comes_back_without : ComesBackWithoutIdentifiers
document_comes_back_without opts escaping l is_table core utf8 plain within fits = let s = same_without escaping l in let n = fits.nodes in
    let d = fits.open_nodes in
    subst (λ (bytes : List ℕ). GivesDocument opts bytes (without_identifiers l)) s.written_is (document_comes_back opts escaping (without_identifiers l)
    is_table core (texts_without l utf8) plain (subst (λ (bytes : List ℕ). length bytes ≤ opts.input) (sym s.written_is) within)
    (record { nodes = omega (arith, s.size_is, n); open_nodes = omega (arith, s.depth_is, d) }))
