-- Names that are texts, and lists that the table calls content, are as the law of building asks.
use Rattle.hlaws.proofs.Names.{false_from_ne_true, ◌≡◌, ℕ, Bool, true, false, cond, List, [], ◌∷◌, refl, sym, ◌∙◌, ap, bytes_eq-Decides, bytes_eq, Tag, tag_text, tags, tag_named, texts, family_of, holds_list_items, is_dl, is_a, is_button, tag_among, different, nat_tests, zero, suc, ◌<◌, not, ◌&&◌, ◌++◌, subst, arith, ◌⊎◌, inl, inr, and_parts, false≢true, eqb-true, not-true, encodes-chars, encode_ascii, IsUtf8, chars, encode_utf8, encode_utf8_all, codes, ◌==◌, list_all, Forest, none, tree, element, text, Content, takes_comments, texts_in, takes_space, HoldsUtf8, Inside, inside_element, inside_node, is_nested, are_content, is_plain_node, is_plain_text, is_plain_comment, has_no_null_or_return, is_among_texts, begins_with, begins_with_text, begins_with_line_feed, drops_line_feed, is_empty_text, encodes-IsAscii, chars_from_encodes, IsAscii, is_ascii_whitespace, Texts}
use Rattle.names.specs.declared.tag.Tag.TheVariants as tag
use Rattle.hmodes.specs.declared.family.Family.TheVariants as family
use Rattle.hlaws.proofs.Content.{is_p, three, four}
use Rattle.hlaws.proofs.Whole.{NameLaws, Good, LfSafe, TextFits, TextIn}
use Rattle.hnodes.specs.Forest as forest
use Rattle.hserialize.specs.declared.content.Content.TheVariants as content
use Rattle.hserialize.specs.declared.content.Texts.TheVariants as allowed
use Rattle.hlaws.proofs.TokensText.{clean_text, is_clean_char, IsText}

-- a text that is known by a name is that name's
pub named_back : (ts : List Tag) (x : List ℕ) (t : Tag) → tag_among ts x ≡ t → (t ≡ tag.Other → ⊥) → x ≡ tag_text t
named_back [] x t e h = absurd (h (sym e))
named_back (u ∷ ts) x t e h = go (named_back ts x t) (bytes_eq (tag_text u) x) refl e where
  go : (tag_among ts x ≡ t → (t ≡ tag.Other → ⊥) → x ≡ tag_text t) → (b : Bool) → bytes_eq (tag_text u) x ≡ b → cond b u (tag_among ts x) ≡ t → x ≡ tag_text t
  go r true s e' = sym ((bytes_eq-Decides (tag_text u) x).0 s) ∙ ap tag_text e'
  go r false s e' = r e' h

-- the text of a known name is compared as the name is asked for
knows : (t : Tag) (test : Tag → Bool) → (t ≡ tag.Other → ⊥) → test (tag_named (tag_text t)) ≡ true → ((u : Tag) → test u ≡ true → u ≡ t) → (x : List ℕ)
    → bytes_eq x (tag_text t) ≡ test (tag_named x)
knows t test proper is only x = go (bytes_eq x (tag_text t)) refl where
  go : (b : Bool) → bytes_eq x (tag_text t) ≡ b → bytes_eq x (tag_text t) ≡ test (tag_named x)
  go true e = e ∙ sym (ap (λ y. test (tag_named y)) ((bytes_eq-Decides x (tag_text t)).0 e) ∙ is)
  go false e = e ∙ sym (false_from_ne_true _ (λ s. let y = (bytes_eq-Decides x (tag_text t)).1 (named_back tags x t (only (tag_named x) s) proper) in cc))

-- a text that is known by this name
is_named : (t : Tag) → (t ≡ tag.Other → ⊥) → (x : List ℕ) → tag_named x ≡ t → bytes_eq x (tag_text t) ≡ true
is_named t proper x e = (bytes_eq-Decides x (tag_text t)).1 (named_back tags x t e proper)

-- the name that alone passes a test, or is of a family
only : (u : Tag) → (is_p u ≡ true → u ≡ tag.P) × (is_button u ≡ true → u ≡ tag.Button) × (family_of u ≡ family.Table → u ≡ tag.Table)
    × (family_of u ≡ family.Caption → u ≡ tag.Caption) × (family_of u ≡ family.Row → u ≡ tag.Tr)
only tag.P = (λ h. refl, λ h. cc, λ h. cc, λ h. cc, λ h. cc)
only _ = (λ h. cc, λ h. cc, λ h. cc, λ h. cc, λ h. cc)

-- a text of another name
not_named : (t : Tag) (test : Tag → Bool) (x : List ℕ) → test (tag_named (tag_text t)) ≡ false → test (tag_named x) ≡ true → bytes_eq x (tag_text t) ≡ false
not_named t test x away h = different x (tag_text t) (λ e. let y = ap (λ z. test (tag_named z)) e in cc)

pub text_laws : NameLaws texts
text_laws = record {
  same_self = λ x. (bytes_eq-Decides x x).1 refl;
  knows_p = knows tag.P is_p (λ e. cc) refl (λ u. (only u).0);
  button = knows tag.Button is_button (λ e. cc) refl (λ u. (only u).1);
  anchor = λ x y a b. different y x (λ e. let z = ap (λ t. is_a (tag_named t)) e in cc);
  table = λ x e. is_named tag.Table (λ e. cc) x ((only (tag_named x)).2 e);
  caption = λ x e. is_named tag.Caption (λ e. cc) x ((only (tag_named x)).3 e);
  table_row = λ x e. is_named tag.Tr (λ e. cc) x ((only (tag_named x)).4 e);
  li = λ x e. not_named tag.Li holds_list_items x refl e;
  dd = λ x e. not_named tag.Dd is_dl x refl e;
  dt = λ x e. not_named tag.Dt is_dl x refl e;
}

-- TEXTS

pub is_text : (t : List ℕ) → IsUtf8 t → is_empty_text t ≡ false → has_no_null_or_return t ≡ true → IsText t
is_text t u some clean = go (chars t) refl where
  bytes_are : encode_utf8_all (chars t) ≡ t
  bytes_are = encodes-chars t u

  go : (cs : List ℕ) → chars t ≡ cs → IsText t
  go [] e = absurd (let z : [] ≡ t = sym (ap encode_utf8_all e) ∙ bytes_are in let y = ap is_empty_text z in cc)
  go (c ∷ cs) e = let b : encode_utf8_all (c ∷ cs) ≡ t = sym (ap encode_utf8_all e) ∙ bytes_are in
      record { one = c; more = cs; mapped = e; bytes = b; clean = ap (list_all is_clean_char) (sym e) ∙ clean_text t u clean }

space_small : (b : ℕ) → is_ascii_whitespace b ≡ true → b < 128
space_small b h = grind (arith, nat_tests)

spaces_ascii : (t : List ℕ) → list_all is_ascii_whitespace t ≡ true → IsAscii t
spaces_ascii [] h i = omega arith
spaces_ascii (b ∷ bs) h zero = space_small b (and_parts _ _ h).0
spaces_ascii (b ∷ bs) h (suc i) = spaces_ascii bs (and_parts (is_ascii_whitespace b) _ h).1 i

pub spaced : (t : List ℕ) (is : IsText t) → IsUtf8 t → list_all is_ascii_whitespace t ≡ true → list_all is_ascii_whitespace (is.one ∷ is.more) ≡ true
spaced t is u h = let same : t ≡ chars t = chars_from_encodes t t u (encodes-IsAscii t (spaces_ascii t h)) in
    sym (ap (list_all is_ascii_whitespace) (same ∙ is.mapped)) ∙ h

first_line_feed : (t : List ℕ) (is : IsText t) → begins_with (codes "\n") t ≡ false → (is.one == 10) ≡ false
first_line_feed t is h = false_from_ne_true _ (λ e. let ten : is.one ≡ 10 = eqb-true is.one 10 e in
    let bytes : 10 ∷ encode_utf8_all is.more ≡ t =
    sym (ap (λ c. encode_utf8 c ++ encode_utf8_all is.more) ten ∙ ap (λ l. l ++ encode_utf8_all is.more) (encode_ascii 10 (omega arith))) ∙ is.bytes in
    let z = ap (begins_with (codes "\n")) bytes in
    cc)

-- WHERE TEXTS STAND

-- the texts of a list are those of its content, or it has none
abbrev pub TextsFit : Inside → Type 0
TextsFit i = (i.texts ≡ texts_in i.content) ⊎ (i.texts ≡ allowed.None)

text_in : (k : Content) (t : List ℕ) (is : IsText t) → IsUtf8 t → is_among_texts (texts_in k) t ≡ true → TextIn k (takes_space (texts_in k)) (is.one ∷ is.more)
text_in content.TableParts t is u h = (spaced t is u h, refl)
text_in content.TableRows t is u h = (spaced t is u h, refl)
text_in content.Cells t is u h = (spaced t is u h, refl)
text_in content.Columns t is u h = spaced t is u h
text_in content.Empty t is u h = absurd (false≢true h)
text_in content.Around t is u h = absurd (false≢true h)
text_in k t is u h = tt

text_fits : (i : Inside) (t : List ℕ) (is : IsText t) → IsUtf8 t → TextsFit i → is_among_texts i.texts t ≡ true → TextFits i (is.one ∷ is.more)
text_fits i t is u (inr e) h = absurd (let z = ap (λ v. is_among_texts v t) e in cc)
text_fits i t is u (inl e) h =
    subst (λ (v : Texts). TextIn i.content (takes_space v) (is.one ∷ is.more)) (sym e) (text_in i.content t is u (ap (λ v. is_among_texts v t) (sym e) ∙ h))

-- LISTS OF TREES

not_empty : (i : Inside) (b : ℕ) (w : forest.What (List ℕ)) (kids rest : Forest (List ℕ))
    → is_plain_node (record i { content = content.Empty; texts = allowed.None }) w kids rest ≡ true → ⊥
not_empty i b (text t) kids rest h =
    let z = (and_parts (not (is_empty_text t) && has_no_null_or_return t) false
    (and_parts (is_plain_text allowed.None t) (not (begins_with_text rest)) h).0).1 in
    cc
not_empty i b _ kids rest h = cc

pub lf_safe : (v : Bool) (kids : Forest (List ℕ)) → not (v && begins_with_line_feed kids) ≡ true → LfSafe v kids
lf_safe false (tree b (text t) kids rest) h = λ is. refl
lf_safe true (tree b (text t) kids rest) h = λ is. first_line_feed t is (not-true _ h)
lf_safe v _ h = tt

pub good : (i : Inside) (l : Forest (List ℕ)) → TextsFit i → HoldsUtf8 l → are_content i l ≡ true → Good texts i l
good i none fit u h = tt
good i (tree b (element x attrs) kids rest) fit u h = let h3 = three i b (element x attrs) kids rest h in let f = four _ _ _ _ h3.node in (
  f.0,
  not-true (is_nested i (tag_named x)) f.1,
  lf_safe (drops_line_feed (tag_named x)) kids f.3,
  good (inside_element (tag_named x) i) kids (inl refl) u.2 h3.children,
  good i rest fit u.3 h3.others,
)
good i (tree b (text t) none rest) fit u h = let h3 = three i b (text t) none rest h in let node = h3.node in
    let is = is_text t u.0 (grind arith) (grind arith) in
    (record { is = is; fits = text_fits i t is u.0 fit (grind arith) }, grind arith, good i rest fit u.2 h3.others)
good i (tree b (forest.comment t) none rest) fit u h = let h3 = three i b (forest.comment t) none rest h in
    ((and_parts (takes_comments i.content) (is_plain_comment t) h3.node).0, good i rest fit u.2 h3.others)
good i (tree b w (tree b' w' kids' rest') rest) fit u h =
    absurd (not_empty i b' w' kids' rest' (three (inside_node w i) b' w' kids' rest' (three i b w (tree b' w' kids' rest') rest h).children).node)
good i _ fit u h = absurd (false≢true h)
