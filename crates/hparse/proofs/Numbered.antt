-- The tokens of a text as numbers and as texts: what comes of them is the same, and their names are of the table.
use Rattle.hparse.proofs.Names.{◌≡◌, ℕ, List, [], ◌∷◌, map, sym, refl, ap, ◌∙◌, Some, false, slice_get, Attr, Texts, AreNames, tag_named, spelling, AttrsMean, Given, Tok, TokenMeans, tree, none, attribute_of, numbers, texts, mapped_placed, mapped_state, PlacedToken, State, start, end, numbers-agree, TokensMean, token_placed, Tag, Html, tag_of, element, mapped_attribute, Agree, Limits, fragment_begins, form_of, control_in, context_mode, eqb, zero, suc, ◌<◌, length, arith, AreOf, token_of, TokensAreOf, cond_both, IsOf, Forest, join, children_of, AttributesAreOf, TokenIsOf}
use Rattle.names.proofs.AllTexts.{spelled as table_mapped}
use Rattle.htoken.specs.declared.token.Token.TheVariants as code
use Rattle.hnodes.specs.Forest.{document}
pub use Rattle.hparse.specs.BuilderWithOrigins.{placed_number}

module _ (names : Texts) (are : AreNames names) where
  abbrev pub spell : ℕ → List ℕ
  spell = spelling names

  spells : (id : ℕ) (text : List ℕ) → slice_get names id ≡ Some text → spell id ≡ text
  spells = (table_mapped names are).table

  attributes_mapped : (attrs : List Attr) (meant : List (List ℕ × List ℕ)) → AttrsMean names attrs meant
      → map (mapped_attribute spell) (map attribute_of attrs) ≡ meant
  attributes_mapped [] [] h = refl
  attributes_mapped (a ∷ attrs) (t ∷ meant) h = (λ i. (spells a.name t.0 h.0 i, h.1 i) ∷ map (mapped_attribute spell) (map attribute_of attrs))
      ∙ ap (λ (x : List (List ℕ × List ℕ)). t ∷ x) (attributes_mapped attrs meant h.2)
  attributes_mapped _ _ h = absurd h

  token_mapped : (t : Given) (tok : Tok) → TokenMeans names t tok → mapped_placed spell (placed_number t) ≡ token_placed tok
  token_mapped (code.Start name attrs closing at) tok (text, meant, is, are_meant, e) =
      (λ i. record { token = start (spells name text is i) (attributes_mapped attrs.items meant are_meant i) closing; at = at }) ∙ sym (ap token_placed e)
  token_mapped (code.End name at) tok (text, is, e) = (λ i. record { token = end (spells name text is i); at = at }) ∙ sym (ap token_placed e)
  token_mapped _ tok h = sym (ap token_placed h)

  pub tokens_mapped : (ts : List Given) (ks : List Tok) → TokensMean names ts ks → map (mapped_placed spell) (map placed_number ts) ≡ map token_placed ks
  tokens_mapped [] [] h = refl
  tokens_mapped (t ∷ ts) (k ∷ ks) h = (λ i. token_mapped t k h.0 i ∷ map (mapped_placed spell) (map placed_number ts))
      ∙ ap (λ (x : List (PlacedToken (List ℕ))). token_placed k ∷ x) (tokens_mapped ts ks h.1)
  tokens_mapped _ _ h = absurd h

  agree : Agree numbers texts spell
  agree = numbers-agree names are

  -- the state in which a fragment begins, from html's name, what is known of the context, and its name
  began_in : Limits → List ℕ → Tag → List ℕ → State (List ℕ)
  began_in limits html tag context = record {
    site = record {
      nodes = record { limit = limits.nodes; made = 2; trees = tree 0 document (tree 1 (element html []) none none) none };
      open_nodes = record { limit = limits.depth; stack = record { node = 1; name = html } ∷ [] };
      items = [];
      foster = false;
      errors = [];
      again = [];
    };
    control = control_in (context_mode tag) (form_of tag);
    context = Some context;
    quirks_list = [];
  }

  -- a fragment begins in its context
  pub fragment_mapped : (id : ℕ) (context : List ℕ) (limits : Limits) → slice_get names id ≡ Some context
      → mapped_state spell (fragment_begins numbers id limits) ≡ fragment_begins texts context limits
  unfolding began_in
  fragment_mapped id context limits is = let html = sym (agree.known Html) in
      let same : tag_of id ≡ tag_named context = sym (agree.spelling.tags id) ∙ ap tag_named (spells id context is) in
      λ i. began_in limits (html i) (same i) (spells id context is i)

-- THE NAMES of what was parsed

pub within : (names : Texts) (id : ℕ) (text : List ℕ) → slice_get names id ≡ Some text → IsOf names id
within [] id text e = absurd cc
within (x ∷ names) zero text e = omega arith
within (x ∷ names) (suc id) text e = let later : id < length names = within names id text e in omega arith

attributes_of_table : (names : Texts) (attrs : List Attr) (meant : List (List ℕ × List ℕ)) → AttrsMean names attrs meant
    → AttributesAreOf names (map attribute_of attrs)
attributes_of_table names [] [] h = tt
attributes_of_table names (a ∷ attrs) (t ∷ meant) h = (within names a.name t.0 h.0, attributes_of_table names attrs meant h.2)
attributes_of_table names _ _ h = absurd h

token_of_table : (names : Texts) (t : Given) (tok : Tok) → TokenMeans names t tok → TokenIsOf names (token_of t)
token_of_table names (code.Start name attrs closing at) tok (text, meant, is, are, e) =
    (within names name text is, attributes_of_table names attrs.items meant are)
token_of_table names (code.End name at) tok (text, is, e) = within names name text is
token_of_table names _ tok h = tt

pub tokens_of_table : (names : Texts) (ts : List Given) (ks : List Tok) → TokensMean names ts ks → TokensAreOf names (map placed_number ts)
tokens_of_table names [] [] h = tt
tokens_of_table names (t ∷ ts) (k ∷ ks) h = (token_of_table names t k h.0, tokens_of_table names ts ks h.1)
tokens_of_table names _ _ h = absurd h

-- the names inside a node are of the table that those of the whole are of
joined_are_of : (names : Texts) (f g : Forest ℕ) → AreOf names f → AreOf names g → AreOf names (join f g)
joined_are_of names none g h k = k
joined_are_of names (tree b w kids rest) g h k = (h.0, h.1, joined_are_of names rest g h.2 k)

pub children_are_of : (names : Texts) (n : ℕ) (f : Forest ℕ) → AreOf names f → AreOf names (children_of n f)
children_are_of names n none h = tt
children_are_of names n (tree b w kids rest) h = cond_both (eqb b n) kids (join (children_of n kids) (children_of n rest)) (AreOf names) (λ _. h.1)
    (λ _. joined_are_of names (children_of n kids) (children_of n rest) (children_are_of names n kids h.1) (children_are_of names n rest h.2))
