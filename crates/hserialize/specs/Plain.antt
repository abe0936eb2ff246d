-- Plain lists of trees: what the table of content says of them, and what holds of every text, comment and attribute.
use Rattle.std.specs.Prelude.{ℕ, nat_eq, Bool, true, false, not, ◌&&◌, ◌||◌, ◌==◌, List, [], ◌∷◌, Option, Some, None, codes, bytes_eq}
use Rattle.std.specs.Char.{is_ascii_whitespace, is_ascii_lowercase, is_ascii_digit}
use Rattle.std.specs.List.{list_any, list_all, starts_with}
use Rattle.names.specs.declared.tag.Tag.{Tag}
use Rattle.names.specs.declared.tag.Tag.TheVariants as tag
use Rattle.names.specs.Sets.{is_button}
use Rattle.names.specs.Tags.{tag_named}
use Rattle.hnodes.specs.Clean.{has_no_null_or_return}
use Rattle.hnodes.specs.Forest.{Attribute, What, document, doctype, element, comment, text, Forest, none, tree}
use Rattle.hserialize.specs.Walk.{inserts_marker}
use Rattle.hserialize.specs.Words.{is_empty_text}
use Rattle.hserialize.specs.ContentTable.{row, takes_role, texts_in, takes_comments}
use Rattle.hserialize.specs.declared.content.Content.{Content}
use Rattle.hserialize.specs.declared.content.Content.TheVariants as content
use Rattle.hserialize.specs.declared.content.Texts.{Texts}
use Rattle.hserialize.specs.declared.content.Texts.TheVariants as texts

-- TEXTS, COMMENTS, ATTRIBUTES

abbrev pub begins_with : List ℕ → List ℕ → Bool
begins_with part t = starts_with nat_eq t part

-- whether a part is somewhere in a text
abbrev pub has_part : List ℕ → List ℕ → Bool
has_part part [] = begins_with part []
has_part part (b ∷ bs) = begins_with part (b ∷ bs) || has_part part bs

-- whether a text may be where these may
abbrev pub is_among_texts : Texts → List ℕ → Bool
is_among_texts texts.Any t = true
is_among_texts texts.WhiteSpace t = list_all is_ascii_whitespace t
is_among_texts texts.Raw t = not (has_part (codes "</") t)
is_among_texts texts.Script t = not (has_part (codes "</") t) && not (has_part (codes "<!--") t)
is_among_texts texts.None t = false

abbrev pub is_plain_text : Texts → List ℕ → Bool
is_plain_text allowed t = not (is_empty_text t) && has_no_null_or_return t && is_among_texts allowed t

abbrev pub is_plain_comment : List ℕ → Bool
is_plain_comment t = has_no_null_or_return t && not (has_part (codes "-->") t) && not (has_part (codes "--!>") t) && not (begins_with (codes ">") t)
    && not (begins_with (codes "->") t)

-- a lower letter, then lower letters, digits, `-`, `_` and `:`
abbrev pub is_plain_name_byte : ℕ → Bool
is_plain_name_byte b = is_ascii_lowercase b || is_ascii_digit b || b == 45 || b == 95 || b == 58

abbrev pub is_plain_name : List ℕ → Bool
is_plain_name [] = false
is_plain_name (b ∷ bs) = is_ascii_lowercase b && list_all is_plain_name_byte bs

-- attributes with such names, no two of which are the same
abbrev pub are_plain_attributes : List (Attribute (List ℕ)) → Bool
are_plain_attributes [] = true
are_plain_attributes (a ∷ others) =
    is_plain_name a.0 && has_no_null_or_return a.1 && not (list_any (λ b. bytes_eq a.0 b.0) others) && are_plain_attributes others

-- LISTS OF TREES

-- Where a list of trees is: its content and its texts, whether an a or a button is around it with no marker between, and whether
-- a form is at any distance.
pub record Inside : Type 0 where
  pub content : Content
  pub texts : Texts
  pub in_a : Bool
  pub in_button : Bool
  pub in_form : Bool

-- elements that are in none of their name
abbrev pub is_nested : Inside → Tag → Bool
is_nested inside tag.A = inside.in_a
is_nested inside tag.Button = inside.in_button
is_nested inside tag.Form = inside.in_form
is_nested inside _ = false

-- the content of an element, where it is in this one
abbrev pub content_within : Content → Content → Content
content_within outer content.Around = outer
content_within outer own = own

abbrev pub is_a : Tag → Bool
is_a tag.A = true
is_a _ = false

abbrev pub is_form_element : Tag → Bool
is_form_element tag.Form = true
is_form_element _ = false

-- where the children of an element are
abbrev pub inside_element : Tag → Inside → Inside
inside_element t inside =
    let own = content_within inside.content (row t).1 in
    let seen = not (inserts_marker t) in
    record {
      content = own;
      texts = texts_in own;
      in_a = (seen && inside.in_a) || is_a t;
      in_button = (seen && inside.in_button) || is_button t;
      in_form = inside.in_form || is_form_element t;
    }

-- where those of a node do: a node that is no element has none
abbrev pub inside_node : What (List ℕ) → Inside → Inside
inside_node (element name attrs) inside = inside_element (tag_named name) inside
inside_node _ inside = record inside { content = content.Empty; texts = texts.None }

-- the elements in which a LF right after the start tag is dropped (#parsing-main-inbody)
abbrev pub drops_line_feed : Tag → Bool
drops_line_feed tag.Pre = true
drops_line_feed tag.Listing = true
drops_line_feed tag.Textarea = true
drops_line_feed _ = false

-- a list of trees that begins with a text; with a text that begins with LF
abbrev pub begins_with_text : Forest (List ℕ) → Bool
begins_with_text (tree n (text t) kids rest) = true
begins_with_text _ = false

abbrev pub begins_with_line_feed : Forest (List ℕ) → Bool
begins_with_line_feed (tree n (text t) kids rest) = begins_with (codes "\n") t
begins_with_line_feed _ = false

-- a node by itself, before these siblings
abbrev pub is_plain_node : Inside → What (List ℕ) → (children rest : Forest (List ℕ)) → Bool
is_plain_node inside (element name attrs) kids rest =
    takes_role inside.content (row (tag_named name)).0 && not (is_nested inside (tag_named name)) && are_plain_attributes attrs
    && not (drops_line_feed (tag_named name) && begins_with_line_feed kids)
is_plain_node inside (text t) kids rest = is_plain_text inside.texts t && not (begins_with_text rest)
is_plain_node inside (comment t) kids rest = takes_comments inside.content && is_plain_comment t
is_plain_node inside document kids rest = false
is_plain_node inside (doctype n p s) kids rest = false

-- the trees of a list are content of what they are in
abbrev pub are_content : Inside → Forest (List ℕ) → Bool
are_content inside none = true
are_content inside (tree n w kids rest) = is_plain_node inside w kids rest && are_content (inside_node w inside) kids && are_content inside rest

-- CONTEXTS

-- at the top of a fragment, with no a and no button around it
abbrev pub at_top : Content → Texts → (in_form : Bool) → Option Inside
at_top own allowed in_form = Some (record { content = own; texts = allowed; in_a = false; in_button = false; in_form = in_form })

-- what may be in a context of this content: flow in the lists too, no texts in the parts of a table, any text in a raw one
abbrev pub in_context_of : Content → (in_form : Bool) → Option Inside
in_context_of content.Flow form = at_top content.Flow texts.Any form
in_context_of content.Phrasing form = at_top content.Flow texts.Any form
in_context_of content.Around form = at_top content.Flow texts.Any form
in_context_of content.ListItems form = at_top content.Flow texts.Any form
in_context_of content.Definitions form = at_top content.Flow texts.Any form
in_context_of content.TableParts form = at_top content.TableParts texts.None form
in_context_of content.TableRows form = at_top content.TableRows texts.None form
in_context_of content.Cells form = at_top content.Cells texts.None form
in_context_of content.Text form = at_top content.Text texts.Any form
in_context_of content.RawText form = at_top content.Text texts.Any form
in_context_of content.ScriptText form = at_top content.Text texts.Any form
in_context_of content.Columns form = None
in_context_of content.Empty form = None

-- where the list of a fragment in this context is, if there are plain ones there; a context form is around it
abbrev pub in_context : List ℕ → Option Inside
in_context context = in_context_of (row (tag_named context)).1 (is_form_element (tag_named context))

abbrev pub are_content_if : Option Inside → Forest (List ℕ) → Bool
are_content_if None f = false
are_content_if (Some inside) f = are_content inside f

-- whether a list of trees is plain in a context
abbrev pub is_plain : List ℕ → Forest (List ℕ) → Bool
is_plain context f = are_content_if (in_context context) f
