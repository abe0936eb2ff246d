-- Plain documents: which nodes are where in one, by the Standard's rules of tree construction (#tree-construction), and that each is plain.
use Rattle.std.specs.Prelude.{ℕ, Bool, true, false, not, ◌&&◌, List, codes, bytes_eq, if◌then◌else◌}
use Rattle.names.specs.declared.tag.Tag.{Tag}
use Rattle.names.specs.declared.tag.Tag.TheVariants as tag
use Rattle.names.specs.Tags.{tag_named}
use Rattle.hnodes.specs.Forest.{What, doctype, element, comment, text, Forest, none, tree}
use Rattle.hserialize.specs.Plain.{Inside, are_content, are_plain_attributes, begins_with_text, inside_element, is_plain, is_plain_comment, is_plain_text}
use Rattle.hserialize.specs.Words.{is_empty_text}
use Rattle.hserialize.specs.declared.content.Content.TheVariants as content
use Rattle.hserialize.specs.declared.content.Texts.{Texts}
use Rattle.hserialize.specs.declared.content.Texts.TheVariants as texts

-- no tree
abbrev pub ends_document : Forest (List ℕ) → Bool
ends_document none = true
ends_document (tree n w kids rest) = false

-- a plain comment, or a plain text that may be where these may, before these siblings
abbrev pub is_leaf : Texts → What (List ℕ) → (children rest : Forest (List ℕ)) → Bool
is_leaf allowed (comment t) kids rest = is_plain_comment t && ends_document kids
is_leaf allowed (text t) kids rest = is_plain_text allowed t && ends_document kids && not (begins_with_text rest)
is_leaf allowed _ kids rest = false

-- LISTS OF SIBLINGS, ONE PART AFTER ANOTHER

-- comments and such texts, if any, and then these
abbrev pub leaves_then : Texts → (Forest (List ℕ) → Bool) → Forest (List ℕ) → Bool
leaves_then allowed next none = next none
leaves_then allowed next (tree n w kids rest) = if is_leaf allowed w kids rest then leaves_then allowed next rest else next (tree n w kids rest)

abbrev pub comments_then : (Forest (List ℕ) → Bool) → Forest (List ℕ) → Bool
comments_then next f = leaves_then texts.None next f

-- a doctype, if there is one, named html and without identifiers, and then these
abbrev pub doctype_then : (Forest (List ℕ) → Bool) → Forest (List ℕ) → Bool
doctype_then next (tree n (doctype name public_id system_id) kids rest) =
    bytes_eq name (codes "html") && is_empty_text public_id && is_empty_text system_id && ends_document kids && next rest
doctype_then next f = next f

-- an element of this name that has these children, and then these
abbrev pub element_then : List ℕ → (children next : Forest (List ℕ) → Bool) → Forest (List ℕ) → Bool
element_then x children next (tree n (element name attrs) kids rest) = bytes_eq name x && are_plain_attributes attrs && children kids && next rest
element_then x children next _ = false

-- DOCUMENTS

-- the elements that "in head" (#parsing-main-inhead) inserts, but for noscript, noframes and template
abbrev pub is_metadata : Tag → Bool
is_metadata tag.Base = true
is_metadata tag.Basefont = true
is_metadata tag.Bgsound = true
is_metadata tag.Link = true
is_metadata tag.Meta = true
is_metadata tag.Script = true
is_metadata tag.Style = true
is_metadata tag.Title = true
is_metadata _ = false

abbrev pub inside_head : Inside
inside_head = record { content = content.Empty; texts = texts.WhiteSpace; in_a = false; in_button = false; in_form = false }

-- the children of head: such elements, comments and white space
abbrev pub are_metadata : Forest (List ℕ) → Bool
are_metadata none = true
are_metadata (tree n (element name attrs) kids rest) =
    is_metadata (tag_named name) && are_plain_attributes attrs && are_content (inside_element (tag_named name) inside_head) kids && are_metadata rest
are_metadata (tree n w kids rest) = is_leaf texts.WhiteSpace w kids rest && are_metadata rest

-- body, and what "after body" (#parsing-main-afterbody) puts into html
abbrev pub body_on : Forest (List ℕ) → Bool
body_on f = element_then (codes "body") (is_plain (codes "body")) (comments_then ends_document) f

-- The children of html: white space is dropped before head, put into html after it, and into body after body.
abbrev pub are_in_html : Forest (List ℕ) → Bool
are_in_html f = comments_then (element_then (codes "head") are_metadata (leaves_then texts.WhiteSpace body_on)) f

-- html, and what "after after body" (#the-after-after-body-insertion-mode) puts into the document
abbrev pub html_on : Forest (List ℕ) → Bool
html_on f = element_then (codes "html") are_in_html (comments_then ends_document) f

-- Whether the children of a document are those of a plain one. There is no text among them: white space is dropped before html, and put
-- into body after it.
abbrev pub is_plain_document : Forest (List ℕ) → Bool
is_plain_document f = comments_then (doctype_then (comments_then html_on)) f
