-- What a walk knows of where a node is, and what it tests there. Names are numbers, and texts are theirs.
use Rattle.std.specs.Prelude.{◌≡◌, ◌<◌, ℕ, Bool, true, false, not, ◌&&◌, eqb, List, Option, Some, None, codes, map, option_and_then, if◌then◌else◌}
use Rattle.names.specs.declared.tag.Tag.{Tag}
use Rattle.names.specs.declared.tag.Tag.TheVariants as tag
use Rattle.names.specs.Tags.{tag_of}
use Rattle.hnodes.specs.Forest.{Attribute, What, element, comment, text, Forest}
use Rattle.hnodes.specs.Mapped.{mapped_attribute}
use Rattle.hnodes.specs.Spots.{first_child_of, node_name, next_of, parent_of, what_of}
use Rattle.hserialize.specs.ContentTable.{row, takes_role, texts_in, takes_comments}
use Rattle.hserialize.specs.Plain.{Inside, begins_with, is_plain_name, is_plain_text, is_plain_comment, are_plain_attributes, is_nested}
use Rattle.hserialize.specs.Plain.{drops_line_feed}
use Rattle.hserialize.specs.declared.around.Around.{Around}
use Rattle.hserialize.specs.declared.around.Standing.{Standing}
use Rattle.hserialize.specs.declared.content.Content.{Content}
use Rattle.hserialize.specs.declared.content.Content.TheVariants as content
use Rattle.hserialize.specs.declared.content.Texts.{Texts}
use Rattle.hserialize.specs.declared.content.Texts.TheVariants as texts
use Rattle.hserialize.specs.declared.walk.Visit.{Visit}
use Rattle.hserialize.specs.declared.walk.Visit.TheVariants.{Enter, Leave}

-- CONTENT

-- the content of the children of an element, where phrasing elements alone may be around it or flow elements too
abbrev pub content_among : (in_phrasing : Bool) → Content → Content
content_among in_phrasing content.Around = if in_phrasing then content.Phrasing else content.Flow
content_among in_phrasing own = own

-- the content of a list in a context of this content, if there are plain ones
abbrev pub top_content : Content → Option Content
top_content content.Flow = Some content.Flow
top_content content.Phrasing = Some content.Flow
top_content content.Around = Some content.Flow
top_content content.ListItems = Some content.Flow
top_content content.Definitions = Some content.Flow
top_content content.TableParts = Some content.TableParts
top_content content.TableRows = Some content.TableRows
top_content content.Cells = Some content.Cells
top_content content.Text = Some content.Text
top_content content.RawText = Some content.Text
top_content content.ScriptText = Some content.Text
top_content content.Columns = None
top_content content.Empty = None

-- its texts
abbrev pub texts_at_top : Content → Texts
texts_at_top content.Flow = texts.Any
texts_at_top content.Text = texts.Any
texts_at_top _ = texts.None

abbrev pub is_phrasing : Content → Bool
is_phrasing content.Phrasing = true
is_phrasing _ = false

-- WHERE A NODE STANDS

-- the known name of an element; any other node is none of those that are known
abbrev pub tag_or_other : Option ℕ → Tag
tag_or_other None = tag.Other
tag_or_other (Some name) = tag_of name

abbrev pub tag_at : ℕ → Forest ℕ → Tag
tag_at n f = tag_or_other (node_name n f)

-- with nothing around
abbrev pub alone : Around
alone = record { in_a = false; in_button = false; in_phrasing = false }

-- what is around once an element of this name is entered, or left: one that inserts a marker is not gone into
abbrev pub marked : Tag → (inside : Bool) → Around → Around
marked tag.A inside a = record a { in_a = inside }
marked tag.Button inside a = record a { in_button = inside }
marked t inside a = if is_phrasing (row t).1 then record a { in_phrasing = inside } else a

abbrev pub standing_at_top : Content → Around → Standing
standing_at_top top around = record { content = top; texts = texts_at_top top; around = around }

-- among the children of an element of this name
abbrev pub standing_in : Tag → Around → Standing
standing_in t around =
    let own = content_among around.in_phrasing (row t).1 in
    record { content = own; texts = texts_in own; around = around }

-- among the children of this node, where those of node root are the top
abbrev pub standing_of : (root : ℕ) (top : Content) → Around → Option ℕ → Forest ℕ → Standing
standing_of root top around None f = standing_at_top top around
standing_of root top around (Some p) f = if eqb p root then standing_at_top top around else standing_in (tag_at p f) around

abbrev pub inside_is : Standing → Inside
inside_is s = record { content = s.content; texts = s.texts; in_a = s.around.in_a; in_button = s.around.in_button; in_form = false }

-- WHAT IS TESTED THERE

-- a text; a text that begins with LF
abbrev pub is_text_node : Option (What ℕ) → Bool
is_text_node (Some (text t)) = true
is_text_node _ = false

abbrev pub node_begins_with_line_feed : Option (What ℕ) → Bool
node_begins_with_line_feed (Some (text t)) = begins_with (codes "\n") t
node_begins_with_line_feed _ = false

abbrev pub is_text_at : Option ℕ → Forest ℕ → Bool
is_text_at node f = is_text_node (option_and_then (λ n. what_of n f) node)

abbrev pub begins_at : Option ℕ → Forest ℕ → Bool
begins_at node f = node_begins_with_line_feed (option_and_then (λ n. what_of n f) node)

module _ (spelling : ℕ → List ℕ) where
  -- an attribute
  abbrev pub has_plain_name : Attribute ℕ → Bool
  has_plain_name a = is_plain_name (spelling a.0)

  -- all names with smaller numbers
  abbrev pub ArePlainTo : ℕ → Type 0
  ArePlainTo end = (name : ℕ) → name < end → is_plain_name (spelling name) ≡ true

  abbrev pub is_plain_element : Inside → Tag → List (Attribute ℕ) → (line_feed : Bool) → Bool
  is_plain_element inside t attrs line_feed =
      takes_role inside.content (row t).0 && not (is_nested inside t) && are_plain_attributes (map (mapped_attribute spelling) attrs)
      && not (drops_line_feed t && line_feed)

  -- a node by itself, where its children begin with such a text and where a text follows it
  abbrev pub is_plain_what : Inside → Option (What ℕ) → (line_feed before_text : Bool) → Bool
  is_plain_what inside (Some (element name attrs)) line_feed before_text = is_plain_element inside (tag_of name) attrs line_feed
  is_plain_what inside (Some (text t)) line_feed before_text = is_plain_text inside.texts t && not before_text
  is_plain_what inside (Some (comment t)) line_feed before_text = takes_comments inside.content && is_plain_comment t
  is_plain_what inside _ line_feed before_text = false

  abbrev pub is_plain_at : Inside → ℕ → Forest ℕ → Bool
  is_plain_at inside n f = is_plain_what inside (what_of n f) (begins_at (first_child_of n f) f) (is_text_at (next_of n f) f)

  -- what is around what comes after a visit in a region, if what is visited is plain
  abbrev pub after_visit : Forest ℕ → (root : ℕ) (top : Content) → Visit → Around → Option Around
  after_visit f root top (Enter n) around =
      if is_plain_at (inside_is (standing_of root top around (parent_of n f) f)) n f then Some (marked (tag_at n f) true around) else None
  after_visit f root top (Leave n) around = Some (marked (tag_at n f) false around)
