-- Facts of content, of the modes in which it is and of the names that it holds, also of what the rules ask of these, a class at a time.
use Rattle.hlaws.proofs.Names.{arith, ◌≡◌, ℕ, ◌&&◌, List, and_parts, What, Forest, tree, are_content, inside_node, is_plain_node, Bool, true, false, not, refl, ap, false≢true, stops_item, Tag, is_heading, Mode, InBody, InTable, InTableBody, InRow, InColumnGroup, Comment, rule_of, Content, Role, takes_role, texts_in, Inside, is_nested, is_a, is_button, is_form_element, inserts_marker, is_flow_mode, fits_mode, fits_current, holds_list_items, is_dl, stops_scope, insert_comment, Option, Some, is_void, has_implied_end, stops_button_scope, is_fostering, Family, InCaption, InCell, family_of, is_table_context, is_body_context, is_row_context, open_mode, row, drops_line_feed, is_colgroup}
use Rattle.names.specs.declared.tag.Tag.TheVariants as tag
use Rattle.hserialize.specs.declared.content.Content.TheVariants as content
use Rattle.hserialize.specs.declared.content.Role.TheVariants as role
use Rattle.hmodes.specs.declared.family.Family.TheVariants as family

-- the content in which a role is, but that of phrasing elements, which are in two
abbrev pub home : Role → Content
home role.Flow = content.Flow
home role.ListItem = content.ListItems
home role.Definition = content.Definitions
home role.TablePart = content.TableParts
home role.Column = content.Columns
home role.TableRow = content.TableRows
home role.Cell = content.Cells
home _ = content.Empty

abbrev pub has_home : Role → Bool
has_home role.Phrasing = false
has_home _ = true

pub stands_in : (k : Content) (r : Role) → has_home r ≡ true → takes_role k r ≡ true → k ≡ home r
stands_in k role.Phrasing p h = cc
stands_in content.Flow _ p h = cc
stands_in _ _ p h = cc

pub no_nowhere : (k : Content) → takes_role k role.Nowhere ≡ false
no_nowhere content.Flow = refl
no_nowhere _ = refl

-- MODES

pub phrasing_mode : (k : Content) (m : Mode) → takes_role k role.Phrasing ≡ true → fits_mode k m ≡ true → is_flow_mode m ≡ true
phrasing_mode content.Flow m h e = e
phrasing_mode content.Phrasing m h e = e
phrasing_mode _ m h e = absurd (false≢true h)

-- each part of a table has a mode of its own
pub record OwnMode (m : Mode) : Type 0 where
  pub parts : fits_mode content.TableParts m ≡ true → m ≡ InTable
  pub rows : fits_mode content.TableRows m ≡ true → m ≡ InTableBody
  pub cells : fits_mode content.Cells m ≡ true → m ≡ InRow
  pub columns : fits_mode content.Columns m ≡ true → m ≡ InColumnGroup

pub own_mode : (m : Mode) → OwnMode m
own_mode InTable = record { parts = λ h. refl; rows = λ h. cc; cells = λ h. cc; columns = λ h. cc }
own_mode _ = record { parts = λ h. cc; rows = λ h. cc; cells = λ h. cc; columns = λ h. cc }

flow_comment : (m : Mode) → is_flow_mode m ≡ true → rule_of m Comment ≡ insert_comment
flow_comment InBody h = refl
flow_comment _ h = cc

pub comment_rule : (k : Content) (m : Mode) → fits_mode k m ≡ true → rule_of m Comment ≡ insert_comment
comment_rule content.TableParts m h = ap (λ o. rule_of o Comment) ((own_mode m).parts h)
comment_rule content.TableRows m h = ap (λ o. rule_of o Comment) ((own_mode m).rows h)
comment_rule content.Cells m h = ap (λ o. rule_of o Comment) ((own_mode m).cells h)
comment_rule content.Columns m h = ap (λ o. rule_of o Comment) ((own_mode m).columns h)
comment_rule _ m h = flow_comment m h

-- NAMES

pub around_fits : (k : Content) (t : Tag) → takes_role k role.Phrasing ≡ true → is_heading t ≡ false → fits_current k (texts_in k) t ≡ true
around_fits content.Flow t h e = ap not e
around_fits content.Phrasing t h e = refl
around_fits _ t h e = absurd (false≢true h)

-- what a name is nested in, and which scopes it stops
pub record NameFacts (t : Tag) : Type 0 where
  pub nested_a : (i : Inside) → is_a t ≡ true → is_nested i t ≡ i.in_a
  pub nested_button : (i : Inside) → is_button t ≡ true → is_nested i t ≡ i.in_button
  pub nested_form : (i : Inside) → is_form_element t ≡ true → is_nested i t ≡ i.in_form
  pub marker_stops : inserts_marker t ≡ true → stops_scope t ≡ true
  pub list_stops : holds_list_items t ≡ true → stops_item t ≡ true
  pub dl_stops : is_dl t ≡ true → stops_item t ≡ true

pub name_facts : (t : Tag) → NameFacts t
name_facts tag.A = record
    { nested_a = λ i h. refl; nested_button = λ i h. cc; nested_form = λ i h. cc; marker_stops = λ h. cc; list_stops = λ h. cc; dl_stops = λ h. cc }
name_facts _ = record
    { nested_a = λ i h. cc; nested_button = λ i h. cc; nested_form = λ i h. cc; marker_stops = λ h. cc; list_stops = λ h. cc; dl_stops = λ h. cc }

-- LISTS

-- a test of four parts
pub four : (a b c d : Bool) → (a && b && c && d) ≡ true → (a ≡ true) × (b ≡ true) × (c ≡ true) × (d ≡ true)
four a b c d h = (grind arith, grind arith, grind arith, grind arith)

-- a node, its children and what comes after it
pub record Three (i : Inside) (w : What (List ℕ)) (kids rest : Forest (List ℕ)) : Type 0 where
  pub node : is_plain_node i w kids rest ≡ true
  pub children : are_content (inside_node w i) kids ≡ true
  pub others : are_content i rest ≡ true

pub three : (i : Inside) (b : ℕ) (w : What (List ℕ)) (kids rest : Forest (List ℕ)) → are_content i (tree b w kids rest) ≡ true → Three i w kids rest
three i b w kids rest h = let outer = and_parts (is_plain_node i w kids rest && are_content (inside_node w i) kids) (are_content i rest) h in
    let inner = and_parts (is_plain_node i w kids rest) (are_content (inside_node w i) kids) outer.0 in
    record { node = inner.0; children = inner.1; others = outer.1 }

abbrev pub is_p : Tag → Bool
is_p tag.P = true
is_p _ = false

pub record Profile : Type 0 where
  pub family : Family
  pub role : Role
  pub content : Content
  pub is_void : Bool
  pub is_p : Bool
  pub is_a : Bool
  pub is_button : Bool
  pub is_form_element : Bool
  pub is_heading : Bool
  pub drops : Bool
  pub has_implied_end : Bool
  pub mode : Option Mode
  pub stops_button : Bool
  pub holds_list_items : Bool
  pub is_dl : Bool
  pub is_colgroup : Bool
  pub table_context : Bool
  pub body_context : Bool
  pub row_context : Bool
  pub fosters : Bool
  pub marks : Bool

abbrev pub profile : Tag → Profile
profile t = record {
  family = family_of t;
  role = (row t).0;
  content = (row t).1;
  is_void = is_void t;
  is_p = is_p t;
  is_a = is_a t;
  is_button = is_button t;
  is_form_element = is_form_element t;
  is_heading = is_heading t;
  drops = drops_line_feed t;
  has_implied_end = has_implied_end t;
  mode = open_mode t;
  stops_button = stops_button_scope t;
  holds_list_items = holds_list_items t;
  is_dl = is_dl t;
  is_colgroup = is_colgroup t;
  table_context = is_table_context t;
  body_context = is_body_context t;
  row_context = is_row_context t;
  fosters = is_fostering t;
  marks = inserts_marker t;
}

-- a profile that is of a span but for this
abbrev pub plain_profile : Family → Role → Content → Profile
plain_profile f r c = record (profile tag.Span) { family = f; role = r; content = c }

-- what may be around such an element may be in it
abbrev pub around : Family → Bool → Bool → Profile
around f a button = record (plain_profile f role.Phrasing content.Around) { is_a = a; is_button = button; stops_button = button }

abbrev a_void : Family → Role → Profile
a_void f r = record (plain_profile f r content.Empty) { is_void = true }

-- all rules treat names of one family and one content alike where they are plain; a family without plain names has no profile of its own
abbrev pub class_profile : Family → Content → Profile
class_profile family.Block content.ListItems = record (plain_profile family.Block role.Flow content.ListItems) { holds_list_items = true }
class_profile family.Block content.Definitions = record (plain_profile family.Block role.Flow content.Definitions) { is_dl = true }
class_profile family.Block k = plain_profile family.Block role.Flow content.Flow
class_profile family.P k = record (plain_profile family.P role.Flow content.Phrasing) { is_p = true; has_implied_end = true }
class_profile family.Heading k = record (plain_profile family.Heading role.Flow content.Phrasing) { is_heading = true }
class_profile family.Pre k = record (plain_profile family.Pre role.Flow content.Phrasing) { drops = true }
class_profile family.Form k = record (plain_profile family.Form role.Flow content.Flow) { is_form_element = true }
class_profile family.Li k = record (plain_profile family.Li role.ListItem content.Flow) { has_implied_end = true }
class_profile family.Dd k = record (plain_profile family.Dd role.Definition content.Flow) { has_implied_end = true }
class_profile family.Formatting k = around family.Formatting false false
class_profile family.A k = around family.A true false
class_profile family.Button k = around family.Button false true
class_profile family.Other k = around family.Other false false
class_profile family.Title k = plain_profile family.Title role.Phrasing content.Text
class_profile family.Textarea k = record (plain_profile family.Textarea role.Phrasing content.Text) { drops = true }
class_profile family.Style k = plain_profile family.Style role.Phrasing content.RawText
class_profile family.Script k = plain_profile family.Script role.Phrasing content.ScriptText
class_profile family.Iframe k = plain_profile family.Iframe role.Phrasing content.RawText
class_profile family.Object k = record (plain_profile family.Object role.Phrasing content.Flow) { stops_button = true; marks = true }
class_profile family.Table k = record (plain_profile family.Table role.Flow content.TableParts)
    { mode = Some InTable; stops_button = true; table_context = true; fosters = true }
class_profile family.Caption k = record (plain_profile family.Caption role.TablePart content.Flow) { mode = Some InCaption; stops_button = true; marks = true }
class_profile family.Colgroup k = record (plain_profile family.Colgroup role.TablePart content.Columns) { mode = Some InColumnGroup; is_colgroup = true }
class_profile family.TableSection k = record (plain_profile family.TableSection role.TablePart content.TableRows)
    { mode = Some InTableBody; body_context = true; fosters = true }
class_profile family.Row k = record (plain_profile family.Row role.TableRow content.Cells) { mode = Some InRow; row_context = true; fosters = true }
class_profile family.Cell k = record (plain_profile family.Cell role.Cell content.Flow) { mode = Some InCell; stops_button = true; marks = true }
class_profile family.Hr k = a_void family.Hr role.Flow
class_profile family.Br k = a_void family.Br role.Phrasing
class_profile family.Input k = a_void family.Input role.Phrasing
class_profile family.PhrasingVoid k = a_void family.PhrasingVoid role.Phrasing
class_profile family.MediaVoid k = a_void family.MediaVoid role.Phrasing
class_profile family.HeadVoid k = a_void family.HeadVoid role.Phrasing
class_profile family.Col k = a_void family.Col role.Column
class_profile w k = a_void w role.Nowhere

pub void_empty : (w : Family) (k : Content) → (class_profile w k).is_void ≡ true → (class_profile w k).content ≡ content.Empty
void_empty family.Block content.Flow h = absurd (false≢true h)
void_empty _ _ h = cc

-- each name that has a role has the profile of its family and content
abbrev Fits : Role → Profile → Profile → Type 0
Fits role.Nowhere p q = p ≡ p
Fits _ p q = p ≡ q

all_fit : (t : Tag) → Fits (row t).0 (profile t) (class_profile (family_of t) (row t).1)
all_fit tag.A = refl
all_fit _ = refl

pub classed : (t : Tag) → ((row t).0 ≡ role.Nowhere → ⊥) → profile t ≡ class_profile (family_of t) (row t).1
classed t h = go (row t).0 h (all_fit t) where
  go : (r : Role) → (r ≡ role.Nowhere → ⊥) → Fits r (profile t) (class_profile (family_of t) (row t).1) → profile t ≡ class_profile (family_of t) (row t).1
  go role.Nowhere h e = absurd (h refl)
  go _ h e = e
