-- Worked rows of the definitions, which the prover computes.
use Rattle.std.specs.Prelude.{◌≡◌, refl, ℕ, Bool, true, false, List, [], ◌∷◌, Some, None, codes, bytes_eq}
use Rattle.hopen.specs.Stack.{OpenNode, is_node, above, below, in_scope, furthest_block}
use Rattle.hopen.specs.Scopes.{stops_in_scope, is_named, is_of}
use Rattle.hopen.specs.declared.scope.Scope.{Scope}
use Rattle.hopen.specs.declared.scope.Scope.TheVariants as scope
use Rattle.hopen.specs.declared.scope.Group.TheVariants as group
use Rattle.names.specs.Tags.{tag_named}

abbrev Text : Type 0
Text = List ℕ

abbrev node : ℕ → Text → OpenNode Text
node n name = record { node = n; name = name }

-- html, body, ol, li, p, b, the current node
abbrev nodes : List (OpenNode Text)
nodes = node 7 (codes "b") ∷ node 6 (codes "p") ∷ node 5 (codes "li") ∷ node 4 (codes "ol") ∷ node 2 (codes "body") ∷ node 1 (codes "html") ∷ []

-- html, body, button, table, td, p, in a td
abbrev cells : List (OpenNode Text)
cells = node 6 (codes "p") ∷ node 5 (codes "td") ∷ node 4 (codes "table") ∷ node 3 (codes "button") ∷ node 2 (codes "body") ∷ node 1 (codes "html") ∷ []

abbrev finds : Scope → Text → List (OpenNode Text) → Bool
finds s name stack = in_scope (stops_in_scope tag_named s) (is_named bytes_eq name) stack

-- p is in scope under b; ol is in scope from below li, and in list item scope too, though it is a stop: it is sought
p_in_scope : finds scope.Default (codes "p") nodes ≡ true
p_in_scope = refl

ol_in_scope : finds scope.Default (codes "ol") nodes ≡ true
ol_in_scope = refl

ol_stops_and_is_sought : finds scope.ListItem (codes "ol") nodes ≡ true
ol_stops_and_is_sought = refl

-- body is in scope, but in list item scope ol stops the search
body_in_scope : finds scope.Default (codes "body") nodes ≡ true
body_in_scope = refl

body_not_in_list_item_scope : finds scope.ListItem (codes "body") nodes ≡ false
body_not_in_list_item_scope = refl

-- html is a stop that is found where it is sought
html_in_scope : finds scope.Table (codes "html") nodes ≡ true
html_in_scope = refl

-- td stops the search for a button; in table scope only table and html do
button_not_in_scope : finds scope.Default (codes "button") cells ≡ false
button_not_in_scope = refl

table_in_table_scope : finds scope.Table (codes "table") cells ≡ true
table_in_table_scope = refl

button_not_in_table_scope : finds scope.Table (codes "button") cells ≡ false
button_not_in_table_scope = refl

-- a node, and a group
node_in_scope : in_scope (stops_in_scope tag_named scope.Default) (is_node 4) nodes ≡ true
node_in_scope = refl

node_not_in_scope : in_scope (stops_in_scope tag_named scope.Default) (is_node 3) cells ≡ false
node_not_in_scope = refl

cell_in_scope : in_scope (stops_in_scope tag_named scope.Default) (is_of tag_named group.Cell) cells ≡ true
cell_in_scope = refl

-- above and below; the furthest block of the li's node
above_li : above 5 nodes ≡ node 4 (codes "ol") ∷ node 2 (codes "body") ∷ node 1 (codes "html") ∷ []
above_li = refl

below_li : below 5 nodes ≡ node 7 (codes "b") ∷ node 6 (codes "p") ∷ []
below_li = refl

furthest_of_li : furthest_block tag_named 4 nodes ≡ Some (node 5 (codes "li"))
furthest_of_li = refl

no_furthest : furthest_block tag_named 6 nodes ≡ None
no_furthest = refl
