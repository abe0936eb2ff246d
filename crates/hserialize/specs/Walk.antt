-- A walk over the nodes inside one: each is entered, and left after those inside it.
use Rattle.std.specs.Prelude.{ℕ, Bool, true, false, not, eqb, List, [], ◌∷◌, ◌++◌, Option, Some, None, if◌then◌else◌}
use Rattle.names.specs.Sets.{is_void}
use Rattle.names.specs.Tags.{tag_of}
use Rattle.names.specs.declared.tag.Tag.{Tag}
use Rattle.names.specs.declared.tag.Tag.TheVariants as tag
use Rattle.hnodes.specs.Forest.{What, element, Forest, none, tree}
use Rattle.hnodes.specs.Spots.{Spot, spot_of}
use Rattle.hnodes.specs.Passed.{trees_after, way_up}
use Rattle.hserialize.specs.declared.walk.Reach.{Reach}
use Rattle.hserialize.specs.declared.walk.Reach.TheVariants.{Whole, Written, Region}
use Rattle.hserialize.specs.declared.walk.Visit.{Visit}
use Rattle.hserialize.specs.declared.walk.Visit.TheVariants.{Enter, Leave}

-- the node of a visit
abbrev pub visited_node : Visit → ℕ
visited_node (Enter n) = n
visited_node (Leave n) = n

-- elements that insert a marker into the list of active formatting elements (#parsing-main-inbody, #parsing-main-intable,
-- #parsing-main-intr): an a and a button are not around what is in them
abbrev pub inserts_marker : Tag → Bool
inserts_marker tag.Caption = true
inserts_marker tag.Td = true
inserts_marker tag.Th = true
inserts_marker tag.Object = true
inserts_marker tag.Marquee = true
inserts_marker _ = false

-- whether a walk goes into a node: one over what is written goes only into elements that are not void, and one over a region not
-- into those that insert a marker
abbrev pub goes_in : Reach → What ℕ → Bool
goes_in Whole w = true
goes_in Written (element name attrs) = not (is_void (tag_of name))
goes_in Written _ = false
goes_in Region (element name attrs) = not (inserts_marker (tag_of name))
goes_in Region _ = true

-- the visits of a walk over a list of trees
abbrev pub visits : (reach : Reach) → Forest ℕ → List Visit
visits reach none = []
visits reach (tree b w kids rest) = Enter b ∷ (if goes_in reach w then visits reach kids else []) ++ Leave b ∷ visits reach rest

-- those inside a node
abbrev pub visits_inside : (reach : Reach) → Option (Spot ℕ) → List Visit
visits_inside reach None = []
visits_inside reach (Some s) = if goes_in reach s.what then visits reach s.children else []

-- what is left of a walk inside node root that has reached the end of a node, of the one that this is inside of, and so on
abbrev pub after_ends : (reach : Reach) → (root : ℕ) → List ℕ → Forest ℕ → List Visit
after_ends reach root [] f = []
after_ends reach root (n ∷ up) f =
    if eqb n root then [] else Leave n ∷ visits reach (trees_after (spot_of n f)) ++ after_ends reach root up f

-- what is left of one that has reached a visit
abbrev pub visits_from : (reach : Reach) → (root : ℕ) → Option Visit → Forest ℕ → List Visit
visits_from reach root None f = []
visits_from reach root (Some (Enter n)) f = Enter n ∷ visits_inside reach (spot_of n f) ++ after_ends reach root (way_up (Some n) f) f
visits_from reach root (Some (Leave n)) f = after_ends reach root (way_up (Some n) f) f
