-- Lists of trees by regions. A marker hides what is around it, but for a form. So what is in an element that inserts one is a region by itself, and
-- a list is content of what it is in exactly if each of its regions is, and no form is in a form.
use Rattle.std.specs.Prelude.{ℕ, Bool, true, false, not, ◌&&◌, ◌||◌, List, Option, Some, None, if◌then◌else◌}
use Rattle.names.specs.Tags.{tag_named}
use Rattle.hnodes.specs.Forest.{What, element, Forest, none, tree, children_of}
use Rattle.hnodes.specs.Mapped.{mapped}
use Rattle.hserialize.specs.Plain.{Inside, inside_node, is_form_element, is_plain_node}
use Rattle.hserialize.specs.Walk.{inserts_marker}
use Rattle.hserialize.specs.Testing.{tag_at, texts_at_top}
use Rattle.hserialize.specs.declared.content.Content.{Content}
use Rattle.hserialize.specs.declared.content.Content.TheVariants as content
use Rattle.hserialize.specs.declared.walk.Visit.{Visit}
use Rattle.hserialize.specs.declared.walk.Visit.TheVariants.{Enter, Leave}

-- elements that insert a marker, and forms
abbrev pub begins_region : What (List ℕ) → Bool
begins_region (element name attrs) = inserts_marker (tag_named name)
begins_region _ = false

abbrev pub makes_form : What (List ℕ) → Bool
makes_form (element name attrs) = is_form_element (tag_named name)
makes_form _ = false

-- the same place, as if no form were around it
abbrev pub without_form : Inside → Inside
without_form inside = record inside { in_form = false }

-- at the top of a region of this content
abbrev pub in_region : Content → Inside
in_region own = record { content = own; texts = texts_at_top own; in_a = false; in_button = false; in_form = false }

-- the trees of a region are content of what they are in, wherever forms are
abbrev pub are_region_content : Inside → Forest (List ℕ) → Bool
are_region_content inside none = true
are_region_content inside (tree n w kids rest) =
    is_plain_node inside w kids rest && (if begins_region w then true else are_region_content (without_form (inside_node w inside)) kids)
    && are_region_content inside rest

-- the regions inside the trees of a list are content, each that of flow, and no form is in a form
abbrev pub have_plain_regions : (in_form : Bool) → Forest (List ℕ) → Bool
have_plain_regions in_form none = true
have_plain_regions in_form (tree n w kids rest) =
    not (in_form && makes_form w) && (if begins_region w then are_region_content (in_region content.Flow) kids else true)
    && have_plain_regions (in_form || makes_form w) kids && have_plain_regions in_form rest

module _ (spelling : ℕ → List ℕ) where
  -- whether a form is around what comes after a visit, if none is in a form, and what is in a region that is entered is its content
  abbrev pub form_after : Forest ℕ → Visit → (in_form : Bool) → Option Bool
  form_after f (Enter n) in_form =
      if in_form && is_form_element (tag_at n f) then None
      else if inserts_marker (tag_at n f) && not (are_region_content (in_region content.Flow) (mapped spelling (children_of n f))) then None
      else Some (in_form || is_form_element (tag_at n f))
  form_after f (Leave n) in_form = Some (in_form && not (is_form_element (tag_at n f)))
