-- The list of active formatting elements (#the-list-of-active-formatting-elements) as a list of markers and entries, the last one first:
-- what comes after an entry in the Standard's order is before it. Names are of any kind: texts in the rules of HTML, and numbers in the
-- code.
use Rattle.std.specs.Prelude.{ℕ, Bool, true, false, not, ◌&&◌, ◌==◌, nat_le, List, [], ◌∷◌, Option, Some, None, option_and_then, slice_get, length, filter}
use Rattle.std.specs.Prelude.{find, if◌then◌else◌, bytes_eq}
use Rattle.std.specs.List.{list_any, list_all}
use Rattle.std.specs.Option.{option_map_or}
use Rattle.hnodes.specs.Nearest.{without, changed, item_put_before}
use Rattle.hopen.specs.declared.bookmark.Bookmark.{Bookmark}
use Rattle.hopen.specs.declared.bookmark.Bookmark.TheVariants.{InPlace, After}
use Rattle.hnodes.specs.Forest.{Attribute}

-- what an entry keeps: its node, and the name and the attributes of the token that the node was made for
pub record EntryOf (N : Type 0) : Type 0 where
  pub node : ℕ
  pub name : N
  pub attrs : List (Attribute N)

pub data Listed (N : Type 0) : Type 0 where
  marker : Listed N
  entry : EntryOf N → Listed N

module _ {N : Type 0} where
  -- all entries, the last one first
  abbrev pub entries : List (Listed N) → List (EntryOf N)
  entries [] = []
  entries (marker ∷ items) = entries items
  entries (entry e ∷ items) = e ∷ entries items

  -- an item where it is an entry, and the entry that has this many items after it
  abbrev pub as_entry : Listed N → Option (EntryOf N)
  as_entry marker = None
  as_entry (entry e) = Some e

  abbrev pub entry_at : ℕ → List (Listed N) → Option (EntryOf N)
  entry_at n items = option_and_then as_entry (slice_get items n)

  -- the entries after the last marker, the last one first
  abbrev pub after_marker : List (Listed N) → List (EntryOf N)
  after_marker [] = []
  after_marker (marker ∷ items) = []
  after_marker (entry e ∷ items) = e ∷ after_marker items

  -- without the last marker and what comes after it
  -- (#clear-the-list-of-active-formatting-elements-up-to-the-last-marker)
  abbrev pub cleared : List (Listed N) → List (Listed N)
  cleared [] = []
  cleared (marker ∷ items) = items
  cleared (entry e ∷ items) = cleared items

  -- whether it is the entry of this node
  abbrev pub is_of_node : ℕ → EntryOf N → Bool
  is_of_node n e = e.node == n

  abbrev pub is_entry : ℕ → Listed N → Bool
  is_entry n marker = false
  is_entry n (entry e) = is_of_node n e

  -- the entry of a node
  abbrev pub entry_of : ℕ → List (Listed N) → Option (EntryOf N)
  entry_of n items = find (is_of_node n) (entries items)

  -- without the entry of a node
  abbrev pub without_entry : ℕ → List (Listed N) → List (Listed N)
  without_entry n items = filter (λ i. not (is_entry n i)) items

  -- an entry becomes that of another node, which is made for the same token
  abbrev pub for_node : ℕ → Listed N → Listed N
  for_node new marker = marker
  for_node new (entry e) = entry (record e { node = new })

  abbrev pub with_node : (old new : ℕ) → List (Listed N) → List (Listed N)
  with_node old new items = changed (is_entry old) (for_node new) items

  -- The end of a turn of the adoption agency (#adoption-agency-algorithm): the entry of a node becomes that of another one, and is at the
  -- bookmark, which is where it was, or right after the entry of a node.
  abbrev pub booked : (old new : ℕ) → Bookmark → List (Listed N) → List (Listed N)
  booked old new InPlace items = with_node old new items
  booked old new (After n) items =
      option_map_or
      (λ i. item_put_before (is_entry n) (for_node new i) (without (is_entry old) items))
      (find (is_entry old) items)
      items

  -- whether the bookmark is in the list, where the entry of a node is taken from it
  abbrev pub has_bookmark : (old : ℕ) → Bookmark → List (Listed N) → Bool
  has_bookmark old InPlace items = true
  has_bookmark old (After n) items = list_any (is_entry n) (without (is_entry old) items)

  -- without the earliest entry after the last marker that is sought
  abbrev pub without_earliest : (EntryOf N → Bool) → List (Listed N) → List (Listed N)
  without_earliest sought [] = []
  without_earliest sought (marker ∷ items) = marker ∷ items
  without_earliest sought (entry e ∷ items) =
      if sought e && not (list_any sought (after_marker items)) then items else entry e ∷ without_earliest sought items

-- how many equal entries there may be after the last marker, by the Noah's Ark clause
abbrev pub most_equal : ℕ
most_equal = 3

module _ {N : Type 0} (same : N → N → Bool) where
  abbrev pub same_attribute : Attribute N → Attribute N → Bool
  same_attribute a b = same a.0 b.0 && bytes_eq a.1 b.1

  -- each attribute of the one list is in the other
  abbrev pub are_among : (xs ys : List (Attribute N)) → Bool
  are_among xs ys = list_all (λ a. list_any (same_attribute a) ys) xs

  -- the same attributes, in whatever order
  abbrev pub same_attributes : (xs ys : List (Attribute N)) → Bool
  same_attributes xs ys = are_among xs ys && are_among ys xs

  -- the same name and the same attributes
  abbrev pub is_equal : EntryOf N → EntryOf N → Bool
  is_equal new e = same new.name e.name && same_attributes new.attrs e.attrs

  -- the last entry of this name after the last marker
  abbrev pub find_entry : N → List (Listed N) → Option (EntryOf N)
  find_entry name items = find (λ e. same name e.name) (after_marker items)

  -- the Noah's Ark clause: where there are as many as there may be, the earliest entry that is equal to a new one gives way to it
  abbrev pub with_room : EntryOf N → List (Listed N) → List (Listed N)
  with_room new items =
      if nat_le most_equal (length (filter (is_equal new) (after_marker items))) then without_earliest (is_equal new) items else items

  -- Push onto the list of active formatting elements (#push-onto-the-list-of-active-formatting-elements).
  abbrev pub pushed : EntryOf N → List (Listed N) → List (Listed N)
  pushed new items = entry new ∷ with_room new items
