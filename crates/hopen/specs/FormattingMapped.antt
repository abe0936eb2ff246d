-- The same entries under other names, as a number of a name and its text.
use Rattle.std.specs.Prelude.{◌≡◌, ℕ, Bool, List, map}
use Rattle.std.specs.Option.{option_map}
use Rattle.hnodes.specs.Mapped.{mapped_attribute}
use Rattle.hnodes.specs.Nearest.{changed_at}
use Rattle.hopen.specs.Formatting.{EntryOf, Listed, marker, entry, entry_at, entry_of, cleared, without_entry, for_node, with_node, booked, pushed}
use Rattle.hopen.specs.Formatting.{find_entry}
use Rattle.hopen.specs.declared.bookmark.Bookmark.{Bookmark}

module _ {N M : Type 0} where
  abbrev pub mapped_entry : (N → M) → EntryOf N → EntryOf M
  mapped_entry g e = record { node = e.node; name = g e.name; attrs = map (mapped_attribute g) e.attrs }

  abbrev pub mapped_item : (N → M) → Listed N → Listed M
  mapped_item g marker = marker
  mapped_item g (entry e) = entry (mapped_entry g e)

  abbrev pub mapped_items : (N → M) → List (Listed N) → List (Listed M)
  mapped_items g items = map (mapped_item g) items

module _ {N M : Type 0} (same : N → N → Bool) (same' : M → M → Bool) where
  -- What is done with the list and then mapped is what is done with it as it is mapped, and what is asked of it has the same answer.
  pub record FormattingKnowsNoNames (g : N → M) : Type 0 where
    pub push : (e : EntryOf N) (items : List (Listed N)) → pushed same' (mapped_entry g e) (mapped_items g items) ≡ mapped_items g (pushed same e items)
    pub clear : (items : List (Listed N)) → cleared (mapped_items g items) ≡ mapped_items g (cleared items)
    pub find : (a : N) (items : List (Listed N)) → find_entry same' (g a) (mapped_items g items) ≡ option_map (mapped_entry g) (find_entry same a items)
    pub entry_of_node : (n : ℕ) (items : List (Listed N)) → entry_of n (mapped_items g items) ≡ option_map (mapped_entry g) (entry_of n items)
    pub get : (back : ℕ) (items : List (Listed N)) → entry_at back (mapped_items g items) ≡ option_map (mapped_entry g) (entry_at back items)
    pub remove : (n : ℕ) (items : List (Listed N)) → without_entry n (mapped_items g items) ≡ mapped_items g (without_entry n items)
    pub replace : (old new : ℕ) (items : List (Listed N)) → with_node old new (mapped_items g items) ≡ mapped_items g (with_node old new items)
    pub renew : (back new : ℕ) (items : List (Listed N))
        → changed_at back (for_node new) (mapped_items g items) ≡ mapped_items g (changed_at back (for_node new) items)
    pub move_to_bookmark : (old new : ℕ) (bookmark : Bookmark) (items : List (Listed N))
        → booked old new bookmark (mapped_items g items) ≡ mapped_items g (booked old new bookmark items)
