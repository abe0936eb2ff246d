-- Worked rows of bookmarks, and of the entries after the last marker, which the prover computes.
use Rattle.std.specs.Prelude.{◌≡◌, refl, ℕ, true, false, [], ◌∷◌}
use Rattle.hnodes.specs.Nearest.{changed_at}
use Rattle.hopen.specs.Formatting.{EntryOf, Listed, marker, entry, after_marker, for_node, has_bookmark}
use Rattle.hopen.specs.declared.bookmark.Bookmark.TheVariants.{InPlace, After}

abbrev made : ℕ → EntryOf ℕ
made n = record { node = n; name = 1; attrs = [] }

abbrev e : ℕ → Listed ℕ
e n = entry (made n)

-- a bookmark after another entry stays when an entry is taken, but neither one after itself nor one after no entry
after_another : has_bookmark 2 (After 3) (e 3 ∷ e 2 ∷ []) ≡ true
after_another = refl

after_itself : has_bookmark 2 (After 2) (e 3 ∷ e 2 ∷ []) ≡ false
after_itself = refl

after_none : has_bookmark 2 (After 4) (e 3 ∷ e 2 ∷ []) ≡ false
after_none = refl

where_it_stood : has_bookmark 2 InPlace (e 3 ∷ e 2 ∷ []) ≡ true
where_it_stood = refl

last_entries : after_marker (e 4 ∷ e 3 ∷ marker ∷ e 1 ∷ []) ≡ made 4 ∷ made 3 ∷ []
last_entries = refl

-- the entry that has one after it
renewed : changed_at 1 (for_node 9) (e 4 ∷ e 3 ∷ marker ∷ []) ≡ e 4 ∷ e 9 ∷ marker ∷ []
renewed = refl
