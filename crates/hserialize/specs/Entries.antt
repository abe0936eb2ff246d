-- Attributes that are put in order.
use Rattle.std.specs.Prelude.{◌≡◌, ℕ, ◌<◌, List, length, get_or}
use Rattle.std.specs.Borrow.{Bor}
use Rattle.hnodes.specs.Forest.{Attribute}

-- an entry as an attribute: the texts of a name and of a value, which are lent
abbrev pub pair_of : Bor (List ℕ) × ℕ × Bor (List ℕ) → Attribute (List ℕ)
pair_of e = (e.0.now, e.2.now)

-- each entry has the number of its place
abbrev pub AreEntriesNumbered : List (Bor (List ℕ) × ℕ × Bor (List ℕ)) → Type 0
AreEntriesNumbered entries = (i : ℕ) (d : Bor (List ℕ) × ℕ × Bor (List ℕ)) → i < length entries → (get_or entries i d).1 ≡ i
