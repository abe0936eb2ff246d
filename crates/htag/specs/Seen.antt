-- Which names a tag has had, by numbers.
use Rattle.std.specs.Prelude.{◌≡◌, ℕ, Bool, nat_eq, List, slice_index_or}
use Rattle.std.specs.List.{list_any}
use Rattle.htag.specs.declared.seen.Seen.{Seen}

abbrev pub has_number : ℕ → List ℕ → Bool
has_number n numbers = list_any (nat_eq n) numbers

abbrev pub stamp : Seen → ℕ → ℕ
stamp seen n = slice_index_or seen.stamps.items n 0

-- The tag has had names of these numbers: their stamps are its own.
pub record HasSeen (seen : Seen) (numbers : List ℕ) : Type 0 where
  pub exact : (n : ℕ) → nat_eq (stamp seen n) seen.tag ≡ has_number n numbers
