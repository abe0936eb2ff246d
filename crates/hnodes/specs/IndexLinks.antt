-- What is kept of a list of numbers: the numbers that end in the same bits are a group, and each keeps the nearest ordinal before it
-- where one of its group is.
use Rattle.std.specs.Prelude.{◌≡◌, ◌≢◌, ℕ, suc, ◌+◌, ◌-◌, ◌<◌, ◌≤◌, ◌^◌, ◌==◌, ◌&&◌, Bool, true, not, List, length, map, slice_index, bit_and}
use Rattle.hnodes.specs.IndexedList.{none, last_up}
use Rattle.hnodes.specs.declared.indexed_list.Link.{Link}

abbrev pub link_number : Link → ℕ
link_number x = x.number

abbrev pub before_of : Link → ℕ
before_of x = x.before

abbrev pub numbers_of : List Link → List ℕ
numbers_of links = map link_number links

abbrev pub befores_of : List Link → List ℕ
befores_of links = map before_of links

-- the group of a number, where there are this many: the bits that it shares with the last group
abbrev pub group_of : (number width : ℕ) → ℕ
group_of number width = bit_and number (width - 1)

-- whether a number is of a group
abbrev pub is_in_group : (width group : ℕ) → ℕ → Bool
is_in_group width group n = not (n == none) && group_of n width == group

-- the same of the group of a number
abbrev pub in_group_of : (width number : ℕ) → ℕ → Bool
in_group_of width number = is_in_group width (group_of number width)

-- the next ordinal past an index where a number is sought; 0 is none
pub record IsNext (sought : ℕ → Bool) (numbers : List ℕ) (index ordinal : ℕ) : Type 0 where
  pub found : 0 < ordinal → (suc index < ordinal) × (ordinal ≤ length numbers) × (sought (slice_index numbers (ordinal - 1)) ≡ true)
  pub least : (j : ℕ) → index < j → j < length numbers → sought (slice_index numbers j) ≡ true → (0 < ordinal) × (ordinal ≤ suc j)

-- a link can be put at an index of the numbers: it keeps the nearest ordinal of its group up to there, and the next one
pub record FitsAt (width : ℕ) (numbers : List ℕ) (index : ℕ) (x : Link) : Type 0 where
  pub before : x.before ≡ last_up (in_group_of width x.number) numbers (index + 1)
  pub next : IsNext (in_group_of width x.number) numbers index x.hint

-- each number keeps the nearest ordinal before it where one of its group is
abbrev pub Keep : (width : ℕ) → (numbers befores : List ℕ) → Type 0
Keep width numbers befores =
    (i : ℕ) → i < length numbers → slice_index numbers i ≢ none → slice_index befores i ≡ last_up (in_group_of width (slice_index numbers i)) numbers i

-- of the first links a table says where each group is last, and each of their numbers keeps the nearest ordinal before it where one of its group is
pub record IndexedTo (last : List ℕ) (links : List Link) (k : ℕ) : Type 0 where
  pub says : (g : ℕ) → g < length last → slice_index last g ≡ last_up (is_in_group (length last) g) (numbers_of links) k
  pub kept : (i : ℕ) → i < k → slice_index (numbers_of links) i ≢ none
      → slice_index (befores_of links) i ≡ last_up (in_group_of (length last) (slice_index (numbers_of links) i)) (numbers_of links) i

pub record IsIndexed (last : List ℕ) (links : List Link) : Type 0 where
  pub wide : 0 < length links → 0 < length last
  pub to : IndexedTo last links (length (numbers_of links))

-- the same, and the ordinals are numbers of 32 bits
pub record AreIndexed (last : List ℕ) (links : List Link) : Type 0 where
  pub indexed : IsIndexed last links
  pub fits : length links < 2 ^ 32
