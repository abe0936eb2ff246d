-- What is kept of the open nodes, so that no question has to search them. A vector has a slot for each of them, the current node's last; where a node
-- has left from above others, its slot is a hole.
use Rattle.std.specs.Prelude.{◌≡◌, ◌≢◌, ℕ, zero, suc, Bool, true, false, ◌+◌, ◌<◌, ◌≤◌, ◌^◌, ◌==◌, List, vec_capacity, Option, Some, None, length, map, reverse, take}
use Rattle.std.specs.Global.{Vec}
use Rattle.std.specs.List.{All, sum_by}
use Rattle.std.specs.Prelude.{slice_index, slice_index_or, slice_set, if◌then◌else◌}
use Rattle.hopen.specs.Stack.{OpenNode}
use Rattle.hopen.specs.Opens.{open_of}
use Rattle.hopen.specs.NameSets.{is_in, set_node}
use Rattle.hopen.specs.Slots.{somes}
use Rattle.hnodes.specs.IndexedList.{last_up}
use Rattle.names.specs.Sets.{is_special, may_stay_open}
use Rattle.names.specs.Tags.{tag_of}
use Rattle.hopen.specs.declared.kept.KeptNode.{KeptNode}
use Rattle.hopen.specs.declared.kept.Kind.{Kind}
use Rattle.hopen.specs.declared.kept.Kind.TheVariants as kind
use Rattle.hopen.specs.declared.kept.LastLevels.{LastLevels}
use Rattle.hopen.specs.declared.name_sets.NameSet.{NameSet}
use Rattle.hopen.specs.declared.name_sets.SetNodes.{SetNodes}
use Rattle.hopen.specs.declared.stack.Open.{Open}

abbrev pub is_hole : Kind → Bool
is_hole kind.Hole = true
is_hole kind.MayStay = false
is_hole kind.MustClose = false

-- the node that is open in a slot; none in a hole
abbrev pub opened_by : KeptNode → Option (OpenNode ℕ)
opened_by x = if is_hole x.kind then None else Some (open_of x.opened)

abbrev pub same_name_of : KeptNode → ℕ
same_name_of x = x.same_name

abbrev pub same_node_of : KeptNode → ℕ
same_node_of x = x.same_node

abbrev pub sets_at : KeptNode → SetNodes
sets_at x = x.sets

abbrev pub kept_kind_at : KeptNode → Kind
kept_kind_at x = x.kind

-- the slots of a vector, the current node's first
abbrev pub slots_of : List KeptNode → List (Option (OpenNode ℕ))
slots_of items = reverse (map opened_by items)

-- the nodes that a vector has open, the current one first
abbrev pub stack_of : List KeptNode → List (OpenNode ℕ)
stack_of items = somes (slots_of items)

-- the number after that of the name in a slot; 0 in a hole
abbrev pub open_name : Option (OpenNode ℕ) → ℕ
open_name None = 0
open_name (Some y) = suc y.name

-- the same of the node
abbrev pub open_node : Option (OpenNode ℕ) → ℕ
open_node None = 0
open_node (Some y) = suc y.node

abbrev pub slot_names : List (Option (OpenNode ℕ)) → List ℕ
slot_names ys = map open_name ys

abbrev pub slot_nodes : List (Option (OpenNode ℕ)) → List ℕ
slot_nodes ys = map open_node ys

-- where the number of a member is last before it; 0 for a hole
abbrev pub last_same : List ℕ → ℕ → ℕ
last_same numbers j = if slice_index numbers j == 0 then 0 else last_up (λ n. n == slice_index numbers j) numbers j

-- A table says where each number is last among the first members of a list, as many as are given; 0 is a hole there, and each number is one more. And
-- each of these keeps where its number is last before it. Levels count from 1; 0 is none.
pub record IsLinkedTo (n : ℕ) (table numbers befores : List ℕ) : Type 0 where
  pub says : (k : ℕ) → slice_index table k ≡ last_up (λ m. m == suc k) numbers n
  pub kept : (j : ℕ) → j < n → slice_index befores j ≡ last_same numbers j

-- the same of all members
abbrev pub IsLinked : (table numbers befores : List ℕ) → Type 0
IsLinked table numbers befores = IsLinkedTo (length numbers) table numbers befores

-- from a slot on upwards, the nearest node of a set, by the number after its own, if this is that of the slots above; 0 is none
abbrev pub nearest_in : NameSet → Option (OpenNode ℕ) → (above : ℕ) → ℕ
nearest_in set None above = above
nearest_in set (Some y) above = if is_in set y then suc y.node else above

-- the same of the first slots, as many as are given
abbrev pub nearest_up : NameSet → List (Option (OpenNode ℕ)) → ℕ → ℕ
nearest_up set ys zero = 0
nearest_up set ys (suc n) = nearest_in set (slice_index_or ys n None) (nearest_up set ys n)

-- each of the first slots that is no hole keeps that of the slots down to it
abbrev pub KeepSetsTo : ℕ → List (Option (OpenNode ℕ)) → List SetNodes → Type 0
KeepSetsTo n ys sets = (set : NameSet) (m : ℕ) → m < n → slice_index_or ys m None ≢ None → slice_index (map (set_node set) sets) m ≡ nearest_up set ys (suc m)

abbrev pub KeepSets : List (Option (OpenNode ℕ)) → List SetNodes → Type 0
KeepSets ys sets = KeepSetsTo (length ys) ys sets

-- what a slot is
abbrev pub kept_kind : Option (OpenNode ℕ) → Kind
kept_kind None = kind.Hole
kept_kind (Some y) = if may_stay_open (tag_of y.name) then kind.MayStay else kind.MustClose

-- 1 for a slot whose node may not be open at the end of the body
abbrev pub closing : Kind → ℕ
closing kind.Hole = 0
closing kind.MayStay = 0
closing kind.MustClose = 1

-- what is kept of these slots is right, and so is what each of them keeps
pub record StandsAs (last : LastLevels) (ys : List (Option (OpenNode ℕ))) (same_names same_nodes : List ℕ) (kept : List SetNodes) (ks : List Kind) :
    Type 0 where
  pub names : IsLinked last.names.items (slot_names ys) same_names
  pub nodes : IsLinked last.nodes.items (slot_nodes ys) same_nodes
  pub sets : KeepSets ys kept
  pub kinds : ks ≡ map kept_kind ys
  pub closes : last.must_close ≡ sum_by closing ks
  pub fits : length last.nodes.items < 2 ^ 32

abbrev pub LevelsStand : LastLevels → List KeptNode → Type 0
LevelsStand last items = StandsAs last (map opened_by items) (map same_name_of items) (map same_node_of items) (map sets_at items) (map kept_kind_at items)

-- the same of the first slots, as many as are given
pub record StandsTo (n : ℕ) (last : LastLevels) (ys : List (Option (OpenNode ℕ))) (same_names same_nodes : List ℕ) (kept : List SetNodes) (ks : List Kind) :
    Type 0 where
  pub names : IsLinkedTo n last.names.items (slot_names ys) same_names
  pub nodes : IsLinkedTo n last.nodes.items (slot_nodes ys) same_nodes
  pub sets : KeepSetsTo n ys kept
  pub kinds : (j : ℕ) → j < n → slice_index_or ks j kind.Hole ≡ kept_kind (slice_index_or ys j None)
  pub closes : last.must_close ≡ sum_by closing (take n ks)
  pub fits : length last.nodes.items < 2 ^ 32

abbrev pub LevelsTo : ℕ → LastLevels → List KeptNode → Type 0
LevelsTo n last items = StandsTo n last (map opened_by items) (map same_name_of items) (map same_node_of items) (map sets_at items) (map kept_kind_at items)

-- the last slot is no hole
abbrev pub EndsOpen : List (Option (OpenNode ℕ)) → Type 0
EndsOpen ys = (k : ℕ) → length ys ≡ suc k → slice_index_or ys k None ≢ None

-- All of that between two calls: the last slot is no hole, and the holes are counted.
pub record Rests (last : LastLevels) (items : List KeptNode) : Type 0 where
  pub stands : LevelsStand last items
  pub ends : EndsOpen (map opened_by items)
  pub holes : last.holes + length (stack_of items) ≡ length items
  pub levels : length items < 2 ^ 32

-- a level is kept just by the member at an index, from 1, or where that is 0, just by the table at a number
pub record IsHeldLevel (table befores : List ℕ) (number level next : ℕ) : Type 0 where
  pub in_table : (k : ℕ) → slice_index table k ≡ level → (next ≡ 0) × (k ≡ number)
  pub in_list : (j : ℕ) → slice_index befores j ≡ level → next ≡ suc j
  pub here : next ≡ 0 → slice_index table number ≡ level
  pub there : (j : ℕ) → next ≡ suc j → slice_index befores j ≡ level

-- two members of a list change places
abbrev pub exchanged : {X : Type 0} → ℕ → ℕ → X → List X → List X
exchanged i j d xs = slice_set (slice_set xs i (slice_index_or xs j d)) j (slice_index_or xs i d)

-- a kept level after that
abbrev pub level_exchanged : ℕ → ℕ → ℕ → ℕ
level_exchanged i j p = if p == suc i then suc j else (if p == suc j then suc i else p)

-- between two indices there are holes alone
abbrev pub AreHoles : ℕ → ℕ → List ℕ → Type 0
AreHoles i j numbers = (m : ℕ) → i < m → m < j → slice_index numbers m ≡ 0

-- two vectors keep the same, but for the levels of the nodes of their names
pub record AreAlikeButNames (xs ys : List KeptNode) : Type 0 where
  pub opened : map opened_by xs ≡ map opened_by ys
  pub same_nodes : map same_node_of xs ≡ map same_node_of ys
  pub sets : map sets_at xs ≡ map sets_at ys
  pub kinds : map kept_kind_at xs ≡ map kept_kind_at ys

-- the same, and the same levels of names, but for where the next node of a name may be
pub record AreAlike (xs ys : List KeptNode) : Type 0 where
  pub rest : AreAlikeButNames xs ys
  pub same_names : map same_name_of xs ≡ map same_name_of ys

-- tables as long as others: a node and a name that are in the others are in these
pub record AreAsLong (last other : LastLevels) : Type 0 where
  pub names : length last.names.items ≡ length other.names.items
  pub nodes : length last.nodes.items ≡ length other.nodes.items
  pub holes : last.holes ≡ other.holes

-- tables as long as others, and a vector that is no longer than another and has as much room
pub record KeepRoom (last other : LastLevels) (items before : Vec KeptNode) : Type 0 where
  pub names : length last.names.items ≡ length other.names.items
  pub nodes : length last.nodes.items ≡ length other.nodes.items
  pub len : length items.items ≤ length before.items
  pub capacity : vec_capacity before ≤ vec_capacity items

-- the tables have an entry for a node and one for its name, so their levels can be written there
abbrev pub HasRoom : LastLevels → Open → Type 0
HasRoom last x = (x.name < length last.names.items) × (x.node < length last.nodes.items)

-- the slot of a node right below the first slots, where the tables and what these keep are right
pub record IsBelow (last : LastLevels) (ys : List (Option (OpenNode ℕ))) (n : ℕ) (new : Open) (x : KeptNode) : Type 0 where
  pub opened : x.opened ≡ new
  pub same_name : x.same_name ≡ slice_index last.names.items new.name
  pub same_node : x.same_node ≡ slice_index last.nodes.items new.node
  pub sets : (set : NameSet) → set_node set x.sets ≡ nearest_in set (Some (open_of new)) (nearest_up set ys n)
  pub kind : x.kind ≡ kept_kind (Some (open_of new))

-- a node that is open at a level and nowhere else, and is not special
pub record IsAlone (last : LastLevels) (x : KeptNode) (level : ℕ) : Type 0 where
  pub live : is_hole x.kind ≡ false
  pub plain : is_special (tag_of x.opened.name) ≡ false
  pub none_above : x.same_node ≡ 0
  pub none_below : slice_index last.nodes.items x.opened.node ≡ level

-- Two nodes with holes alone between them: the upper one is not special, and neither is open again below.
pub record CanPass (last : LastLevels) (items : List KeptNode) (i j : ℕ) : Type 0 where
  pub order : i < j
  pub within : j < length items
  pub holes : AreHoles i j (slot_names (map opened_by items))
  pub upper : (x : KeptNode) → x ≡ slice_index_or items i x
      → (is_hole x.kind ≡ false) × (is_special (tag_of x.opened.name) ≡ false) × (slice_index last.nodes.items x.opened.node ≡ suc i)
  pub lower : (x : KeptNode) → x ≡ slice_index_or items j x → (is_hole x.kind ≡ false) × (slice_index last.nodes.items x.opened.node ≡ suc j)

-- the tables have an entry for the node of a slot and one for its name
abbrev pub IsIn : LastLevels → Option (OpenNode ℕ) → Type 0
IsIn last None = Unit {0}
IsIn last (Some y) = (y.name < length last.names.items) × (y.node < length last.nodes.items)

abbrev pub AreIn : LastLevels → List (Option (OpenNode ℕ)) → Type 0
AreIn last ys = All (IsIn last) ys
