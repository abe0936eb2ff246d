-- What the items of a vector keep, by index.
use Rattle.hopen.proofs.Names.{cases_eq, get_or-map as map-at, ◌≡◌, ℕ, zero, suc, ◌<◌, ◌≤◌, true, false, List, length, map, get_or, set, Option, Some, None, refl, sym, ◌∙◌, ap, subst, arith, cases_lt, length-map, get_or_past, get_or-set_other, map-set, map-set_same, is_hole_kind, slot_names, open_name, slot_nodes, open_node, open_of, opened_by, same_name_of, IsHeldLevel, IsLinked, KeptNode, OpenNode, nat_tests, common_steps, ◌≢◌, cond, kept_kind, IsBelow, LastLevels, Open, Bool, [], ◌∷◌, ◌&&◌, not, filter, find, option_map, current, somes, true≢false, nearest_in, nearest_up, is_special, tag_of, NameSet, holds, ◌||◌, list_all, is_in_set, Tag}
use Rattle.std.proofs.Math.ListN.{get_or-map}
use Rattle.hopen.proofs.Swapped.{walk-in}
use Rattle.hopen.specs.declared.name_sets.NameSet.TheVariants as name_set
use Rattle.hopen.specs.declared.scope.Scope.TheVariants as scope
use Rattle.hopen.specs.declared.scope.Group.TheVariants as group

-- What is open in a slot.
pub held : (x : KeptNode) → is_hole_kind x.kind ≡ false → opened_by x ≡ Some (open_of x.opened)
held x e = ap (λ v. cond v None (Some (open_of x.opened))) e

pub no-node : (x : KeptNode) → is_hole_kind x.kind ≡ true → opened_by x ≡ None
no-node x e = ap (λ v. cond v None (Some (open_of x.opened))) e

pub some≢none : {X : Type 0} (x : X) (o : Option X) → o ≡ Some x → o ≢ None
some≢none x o e f = absurd (grind arith)

pub is-held : (x : KeptNode) → opened_by x ≢ None → is_hole_kind x.kind ≡ false
is-held x ne = grind (arith, common_steps, nat_tests, no-node)

pub seen-at : (items : List KeptNode) (i : ℕ) (d : KeptNode) → i < length items → get_or (map opened_by items) i None ≡ opened_by (get_or items i d)
seen-at items i d h = map-at opened_by items i d None h

-- the kind of a slot with a node is no hole's
pub kind-held : (y : OpenNode ℕ) → is_hole_kind (kept_kind (Some y)) ≡ false
kind-held y = grind (arith, common_steps, nat_tests)

-- the slot of a node right below others
pub below-held : (last : LastLevels) (ys : List (Option (OpenNode ℕ))) (n : ℕ) (new : Open) (x : KeptNode) → IsBelow last ys n new x
    → opened_by x ≡ Some (open_of x.opened)
below-held last ys n new x b = held x (ap is_hole_kind b.kind ∙ kind-held (open_of new))

-- the slots that are no holes, and what they hold
abbrev pub is_live : KeptNode → Bool
is_live x = not (is_hole_kind x.kind)

abbrev pub node_in : KeptNode → OpenNode ℕ
node_in x = open_of x.opened

pub live-nodes : (items : List KeptNode) → map node_in (filter is_live items) ≡ somes (map opened_by items)
live-nodes [] = refl
live-nodes (x ∷ items) = grind (arith, live-nodes items)

pub first-live : (items : List KeptNode) → option_map node_in (find is_live items) ≡ current (somes (map opened_by items))
first-live [] = refl
first-live (x ∷ items) = grind (arith, first-live items)

-- the first of those that pass a test
pub first-passing : (passes : OpenNode ℕ → Bool) (items : List KeptNode)
    → option_map node_in (find (λ x. is_live x && passes (node_in x)) items) ≡ find passes (somes (map opened_by items))
first-passing passes [] = refl
first-passing passes (x ∷ items) = grind (arith, first-passing passes items)

module _ (items : List KeptNode) where
  pub length-names : length (slot_names (map opened_by items)) ≡ length items
  length-names = length-map (map opened_by items) open_name ∙ length-map items opened_by

  pub length-nodes : length (slot_nodes (map opened_by items)) ≡ length items
  length-nodes = length-map (map opened_by items) open_node ∙ length-map items opened_by

-- what is read at an index
module _ {Y : Type 0} (f : KeptNode → Y) (d : Y) (items : List KeptNode) (i : ℕ) (x : KeptNode) (h : i < length items) (is : x ≡ get_or items i x) where
  pub part-at : get_or (map f items) i d ≡ f x
  part-at = map-at f items i x d h ∙ ap f (sym is)

pub part-of : {X Y : Type 0} (g : X → Y) (f : KeptNode → X) (d : Y) (items : List KeptNode) (i : ℕ) (x : KeptNode) → i < length items → x ≡ get_or items i x
    → get_or (map g (map f items)) i d ≡ g (f x)
part-of g f d items i x h is = map-at g (map f items) i (f x) d (omega (arith, length-map items f)) ∙ ap g (part-at f (f x) items i x h is)

-- a slot with no name is a hole
hole-of : (z : Option (OpenNode ℕ)) → open_name z ≡ 0 → z ≡ None
hole-of None e = refl
hole-of (Some x) e = absurd (omega arith)

pub no-name : (ys : List (Option (OpenNode ℕ))) (m : ℕ) → get_or (slot_names ys) m 0 ≡ 0 → get_or ys m None ≡ None
no-name ys m e = hole-of (get_or ys m None) (sym (get_or-map open_name ys m None) ∙ e)

module _ (items : List KeptNode) (i : ℕ) (x : KeptNode) (h : i < length items) (is : x ≡ get_or items i x) where
  pub same_name-at : get_or (map same_name_of items) i 0 ≡ x.same_name
  same_name-at = part-at same_name_of 0 items i x h is

  pub name-hole : is_hole_kind x.kind ≡ true → get_or (slot_names (map opened_by items)) i 0 ≡ 0
  name-hole e = get_or-map open_name (map opened_by items) i None ∙ ap open_name (part-at opened_by None items i x h is ∙ no-node x e)

  -- where it is no hole
  module _ (live : is_hole_kind x.kind ≡ false) where
    pub opened-at : get_or (map opened_by items) i None ≡ Some (open_of x.opened)
    opened-at = part-at opened_by None items i x h is ∙ held x live

    pub name-at : get_or (slot_names (map opened_by items)) i 0 ≡ suc x.opened.name
    name-at = get_or-map open_name (map opened_by items) i None ∙ ap open_name opened-at

    pub node-at : get_or (slot_nodes (map opened_by items)) i 0 ≡ suc x.opened.node
    node-at = get_or-map open_node (map opened_by items) i None ∙ ap open_node opened-at

    -- its numbers are in the tables
    pub name-in : (t bs : List ℕ) → IsLinked t (slot_names (map opened_by items)) bs → x.opened.name < length t
    name-in t bs l = walk-in t (slot_names (map opened_by items)) bs l i x.opened.name name-at (omega (arith, length-names items))

    pub node-in : (t bs : List ℕ) → IsLinked t (slot_nodes (map opened_by items)) bs → x.opened.node < length t
    node-in t bs l = walk-in t (slot_nodes (map opened_by items)) bs l i x.opened.node node-at (omega (arith, length-nodes items))

-- one that keeps a level is in the list
pub held-within : (t bs : List ℕ) (a p n : ℕ) → 0 < p → IsHeldLevel t bs a p n → n ≤ length bs
held-within t bs a p zero h held = omega arith
held-within t bs a p (suc j) h held = grind (arith, held.there j refl, get_or_past bs j 0, cases_lt j (length bs))

-- two members are written
module _ {X Y : Type 0} (f : X → Y) (items : List X) (i j : ℕ) (a b d : X) (less : i < j) where
  unmoved : f (get_or (set items i a) j d) ≡ f (get_or items j d)
  unmoved = ap f (get_or-set_other items i j a d (λ e. absurd (omega arith)))

  pub two-same : f a ≡ f (get_or items i d) → f b ≡ f (get_or items j d) → map f (set (set items i a) j b) ≡ map f items
  two-same e g = map-set_same f (set items i a) j b d (g ∙ sym unmoved) ∙ map-set_same f items i a d e

  pub two-upper : f b ≡ f (get_or items j d) → map f (set (set items i a) j b) ≡ set (map f items) i (f a)
  two-upper g = map-set_same f (set items i a) j b d (g ∙ sym unmoved) ∙ map-set f items i a

-- All that is in a set of known names is special.

-- all sets
abbrev every_set : List NameSet
every_set = name_set.Stops scope.Default ∷ name_set.Stops scope.ListItem ∷ name_set.Stops scope.Button ∷ name_set.Stops scope.Table ∷ name_set.Special
    ∷ name_set.StopsItem ∷ name_set.Group group.Heading ∷ name_set.Group group.TableSection ∷ name_set.Group group.Cell ∷ name_set.Group group.TellsMode ∷ []

-- what holds at all of them holds at each
at_set : (p : NameSet → Bool) → list_all p every_set ≡ true → (set : NameSet) → p set ≡ true
at_set p h set = grind arith

special_at : (t : Tag) → list_all (λ set. not (is_in_set set t) || is_special t) every_set ≡ true
special_at t = grind arith

pub special : (set : NameSet) (t : Tag) → is_in_set set t ≡ true → is_special t ≡ true
special set t h = subst (λ (v : Bool). (not v || is_special t) ≡ true) h (at_set (λ x. not (is_in_set x t) || is_special t) (special_at t) set)

-- a name that is not special is in no set
pub not-in : (set : NameSet) (n : ℕ) → is_special (tag_of n) ≡ false → holds set n ≡ false
not-in set n plain = grind (arith, common_steps, nat_tests, special, true≢false)

-- the nearest node of a set among the first slots
module _ (set : NameSet) where
  -- a node that is not special makes no difference
  pub nearest-plain : (y : OpenNode ℕ) (above : ℕ) → is_special (tag_of y.name) ≡ false → nearest_in set (Some y) above ≡ above
  nearest-plain y above plain = ap (λ v. cond v (suc y.node) above) (not-in set y.name plain)

  pub nearest-alike : (ys zs : List (Option (OpenNode ℕ))) (n : ℕ) → ((j : ℕ) → j < n → get_or zs j None ≡ get_or ys j None)
      → nearest_up set zs n ≡ nearest_up set ys n
  nearest-alike ys zs zero same = refl
  nearest-alike ys zs (suc n) same = λ t. nearest_in set (same n (omega arith) t) (nearest-alike ys zs n (λ j h. same j (omega arith)) t)

  -- two lists that differ at an index alone, where neither has one of the set
  pub nearest-neutral : (ys zs : List (Option (OpenNode ℕ))) (i : ℕ) → ((j : ℕ) → j ≢ i → get_or zs j None ≡ get_or ys j None)
      → ((a : ℕ) → nearest_in set (get_or ys i None) a ≡ a) → ((a : ℕ) → nearest_in set (get_or zs i None) a ≡ a) → (n : ℕ)
      → nearest_up set zs n ≡ nearest_up set ys n
  nearest-neutral ys zs i same a b zero = refl
  nearest-neutral ys zs i same a b (suc n) = grind (arith, nat_tests, nearest-neutral ys zs i same a b n, a, b, same n, cases_eq n i)

  module _ (ys : List (Option (OpenNode ℕ))) where
    pub nearest-hole : (n : ℕ) → get_or ys n None ≡ None → nearest_up set ys (suc n) ≡ nearest_up set ys n
    nearest-hole n e = ap (λ z. nearest_in set z (nearest_up set ys n)) e
