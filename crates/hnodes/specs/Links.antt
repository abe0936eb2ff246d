-- What linked nodes say of a forest, by a look at each number.
use Rattle.std.specs.Prelude.{◌≡◌, ℕ, suc, zero, Bool, false, eqb, ltb, List, [], ◌∷◌, ◌++◌, Option, Some, None, is_none, if◌then◌else◌}
use Rattle.std.specs.Option.{option_map}
use Rattle.hnodes.specs.Forest.{What, document, Forest, none, tree, roots, size, times}
use Rattle.hnodes.specs.Spots.{Spot, first_or, last_or}

-- what is said of one node
pub record Row (N : Type 0) : Type 0 where
  pub what : What N
  pub parent : Option ℕ
  pub first : Option ℕ
  pub last : Option ℕ
  pub previous : Option ℕ
  pub next : Option ℕ

-- what is seen at each number
abbrev pub Look : Type 0 → Type 0
Look N = ℕ → Option (Row N)

-- a sibling below a parent; a root has none
abbrev pub sibling : (parent link : Option ℕ) → Option ℕ
sibling None link = None
sibling (Some p) link = link

module _ {N : Type 0} where
  -- the row of a node at its place
  abbrev pub row_at : Spot N → Row N
  row_at s = record {
    what = s.what;
    parent = s.parent;
    first = first_or s.children None;
    last = last_or None s.children;
    previous = s.before;
    next = first_or s.after None;
  }

  -- the row of a node that stands for itself, without children
  abbrev pub row_alone : What N → Row N
  row_alone w = record { what = w; parent = None; first = None; last = None; previous = None; next = None }

  -- the trees are in what is seen, linked one to the next, below a parent, after one sibling and before another
  abbrev pub Linked : Look N → (parent before : Option ℕ) → Forest N → (after : Option ℕ) → Type 0
  Linked look p before none after = Unit {0}
  Linked look p before (tree b w kids rest) after =
      (look b ≡ Some (record {
        what = w;
        parent = p;
        first = first_or kids None;
        last = last_or None kids;
        previous = sibling p before;
        next = sibling p (first_or rest after);
      }))
      × Linked look (Some b) None kids None
      × Linked look p (Some b) rest after

  -- the trees are in what is seen, each for itself
  abbrev pub Loose : Look N → Forest N → Type 0
  Loose look f = Linked look None None f None

  abbrev pub what_in : Option (Row N) → What N
  what_in None = document
  what_in (Some r) = r.what

  abbrev pub parent_in : Option (Row N) → Option ℕ
  parent_in None = None
  parent_in (Some r) = r.parent

  abbrev pub first_in : Option (Row N) → Option ℕ
  first_in None = None
  first_in (Some r) = r.first

  abbrev pub last_in : Option (Row N) → Option ℕ
  last_in None = None
  last_in (Some r) = r.last

  abbrev pub previous_in : Option (Row N) → Option ℕ
  previous_in None = None
  previous_in (Some r) = r.previous

  abbrev pub next_in : Option (Row N) → Option ℕ
  next_in None = None
  next_in (Some r) = r.next

  -- what a node is, and its parent
  abbrev pub standing : Option (Row N) → Option (What N × Option ℕ)
  standing o = option_map (λ r. (r.what, r.parent)) o

  -- the siblings that are seen from the first one on, to a depth
  abbrev pub seen : ℕ → Look N → Option ℕ → Forest N
  seen zero look at = none
  seen (suc k) look None = none
  seen (suc k) look (Some i) = tree i (what_in (look i)) (seen k look (first_in (look i))) (seen k look (next_in (look i)))

  -- the trees that are seen at these numbers
  abbrev pub seen_each : ℕ → Look N → List ℕ → Forest N
  seen_each k look [] = none
  seen_each k look (i ∷ is) = tree i (what_in (look i)) (seen k look (first_in (look i))) (seen_each k look is)

  abbrev pub is_loose : Option (Row N) → Bool
  is_loose None = false
  is_loose (Some r) = is_none r.parent

  -- the loose ones among the first k nodes
  abbrev pub loose : ℕ → Look N → List ℕ
  loose zero look = []
  loose (suc k) look = loose k look ++ (if is_loose (look k) then k ∷ [] else [])

  -- all that is seen of this many nodes
  abbrev pub whole : ℕ → Look N → Forest N
  whole count look = seen_each count look (loose count look)

  -- a forest is in what is seen of this many nodes, and holds each of them once
  pub record RowsStandIn (count : ℕ) (look : Look N) (f : Forest N) : Type 0 where
    pub rows : Loose look f
    pub loose_ones : roots f ≡ loose count look
    pub all : size f ≡ count
    pub once : (n : ℕ) → times n f ≡ (if ltb n count then 1 else 0)

  -- how a row changes
  abbrev pub with_next : Option ℕ → Row N → Row N
  with_next x r = record r { next = x }

  abbrev pub with_previous : Option ℕ → Row N → Row N
  with_previous x r = record r { previous = x }

  abbrev pub with_first : Option ℕ → Row N → Row N
  with_first x r = record r { first = x }

  abbrev pub with_last : Option ℕ → Row N → Row N
  with_last x r = record r { last = x }

  abbrev pub with_ends : (first last : Option ℕ) → Row N → Row N
  with_ends x y r = record r { first = x; last = y }

  abbrev pub with_what : (What N → What N) → Row N → Row N
  with_what f r = record r { what = f r.what }

  -- where a node is among its siblings
  abbrev pub with_place : (parent previous next : Option ℕ) → Row N → Row N
  with_place p x y r = record r { parent = p; previous = x; next = y }

  -- node k's row becomes f of it
  abbrev pub at_row : ℕ → (Row N → Row N) → Look N → Look N
  at_row k f look n = if eqb n k then option_map f (look n) else look n

  -- How code relinks.

  -- the row of a sibling becomes one thing of it, or that of q, where there is none, another
  abbrev pub at_link : (q : ℕ) → (sibling : Option ℕ) → (end beside : Row N → Row N) → Look N → Look N
  at_link q None end beside look n = at_row q end look n
  at_link q (Some a) end beside look n = at_row a beside look n

  -- what comes after a sibling, or first below q, is y
  abbrev pub after_link : (q : ℕ) → (before y : Option ℕ) → Look N → Look N
  after_link q before y look n = at_link q before (with_first y) (with_next y) look n

  -- what comes before a sibling, or last below q, is x
  abbrev pub before_link : (q : ℕ) → (after x : Option ℕ) → Look N → Look N
  before_link q after x look n = at_link q after (with_last x) (with_previous x) look n

  -- between two neighbours below q, or before the first, or after the last: the first one is followed by y, the second one follows x
  abbrev pub spliced : (q : ℕ) → (before after : Option ℕ) → (x y : Option ℕ) → Look N → Look N
  spliced q before after x y look n = before_link q after x (after_link q before y look) n

  -- node k leaves its parent and its siblings
  abbrev pub leave : (k : ℕ) → (parent previous next : Option ℕ) → Look N → Look N
  leave k None x y look n = look n
  leave k (Some q) x y look n = at_row k (with_place None None None) (spliced q x y x y look) n

  abbrev pub detached : ℕ → Look N → Look N
  detached k look n = leave k (parent_in (look k)) (previous_in (look k)) (next_in (look k)) look n

  -- node k, which stands for itself, comes below q between two neighbours
  abbrev pub hooked : (k q : ℕ) → (before after : Option ℕ) → Look N → Look N
  hooked k q x y look n = at_row k (with_place (Some q) x y) (spliced q x y (Some k) (Some k) look) n
