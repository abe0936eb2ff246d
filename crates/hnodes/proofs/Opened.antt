-- What the calls of a tree have to show: what its fields say of its value, and what they say after an edit.
use Rattle.hnodes.proofs.Names.{◌≡◌, ℕ, zero, suc, true, cond, ◌++◌, ◌<◌, ◌≤◌, List, [], ◌∷◌, Option, Some, None, length, refl, sym, ◌∙◌, ap, subst, arith, Forest, What, document, tree, none, roots, change_what, Nodes, AreNodes, Row, Look, Loose, RowsStandIn, standing, loose, is_loose, parent_in, previous_in, next_in, with_what, at_row, look_in, row_of, content_is, get_or, set, eqb, option_map, nodes_in, inside_nodes, AreKept, AreTree, Holds, IsAmong, IsGrown, IsKept, IsTree, Node, NodeData, Store, Inside, option_and_then, times, Spot, spot_of, parent_of, row_at, first_in, last_in, IsSome, All, IsOutside, graft_last, graft_before, detached, hooked, contents_of, IsSeenAs, IsWithin, ◌≢◌, eq-eqb, ne_eqb, lt-leb, join, tree_at, make, IsPlace, Place, LastIn, Before, row_alone, inr, HoldsAt, length-set, HasNode, Result, Ok, Err, OnErr, IsErrAnd, Makes, Refusal, Memory, ◌+◌, ltb, whole, length_push, add-one}
use Rattle.std.specs.Prelude.{Result, Ok, Err}
use Rattle.hnodes.proofs.Rows.{grown-holds, kept-at, kept-grown, kept-set, look_in-at, look_in-grown, look_in-set, row_seen, as_many, kept-push, look_in-before, look_in-last}
use Rattle.hnodes.proofs.Forests.{Loose-spot, spot_of-join, tree_at-join, times-join, size-join, roots-join}
use Rattle.hnodes.proofs.Cuts.{one-of, once-of, there, links-among, there as is_there, ends-among, Cut, cut_of, append-within, graft-standing, StandsIn-append, before-within, before-parent, StandsIn-before}
use Rattle.hnodes.proofs.Linked.{StandsIn-same, StandsIn-what, document-what, Linked-agree, seen_loose, Loose-join, loose-same}
use Rattle.std.proofs.Common.{IfSome}
use Rattle.hnodes.proofs.Inside.{tree_at-joined, tree_at-among}

-- A node more.

one_more : (n count : ℕ) → cond (ltb n count) 1 0 + cond (eqb count n) 1 0 ≡ cond (ltb n (suc count)) 1 0
one_more n count = grind arith

module _ {N : Type 0} where
  -- what is there is seen
  pub whole-stands : {count : ℕ} {look : Look N} {f : Forest N} → RowsStandIn count look f → whole count look ≡ f
  whole-stands {count} {look} {f} s = rw (← s.loose_ones) (seen_loose look None f count s.rows (rw s.all (omega arith)))

  StandsIn-make : (count : ℕ) (look new : Look N) (w : What N) (f : Forest N) → RowsStandIn count look f → ((n : ℕ) → n < count → new n ≡ look n)
      → new count ≡ Some (row_alone w) → RowsStandIn (suc count) new (join f (tree count w none none))
  StandsIn-make count look new w f s same row = record {
    rows = Loose-join new None None f (tree count w none none) (Linked-agree look new None None f None (λ b h. same b (there s b h)) s.rows) (row, tt, tt);
    loose_ones = roots-join f (tree count w none none) ∙ rw (s.loose_ones, loose-same look new count (λ b h. ap is_loose (same b h)), row) refl;
    all = size-join f (tree count w none none) ∙ omega (arith, s.all);
    once = λ n. times-join n f (tree count w none none) ∙ rw (s.once n) (omega (arith, one_more n count));
  }

module _ (s : Store) (xs : List Node) (x : Node) (w : What ℕ) (limit : ℕ) (r : row_of s x ≡ row_alone w) (is : AreTree s xs limit) where
  stands : RowsStandIn (length (xs ++ x ∷ [])) (look_in s (xs ++ x ∷ [])) (join is.forest.0 (tree (length xs) w none none))
  stands = rw (length_push xs x, add-one (length xs)) (StandsIn-make (length xs) (look_in s xs) (look_in s (xs ++ x ∷ [])) w is.forest.0 is.forest.1
      (λ n h. look_in-before s xs x n h) (look_in-last s xs x ∙ ap (λ m. Some m) r))

  pub made_stands : IsKept s x.content → length xs < limit → AreTree s (xs ++ x ∷ []) limit
  made_stands k h = record {
    kept = kept-push s xs x is.kept k;
    forest = (join is.forest.0 (tree (length xs) w none none), stands);
    begun = go xs is.begun;
    fits = rw (length_push xs x) (omega arith);
  } where
    go : (xs : List Node) → standing (look_in s xs 0) ≡ Some (document, None) → standing (look_in s (xs ++ x ∷ []) 0) ≡ Some (document, None)
    go [] e = cc
    go (y ∷ ys) e = e

  pub made_view : nodes_in s (xs ++ x ∷ []) limit ≡ make w (nodes_in s xs limit)
  made_view = rw (whole-stands stands, whole-stands is.forest.1, length_push xs x) refl

-- what holds anyhow holds on an error
pub on_err : {A E P : Type 0} (r : Result A E) → P → OnErr r P
on_err (Ok _) p = tt
on_err (Err _) p = p

-- what the fields of a tree say of its value
pub record Opened (t : Inside) (v : Nodes ℕ) : Type 0 where
  pub made : length t.nodes.items ≡ v.made
  pub limit : t.limit ≡ v.limit
  pub stands : RowsStandIn (length t.nodes.items) (look_in t.store t.nodes.items) v.trees
  pub begun : standing (look_in t.store t.nodes.items 0) ≡ Some (document, None)
  pub fits : length t.nodes.items ≤ t.limit
  pub kept : AreKept t.store t.nodes.items

pub opened : (t : Inside) (v : Nodes ℕ) → inside_nodes t ≡ v → IsTree t → Opened t v
opened t v e s =
    rw (← e) (record { made = refl; limit = refl; stands = rw (whole-stands s.forest.1) s.forest.1; begun = s.begun; fits = s.fits; kept = s.kept })

-- a node's parent and siblings are there
pub linked : {t : Inside} {v : Nodes ℕ} (o : Opened t v) (n : ℕ) → n < v.made → HoldsAt (IsAmong (length t.nodes.items)) t.nodes.items n
linked {t} {v} o n h d = let seen = look_in-at t.store t.nodes.items n d (omega (arith, o.made)) in let at = there o.stands in
    let m = links-among (look_in t.store t.nodes.items) v.trees n (one-of o.stands n (omega (arith, o.made))) (once-of o.stands) o.stands.rows in
    ((λ k e. at k (m.0 k (ap parent_in seen ∙ e))), (λ k e. at k (m.1 k (ap previous_in seen ∙ e))), (λ k e. at k (m.2 k (ap next_in seen ∙ e))))

-- the document is made
pub begun_made : {t : Inside} {v : Nodes ℕ} → Opened t v → 0 < v.made
begun_made {t} {v} o = let h = go t.nodes.items o.begun in omega (arith, o.made) where
  go : (xs : List Node) → standing (look_in t.store xs 0) ≡ Some (document, None) → 0 < length xs
  go [] e = cc
  go (x ∷ xs) e = omega arith

module _ {N : Type 0} where
  loose-begins : (look : Look N) (count : ℕ) → 0 < count → is_loose (look 0) ≡ true → (xs : List ℕ) × (loose count look ≡ 0 ∷ xs)
  loose-begins look zero h e = absurd (omega arith)
  loose-begins look (suc zero) h e = ([], rw e refl)
  loose-begins look (suc (suc k)) h e = let r = loose-begins look (suc k) (omega arith) e in
      (r.0 ++ cond (is_loose (look (suc k))) (suc k ∷ []) [], ap (λ xs. xs ++ cond (is_loose (look (suc k))) (suc k ∷ []) []) r.1)

  document-loose : (o : Option (Row N)) → standing o ≡ Some (document, None) → is_loose o ≡ true
  document-loose o e = grind arith

  begins : (look : Look N) (f : Forest N) (xs : List ℕ) → roots f ≡ 0 ∷ xs → Loose look f → standing (look 0) ≡ Some (document, None)
      → (kids : Forest N) × (rest : Forest N) × (f ≡ tree 0 document kids rest)
  begins look none xs e s d = cc
  begins look (tree b w kids rest) xs e s d = (kids, rest, grind (arith, s.0))

pub are_nodes : {t : Inside} {v : Nodes ℕ} → Opened t v → AreNodes v
are_nodes {t} {v} o = let look = look_in t.store t.nodes.items in
    let first = loose-begins look (length t.nodes.items) (omega (arith, o.made, begun_made o)) (document-loose (look 0) o.begun) in
    let b = begins look v.trees first.0 (o.stands.loose_ones ∙ first.1) o.stands.rows o.begun in
    record { counted = record { once = λ n. rw (← o.made) (o.stands.once n); begins = b }; fits = omega (arith, o.made, o.limit, o.fits) }

-- The nodes and the store as a call leaves them: all is kept, and a forest is in as many nodes.
pub record Left (t : Inside) (s : Store) (new : List Node) (f : Forest ℕ) : Type 0 where
  pub kept : AreKept s new
  pub same : length new ≡ length t.nodes.items
  pub stands : RowsStandIn (length t.nodes.items) (look_in s new) f
  pub begun : standing (look_in s new 0) ≡ Some (document, None)

module _ {t : Inside} {v : Nodes ℕ} {s : Store} {new : List Node} {f : Forest ℕ} (o : Opened t v) (l : Left t s new f) where
  pub edited : AreTree s new t.limit
  edited = record { kept = l.kept; forest = (f, rw l.same l.stands); begun = l.begun; fits = rw l.same o.fits }

  pub edited_view : nodes_in s new t.limit ≡ record v { trees = f }
  edited_view = rw (l.same, whole-stands l.stands, o.made, o.limit) refl

-- more is in the store
pub grew : {t : Inside} {v : Nodes ℕ} {s : Store} → Opened t v → IsGrown t.store s → Left t s t.nodes.items v.trees
grew {t} {v} {s} o g = let rows = look_in-grown t.store s t.nodes.items g o.kept in
    let stands = StandsIn-same (length t.nodes.items) (look_in t.store t.nodes.items) (look_in s t.nodes.items) v.trees o.stands rows in
    record { kept = kept-grown t.store s t.nodes.items g o.kept; same = refl; stands = stands; begun = ap standing (rows 0) ∙ o.begun }

what-id : {N : Type 0} (n : ℕ) (f : Forest N) → change_what n (λ w. w) f ≡ f
what-id n none = refl
what-id n (tree b w kids rest) = grind (arith, what-id n kids, what-id n rest)

-- a write into what a node is, that shows or does not
module _ {t : Inside} {v : Nodes ℕ} {n j : ℕ} {x : Node} (o : Opened t v) (made : n < v.made) (same : j ≡ n) (is : x ≡ get_or t.nodes.items j x) where
  there_is : n < length t.nodes.items
  there_is = omega (arith, o.made)

  pub kept_there : IsKept t.store x.content
  kept_there = kept-at t.store t.nodes.items n j x same there_is is o.kept

  module _ {s : Store} (more : IsGrown t.store s) (c : NodeData) where
    abbrev new : List Node
    new = set t.nodes.items j (record x { content = c })

    pub written : (g : What ℕ → What ℕ) → g document ≡ document → Holds s c (g (content_is t.store x.content)) → Left t s new (change_what n g v.trees)
    written g stays h = record {
      kept = kept-set s t.nodes.items j (record x { content = c }) (kept-grown t.store s t.nodes.items more o.kept) h.0;
      same = length-set t.nodes.items j (record x { content = c });
      stands = StandsIn-what n g (length t.nodes.items) (look_in t.store t.nodes.items) (look_in s new) v.trees o.stands rows;
      begun = document-what n g (look_in t.store t.nodes.items) (look_in s new) stays rows 0 o.begun;
    } where
      rows : (k : ℕ) → look_in s new k ≡ at_row n (with_what g) (look_in t.store t.nodes.items) k
      rows k = rw same (look_in-set s t.nodes.items n x (record x { content = c }) (with_what g) there_is (is ∙ ap (λ m. get_or t.nodes.items m x) same)
          (ap (λ w. record (row_of s x) { what = w }) (h.1 ∙ ap g (sym (grown-holds t.store s x.content more kept_there).1))) k)
          ∙ ap (λ r. cond (eqb k n) (option_map (with_what g) r) r) (look_in-grown t.store s t.nodes.items more o.kept k)

    pub unwritten : Holds s c (content_is t.store x.content) → Left t s new v.trees
    unwritten h = rw (what-id n v.trees) at (written (λ w. w) refl h)

-- What a node that is read says of its place.

-- the row of a node is that of its place
place_seen : {t : Inside} {v : Nodes ℕ} (n : ℕ) → Opened t v → n < v.made → look_in t.store t.nodes.items n ≡ option_map row_at (spot_of n v.trees)
place_seen {t} {v} n o h = Loose-spot (look_in t.store t.nodes.items) None n v.trees (one-of o.stands n (omega (arith, o.made))) o.stands.rows

-- what is asked of a row is asked of a place
asked : {A : Type 0} (g : Row ℕ → Option A) (r : Row ℕ) (o : Option (Spot ℕ)) → Some r ≡ option_map row_at o → g r ≡ option_and_then (λ s. g (row_at s)) o
asked g r o e = grind arith

what_asked : (r : Row ℕ) (o : Option (Spot ℕ)) → Some r ≡ option_map row_at o → Some r.what ≡ option_map (λ s. s.what) o
what_asked r o e = grind arith

pub parent_is : {t : Inside} {v : Nodes ℕ} (n : ℕ) → Opened t v → n < v.made → parent_in (look_in t.store t.nodes.items n) ≡ parent_of n v.trees
parent_is {t} {v} n o h = grind (arith, place_seen n o h)

if_some : (o : Option ℕ) (made : ℕ) → ((k : ℕ) → o ≡ Some k → k < made) → IfSome o (λ n. n < made)
if_some o made h = grind arith

-- a node that was read
pub lent : {t : Inside} {v : Nodes ℕ} {n k : ℕ} {x : Node} → Opened t v → n < v.made → k ≡ n → x ≡ get_or t.nodes.items k x → HasNode n t.store x v
lent {t} {v} {n} {k} {x} o h same g = let look : Look ℕ = look_in t.store t.nodes.items in
    let one : times n v.trees ≡ 1 = one-of o.stands n (omega (arith, o.made)) in
    let seen : look n ≡ Some (row_of t.store x) = row_seen t.store t.nodes.items n k x same (omega (arith, o.made)) g in
    let at : Some (row_of t.store x) ≡ option_map row_at (spot_of n v.trees) = sym seen ∙ place_seen n o h in
    let there : (j : ℕ) → 0 < times j v.trees → j < v.made = λ j p. omega (arith, o.made, is_there o.stands j p) in
    let ends = ends-among look v.trees n one o.stands.rows in
    let around = links-among look v.trees n one (once-of o.stands) o.stands.rows in
    record {
      nodes = are_nodes o;
      kept = kept-at t.store t.nodes.items n k x same (omega (arith, o.made)) g o.kept;
      what = what_asked (row_of t.store x) (spot_of n v.trees) at;
      parent = record { is = asked (λ r. r.parent) _ _ at; within = if_some x.parent v.made (λ j p. there j (around.0 j (ap parent_in seen ∙ p))) };
      first = record { is = asked (λ r. r.first) _ _ at; within = if_some x.first v.made (λ j p. there j (ends.0 j (ap first_in seen ∙ p))) };
      last = record { is = asked (λ r. r.last) _ _ at; within = if_some x.last v.made (λ j p. there j (ends.1 j (ap last_in seen ∙ p))) };
      previous = record { is = asked (λ r. r.previous) _ _ at; within = if_some x.previous v.made (λ j p. there j (around.1 j (ap previous_in seen ∙ p))) };
      next = record { is = asked (λ r. r.next) _ _ at; within = if_some x.next v.made (λ j p. there j (around.2 j (ap next_in seen ∙ p))) };
    }

-- What `append` and `insert_before` have to show.

-- node n has left its place, q is outside of it, and x is q's row
pub record Gone (t : Inside) (v : Nodes ℕ) (mid : List Node) (n q : ℕ) (x : Node) : Type 0 where
  pub was : Opened t v
  pub cut : Cut (length t.nodes.items) (look_in t.store t.nodes.items) (look_in t.store mid) v.trees n q
  pub contents : contents_of mid ≡ contents_of t.nodes.items
  pub seen : look_in t.store mid q ≡ Some (row_of t.store x)

pub gone : {t : Inside} {v : Nodes ℕ} {mid : List Node} {q j : ℕ} {x : Node} (n : ℕ) → Opened t v → n < v.made → q < v.made → IsOutside q n v.trees
    → IsSeenAs (detached n) t.nodes.items mid → j ≡ q → x ≡ get_or mid j x → Gone t v mid n q x
gone {t} {v} {mid} {q} {j} {x} n o h hq apart is at read = record {
  was = o;
  cut = cut_of (look_in t.store mid) n q o.stands (omega (arith, o.made)) (omega (arith, o.made)) apart (is.rows t.store);
  contents = is.contents;
  seen = row_seen t.store mid q j x at (rw (as_many t.nodes.items mid is.contents) (omega (arith, o.made))) read;
}

module _ {t : Inside} {v : Nodes ℕ} {mid : List Node} {n q : ℕ} {x : Node} (g : Gone t v mid n q x) where
  pub last_within : IsWithin (length mid) x.last
  last_within k e = rw (as_many t.nodes.items mid g.contents) (append-within g.cut k (ap last_in g.seen ∙ e))

  pub neighbours_within : IsWithin (length mid) x.parent × IsWithin (length mid) x.previous
  neighbours_within = let w = before-within g.cut in let many = as_many t.nodes.items mid g.contents in
      ((λ k e. rw many (w.0 k (ap parent_in g.seen ∙ e))), (λ k e. rw many (w.1 k (ap previous_in g.seen ∙ e))))

  -- q has its parent still
  pub has_parent : q < v.made → IsSome (parent_of q v.trees) → IsSome x.parent
  has_parent h up = subst (λ (u : Option ℕ). IsSome u) (sym (parent_is q g.was h) ∙ sym (before-parent g.cut) ∙ ap parent_in g.seen) up

  -- it comes to another place
  module _ (new : List Node) (some : 0 < n) where
    left : (p : ℕ) (a c : Option ℕ) (f : Forest ℕ) → IsSeenAs (hooked n p a c) mid new → RowsStandIn (length t.nodes.items) (look_in t.store new) f
        → Left t t.store new f
    left p a c f is stands = record {
      kept = subst (All (IsKept t.store)) (sym (is.contents ∙ g.contents)) g.was.kept;
      same = as_many t.nodes.items new (is.contents ∙ g.contents);
      stands = stands;
      begun = graft-standing g.cut (look_in t.store new) p a c (is.rows t.store) 0 (λ e. omega arith) ∙ g.was.begun;
    }

    pub appended : (o : Option ℕ) → o ≡ None → IsSeenAs (hooked n q x.last o) mid new → Left t t.store new (graft_last n q v.trees)
    appended o e seen = let is = rw e at seen in left q x.last None (graft_last n q v.trees) is (StandsIn-append g.cut (look_in t.store new)
        (λ b. is.rows t.store b ∙ ap (λ l. hooked n q l None (look_in t.store mid) b) (sym (ap last_in g.seen))))

    pub inserted : (p : ℕ) (o : Option ℕ) → x.parent ≡ Some p → o ≡ Some q → IsSeenAs (hooked n p x.previous o) mid new
        → Left t t.store new (graft_before n q v.trees)
    inserted p o up e seen = let is = rw e at seen in
        left p x.previous (Some q) (graft_before n q v.trees) is (StandsIn-before g.cut (look_in t.store new) p (ap parent_in g.seen ∙ up)
        (λ b. is.rows t.store b ∙ ap (λ l. hooked n p l (Some q) (look_in t.store mid) b) (sym (ap previous_in g.seen))))

-- A node that was just made is outside of every place.

module _ {N : Type 0} where
  -- a node made later is no node's parent
  parent-made : (n m : ℕ) (f : Forest N) (w : What N) → n ≢ m → parent_of n (join f (tree m w none none)) ≡ parent_of n f
  parent-made n m f w h = grind (arith, spot_of-join)

pub place-made : (place : Place) (v : Nodes ℕ) (w : What ℕ) → IsPlace place v → IsPlace place (make w v)
place-made (LastIn p) v w h = omega arith
place-made (Before s) v w h =
    (omega (arith, h.0), subst (λ (o : Option ℕ). IsSome o) (sym (parent-made s v.made v.trees w (λ e. omega (arith, h.0)))) h.1)

-- a loose node more, that holds w over a store that grew
module _ {t : Inside} {v : Nodes ℕ} (w : What ℕ) (o : Opened t v) where
  absent : times v.made v.trees ≡ 0
  absent = o.stands.once v.made ∙ rw (o.made, lt-leb (suc v.made) v.made (omega arith)) refl

  -- no node that was there is in the new one
  made-outside : (k : ℕ) → k < v.made → IsOutside k v.made (make w v).trees
  made-outside k h = ap (times k) (tree_at-join v.made v.trees (tree v.made w none none) absent)
      ∙ rw (eq-eqb v.made v.made refl, ne_eqb v.made k (λ e. omega arith)) refl

  -- the new one is in no node that was there
  made-apart : (k : ℕ) → k < v.made → IsOutside v.made k (make w v).trees
  made-apart k h = let alone : times v.made (tree_at k (tree v.made w none none)) ≡ 0 = rw (ne_eqb v.made k (λ e. omega arith)) refl in
      omega (arith, absent, tree_at-joined v.made k v.trees (tree v.made w none none), tree_at-among v.made k v.trees)

  module _ {s : Store} {d : NodeData} {x : Node} (more : IsGrown t.store s) (held : Holds s d w)
      (is : x ≡ record { content = d; parent = None; first = None; last = None; previous = None; next = None }) where
    row : row_of s x ≡ row_alone w
    row = ap (row_of s) is ∙ ap row_alone held.1

    pub added : v.made < v.limit → AreTree s (t.nodes.items ++ x ∷ []) t.limit
    added h = made_stands s t.nodes.items x w t.limit row (edited o (grew o more)) (rw is held.0) (omega (arith, h, o.made, o.limit))

    pub makes : (at n : ℕ) → v.made < v.limit → n ≡ length t.nodes.items → Makes w at v (nodes_in s (t.nodes.items ++ x ∷ []) t.limit) (Ok n)
    makes at n h same = let view = made_view s t.nodes.items x w t.limit row (edited o (grew o more)) ∙ ap (make w) (edited_view o (grew o more)) in
        subst (λ (u : Nodes ℕ). Makes w at v u (Ok n)) (sym view) (rw (same ∙ o.made) (record {
          ok = refl;
          number = (refl, begun_made o);
          outside = made-outside;
          apart = made-apart;
          places = λ p. place-made p v w;
          full = ((λ e. cc), (λ m. absurd (omega arith)));
          refused = tt;
          err = tt;
        }))

-- where there is no memory, nothing is seen
pub makes_nothing : {t : Inside} {v : Nodes ℕ} {s : Store} (w : What ℕ) (at : ℕ) (r : Result ℕ Refusal) → Opened t v → IsGrown t.store s → v.made < v.limit
    → IsErrAnd r (λ e. e ≡ Memory) → Makes w at v (nodes_in s t.nodes.items t.limit) r
makes_nothing w at (Ok n) o more h is = absurd is
makes_nothing w at (Err e) o more h is = let err = edited_view o (grew o more) in
    record { ok = tt; number = tt; outside = tt; apart = tt; places = tt; full = ((λ e. cc), (λ m. absurd (omega arith))); refused = inr is; err = err }
