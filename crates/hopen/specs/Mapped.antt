-- The same open nodes under other names, as a number of a name and its text.
use Rattle.std.specs.Prelude.{◌≡◌, ℕ, Bool, List, map, drop, find, reverse, slice_get, position}
use Rattle.std.specs.Option.{option_map}
use Rattle.hnodes.specs.Nearest.{after, without, changed, item_put_before}
use Rattle.hopen.specs.Stack.{OpenNode, is_node, is_open, current, above, below, in_scope, furthest_block}
use Rattle.hopen.specs.Scopes.{stops_in_scope, is_named, is_of}
use Rattle.hopen.specs.declared.scope.Group.{Group}
use Rattle.hopen.specs.declared.scope.Scope.{Scope}
use Rattle.hopen.specs.declared.scope.Scope.TheVariants.{Default}
use Rattle.names.specs.declared.tag.Tag.{Tag}
use Rattle.names.specs.Sets.{is_special}

module _ {N M : Type 0} where
  abbrev pub mapped_open : (N → M) → OpenNode N → OpenNode M
  mapped_open g x = record { node = x.node; name = g x.name }

  abbrev pub mapped_stack : (N → M) → List (OpenNode N) → List (OpenNode M)
  mapped_stack g stack = map (mapped_open g) stack

module _ {N M : Type 0} (tag : N → Tag) (tag' : M → Tag) (same : N → N → Bool) (same' : M → M → Bool) where
  -- What is done with the open nodes and then mapped is what is done with them as they are mapped, and what is asked of them has
  -- the same answer.
  pub record StackKnowsNoNames (g : N → M) : Type 0 where
    pub contains : (n : ℕ) (s : List (OpenNode N)) → is_open n (mapped_stack g s) ≡ is_open n s
    pub position_is : (n : ℕ) (s : List (OpenNode N)) → position (is_node n) (mapped_stack g s) ≡ position (is_node n) s
    pub get : (up : ℕ) (s : List (OpenNode N)) → slice_get (mapped_stack g s) up ≡ option_map (mapped_open g) (slice_get s up)
    pub from_top : (down : ℕ) (s : List (OpenNode N)) → slice_get (reverse (mapped_stack g s)) down ≡ option_map (mapped_open g) (slice_get (reverse s) down)
    pub nearest : (a : N) (s : List (OpenNode N)) → find (is_named same' (g a)) (mapped_stack g s) ≡ option_map (mapped_open g) (find (is_named same a) s)
    pub current_node : (s : List (OpenNode N)) → current (mapped_stack g s) ≡ option_map (mapped_open g) (current s)
    pub pop : (s : List (OpenNode N)) → drop 1 (mapped_stack g s) ≡ mapped_stack g (drop 1 s)
    pub pop_to : (a : N) (s : List (OpenNode N)) → after (is_named same' (g a)) (mapped_stack g s) ≡ mapped_stack g (after (is_named same a) s)
    pub pop_to_group : (group : Group) (s : List (OpenNode N)) → after (is_of tag' group) (mapped_stack g s) ≡ mapped_stack g (after (is_of tag group) s)
    pub nodes_above : (n : ℕ) (s : List (OpenNode N)) → above n (mapped_stack g s) ≡ mapped_stack g (above n s)
    pub nodes_below : (n : ℕ) (s : List (OpenNode N)) → below n (mapped_stack g s) ≡ mapped_stack g (below n s)
    pub remove : (n : ℕ) (s : List (OpenNode N)) → without (is_node n) (mapped_stack g s) ≡ mapped_stack g (without (is_node n) s)
    pub replace : (n : ℕ) (new : OpenNode N) (s : List (OpenNode N))
        → changed (is_node n) (λ _. mapped_open g new) (mapped_stack g s) ≡ mapped_stack g (changed (is_node n) (λ _. new) s)
    pub insert_below : (n : ℕ) (new : OpenNode N) (s : List (OpenNode N))
        → item_put_before (is_node n) (mapped_open g new) (mapped_stack g s) ≡ mapped_stack g (item_put_before (is_node n) new s)
    pub is_in_scope : (scope : Scope) (a : N) (s : List (OpenNode N))
        → in_scope (stops_in_scope tag' scope) (is_named same' (g a)) (mapped_stack g s) ≡ in_scope (stops_in_scope tag scope) (is_named same a) s
    pub node_is_in_scope : (n : ℕ) (s : List (OpenNode N))
        → in_scope (stops_in_scope tag' Default) (is_node n) (mapped_stack g s) ≡ in_scope (stops_in_scope tag Default) (is_node n) s
    pub group_is_in_scope : (scope : Scope) (group : Group) (s : List (OpenNode N))
        → in_scope (stops_in_scope tag' scope) (is_of tag' group) (mapped_stack g s) ≡ in_scope (stops_in_scope tag scope) (is_of tag group) s
    pub is_before_special : (a : N) (s : List (OpenNode N))
        → in_scope (λ x. is_special (tag' x.name)) (is_named same' (g a)) (mapped_stack g s) ≡ in_scope (λ x. is_special (tag x.name)) (is_named same a) s
    pub furthest : (n : ℕ) (s : List (OpenNode N)) → furthest_block tag' n (mapped_stack g s) ≡ option_map (mapped_open g) (furthest_block tag n s)
