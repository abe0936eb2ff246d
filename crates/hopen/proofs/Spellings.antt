-- The open nodes under other names.
use Rattle.hopen.proofs.Names.{arith, ◌≡◌, ℕ, Bool, List, [], ◌∷◌, refl, ◌∙◌, ap, option_map, slice_get-map, find-map, OpenNode, is_node, current, in_scope, topmost_special, furthest_block, is_named, Tag, is_special, slice_get, drop, reverse, before-map, after-map, without-map, changed-map, put_before-map, any-map, position-map, reverse-map, below, stops_in_scope, stops_in, is_of, is_of_group, mapped_open, mapped_stack, StackKnowsNoNames, Default, IsSpelling}

pub scope-map : {N M : Type 0} (g : N → M) (p : OpenNode N → Bool) (q : OpenNode M → Bool) → ((x : OpenNode N) → q (mapped_open g x) ≡ p x)
    → (st : OpenNode N → Bool) (st' : OpenNode M → Bool) → ((x : OpenNode N) → st' (mapped_open g x) ≡ st x) → (xs : List (OpenNode N))
    → in_scope st' q (mapped_stack g xs) ≡ in_scope st p xs
scope-map g p q e st st' d [] = refl
scope-map g p q e st st' d (x ∷ xs) = grind (arith, e, d, scope-map g p q e st st' d xs)

module _ {N M : Type 0} (tag : N → Tag) (tag' : M → Tag) (same : N → N → Bool) (same' : M → M → Bool) (g : N → M) (s : IsSpelling tag tag' same same' g) where
  from_top-map : (down : ℕ) (xs : List (OpenNode N)) → slice_get (reverse (mapped_stack g xs)) down ≡ option_map (mapped_open g) (slice_get (reverse xs) down)
  from_top-map down xs = ap (λ ys. slice_get ys down) (reverse-map (mapped_open g) xs) ∙ slice_get-map (mapped_open g) (reverse xs) down

  topmost-map : (xs : List (OpenNode N)) → topmost_special tag' (mapped_stack g xs) ≡ option_map (mapped_open g) (topmost_special tag xs)
  topmost-map [] = refl
  topmost-map (x ∷ xs) = grind (arith, topmost-map xs, s.tags)

  furthest-map : (n : ℕ) (xs : List (OpenNode N)) → furthest_block tag' n (mapped_stack g xs) ≡ option_map (mapped_open g) (furthest_block tag n xs)
  furthest-map n xs = ap (topmost_special tag') (before-map (mapped_open g) (is_node n) (is_node n) (λ _. refl) xs) ∙ topmost-map (below n xs)

  current-map : (xs : List (OpenNode N)) → current (mapped_stack g xs) ≡ option_map (mapped_open g) (current xs)
  current-map [] = refl
  current-map (x ∷ xs) = refl

  pop-map : (xs : List (OpenNode N)) → drop 1 (mapped_stack g xs) ≡ mapped_stack g (drop 1 xs)
  pop-map [] = refl
  pop-map (x ∷ xs) = refl

  pub stack_mapped : StackKnowsNoNames tag tag' same same' g
  stack_mapped = record {
    contains = λ n. any-map (mapped_open g) (is_node n) (is_node n) (λ _. refl);
    position_is = λ n. position-map (mapped_open g) (is_node n) (is_node n) (λ _. refl);
    get = λ up xs. slice_get-map (mapped_open g) xs up;
    from_top = from_top-map;
    nearest = λ a. find-map (mapped_open g) (is_named same a) (is_named same' (g a)) (λ x. s.names x.name a);
    current_node = current-map;
    pop = pop-map;
    pop_to = λ a. after-map (mapped_open g) (is_named same a) (is_named same' (g a)) (λ x. s.names x.name a);
    pop_to_group = λ group. after-map (mapped_open g) (is_of tag group) (is_of tag' group) (λ x. ap (is_of_group group) (s.tags x.name));
    nodes_above = λ n. after-map (mapped_open g) (is_node n) (is_node n) (λ _. refl);
    nodes_below = λ n. before-map (mapped_open g) (is_node n) (is_node n) (λ _. refl);
    remove = λ n. without-map (mapped_open g) (is_node n) (is_node n) (λ _. refl);
    replace = λ n new. changed-map (mapped_open g) (is_node n) (is_node n) (λ _. refl) (λ _. new) (λ _. mapped_open g new) (λ _. refl);
    insert_below = λ n new. put_before-map (mapped_open g) (is_node n) (is_node n) (λ _. refl) new;
    is_in_scope = λ scope a. scope-map g (is_named same a) (is_named same' (g a)) (λ x. s.names x.name a) (stops_in_scope tag scope)
        (stops_in_scope tag' scope) (λ x. ap (stops_in scope) (s.tags x.name));
    node_is_in_scope = λ n. scope-map g (is_node n) (is_node n) (λ _. refl) (stops_in_scope tag Default) (stops_in_scope tag' Default)
        (λ x. ap (stops_in Default) (s.tags x.name));
    group_is_in_scope = λ scope group. scope-map g (is_of tag group) (is_of tag' group) (λ x. ap (is_of_group group) (s.tags x.name))
        (stops_in_scope tag scope) (stops_in_scope tag' scope) (λ x. ap (stops_in scope) (s.tags x.name));
    is_before_special = λ a. scope-map g (is_named same a) (is_named same' (g a)) (λ x. s.names x.name a) (λ x. is_special (tag x.name))
        (λ x. is_special (tag' x.name)) (λ x. ap is_special (s.tags x.name));
    furthest = furthest-map;
  }
