-- Nodes are made and never taken away: no token leads to fewer.
use Rattle.hmodes.proofs.Vocabulary.{cond_both, ◌≡◌, ℕ, zero, suc, ◌≤◌, Bool, true, false, not, cond, List, [], ◌∷◌, Option, Some, None, refl, subst, arith, ◌&&◌, option_map_or, TreeInBody, element, before, stops_in_scope, OpenNode, is_node, is_open, current, above, in_scope, furthest_block, Default, EntryOf, find_entry, without_entry, Turn, Next, Ended, next_turn, InnerLoop, most_turns, inner_turn, inner_loop, after_inner_loop, with_furthest_block, popped_with, with_formatting_element, outer_turn, outer_loop, is_unlisted, adopted, Naming, Outcome, Goes, SiteOf, stack, trees, with_items, with_error, error_unless, current_is, OnGoes, goes-then, perform, forgotten, adopted_listed, rule_of, Token, State, Flow, Done, Again, Refused, kind_of, is_self_closing, Rule, Chain, ends, refuses, goes_again, Step, drops, goes, step_begun, Do, again, again_as, save_mode, adopt, adopt_listed, token_name, with_trees, graft, made-goes, turn-goes, place_in, InPlace}
use Rattle.hmodes.proofs.Every.{by_option, in-each}
use Rattle.hmodes.proofs.Mild.{Mild, mild, error-made, other-made}
use Rattle.hmodes.proofs.Programs.{Comes, comes-site, each_word, is_word, perform-comes}
use Rattle.hadopt.specs.Closes.{other_end}

module _ {N : Type 0} (k : ℕ) (n : Naming N) where
  -- at least this many nodes were made
  abbrev Holds : SiteOf N → Type 0
  Holds s = k ≤ s.nodes.made

  -- the adoption agency
  abbrev HoldsAfter : Turn (SiteOf N) → Type 0
  HoldsAfter (Next s) = Holds s
  HoldsAfter (Ended s) = Holds s

  module _ (at : ℕ) where
    inner-loop-holds : (block passed : ℕ) (way : List (OpenNode N)) (c : InnerLoop N) → Holds c.site
        → OnGoes (λ d. Holds d.site) (inner_loop n at block passed way c)
    inner-loop-holds block passed [] c h = h
    inner-loop-holds block passed (x ∷ way) c h =
        goes-then (λ d. Holds d.site) (λ d. Holds d.site) (inner_turn n at block passed x c) (inner_loop n at block (suc passed) way)
        (turn-goes n (λ d. Holds d.site) at block passed x c h (λ e _. omega (arith, h))) (inner-loop-holds block (suc passed) way)

    by-holds : (f : EntryOf N) (s : SiteOf N) (block : OpenNode N) → Holds s → OnGoes HoldsAfter (with_furthest_block n at f s block)
    by-holds f s block h = let way = before (is_node f.node) (above block.node (stack s)) in
        let begin : InnerLoop N = record { last_node = block.node; bookmark = InPlace; site = s } in
        goes-then (λ d. Holds d.site) HoldsAfter (inner_loop n at block.node 0 way begin) _ (inner-loop-holds block.node 0 way begin h)
        (λ c g. goes-then Holds HoldsAfter (after_inner_loop n at f block.node (current (above f.node (stack s))) c) _ (made-goes Holds at
        (element f.name f.attrs) (with_trees (graft c.last_node (place_in n (current (above f.node (stack s))) c.site) (trees c.site)) c.site)
        _ (omega (arith, g))) (λ t m. m))

    with-holds : (f : EntryOf N) (s : SiteOf N) → Holds s → OnGoes HoldsAfter (with_formatting_element n at f s)
    with-holds f s h = go (is_open f.node (stack s)) (in_scope (stops_in_scope n.tag Default) (is_node f.node) (stack s)) (current_is (is_node f.node) s) where
      under : (t : SiteOf N) → Holds t → (o : Option (OpenNode N))
          → OnGoes HoldsAfter (option_map_or (with_furthest_block n at f t) o (Goes (Ended (popped_with f t))))
      under t g None = g
      under t g (Some b) = by-holds f t b g

      go : (x y z : Bool) → OnGoes HoldsAfter (cond (not x) (Goes (Ended (with_items (without_entry f.node s.items) (with_error TreeInBody at s))))
          (cond (not y) (Goes (Ended (with_error TreeInBody at s))) (option_map_or (with_furthest_block n at f (error_unless z TreeInBody at s))
          (furthest_block n.tag f.node (stack (error_unless z TreeInBody at s))) (Goes (Ended (popped_with f (error_unless z TreeInBody at s)))))))
      go false y z = h
      go true false z = h
      go true true z = under (error_unless z TreeInBody at s) (error-made k n at z s h) (furthest_block n.tag f.node (stack (error_unless z TreeInBody at s)))

    outer-loop-holds : (turns_left : ℕ) (name : N) (s : SiteOf N) → Holds s → OnGoes Holds (outer_loop n at turns_left name s)
    outer-loop-holds zero name s h = h
    outer-loop-holds (suc j) name s h =
        goes-then HoldsAfter Holds (outer_turn n at name s) (next_turn (outer_loop n at j name)) (by_option (find_entry n.same name s.items)
        (λ o. OnGoes HoldsAfter (option_map_or (λ f. with_formatting_element n at f s) o (Goes (Ended (other_end n at name s)))))
        (λ _. other-made k n at name s h) (λ f _. with-holds f s h)) (next (outer-loop-holds j name)) where
          next : ((t : SiteOf N) → Holds t → OnGoes Holds (outer_loop n at j name t)) → (t : Turn (SiteOf N)) → HoldsAfter t
              → OnGoes Holds (next_turn (outer_loop n at j name) t)
          next r (Next t) m = r t m
          next r (Ended t) m = m

    adopted-holds : (name : N) (s : SiteOf N) → Holds s → OnGoes Holds (adopted n at name s)
    adopted-holds name s h = cond_both (is_unlisted n at name s) _ _ (OnGoes Holds) (λ _. h) (λ _. outer-loop-holds most_turns name s h)

    listed-holds : (name : N) (s : SiteOf N) → Holds s → OnGoes Holds (adopted_listed n at name s)
    listed-holds name s h = goes-then Holds Holds (adopted n at name s) _ (adopted-holds name s h) (λ y g. go y g (find_entry n.same name s.items)) where
      go : (y : SiteOf N) → Holds y → (o : Option (EntryOf N)) → Holds (option_map_or (λ e. forgotten e.node y) o y)
      go y g None = g
      go y g (Some e) = g

  abbrev StateHolds : State N → Type 0
  StateHolds s = Holds s.site

  abbrev KeepsFlow : Flow N → Type 0
  KeepsFlow = Comes StateHolds (λ t. StateHolds) (λ r. Unit {0})

  mild-holds : (s : State N) → Holds s.site → (f : Flow N) → Mild s f → KeepsFlow f
  mild-holds s h (Done u) m = omega (arith, m.1, h)
  mild-holds s h (Again t u) m = absurd m
  mild-holds s h (Refused r) m = tt

  word-holds : (v : Bool) (p : Do) → is_word p ≡ true → (at : ℕ) (t : Token N) (s : State N) → Holds s.site → KeepsFlow (perform n at t p s)
  word-holds v again w at t s h = h
  word-holds v (again_as x) w at t s h = h
  word-holds v save_mode w at t s h = h
  word-holds v adopt w at t s h = comes-site StateHolds (λ t. StateHolds) (λ r. Unit {0}) s _ (adopted-holds at (token_name n t) s.site h)
  word-holds v adopt_listed w at t s h = comes-site StateHolds (λ t. StateHolds) (λ r. Unit {0}) s _ (listed-holds at (token_name n t) s.site h)
  word-holds v p w at t s h = mild-holds s h (perform n at t p s) (mild n s true p w refl at t s (refl, omega arith))

  rule-holds : (at : ℕ) (t : Token N) (s : State N) → Holds s.site → KeepsFlow (Rule n at t s)
  rule-holds at t s = perform-comes n (λ v p. true) (λ v u. Unit {0}) StateHolds (λ t. StateHolds) (λ r. Unit {0}) (λ c. tt) (λ v u h. h) (λ u v h. h)
      (λ u h. h) (λ v p w _ i u _. word-holds v p w i u) true (rule_of s.control.mode (kind_of n t))
      (in-each (λ m k. each_word (λ v p. true) true (rule_of m k)) refl s.control.mode (kind_of n t)) at t tt s

  chain-holds : (at : ℕ) (t : Token N) (s : State N) (o : Outcome (State N)) → Holds s.site → Chain n at t s o → OnGoes StateHolds o
  chain-holds at t s o h (ends {s' = u} rule) = let k = subst KeepsFlow rule (rule-holds at t s h) in
      cond_both (is_self_closing t && not u.control.acknowledged) _ _ StateHolds (λ _. k) (λ _. k)
  chain-holds at t s o h (refuses rule) = tt
  chain-holds at t s o h (goes_again {t' = t'} {s' = s'} rule rest) = chain-holds at t' s' o (subst KeepsFlow rule (rule-holds at t s h)) rest

  -- a token leads to no fewer nodes
  pub step-holds : (at : ℕ) (t : Token N) (s s' : State N) → Holds s.site → Step n at t s (Goes s') → Holds s'.site
  step-holds at t s s' h (drops is) = h
  step-holds at t s s' h (goes isnt rest) = chain-holds at t (step_begun s) (Goes s') h rest
