use Rattle.hopen.proofs.Names.{arith, ◌≡◌, ℕ, List, Option, rules, tests, map, filter, sym, ◌∙◌, ap, reverse, slice_get, option_map, reverse-reverse, slice_get-map, nth_from_yields_List, YieldsList-from_slice, YieldsList-from_filter, open_of, opened_by, somes, KeptNode, OpenNode, OpenNodes}
use Rattle.hopen.proofs.Projected.{is_live, live-nodes, node_in}
use Rattle.hopen.proofs.Somes.{reverse-somes}
use Rattle.hopen.proofs.stack.OpenStack.from_top.Goals as goal

-- they are the stack from its other end
back : (slots : List (Option (OpenNode ℕ))) → somes slots ≡ reverse (somes (reverse slots))
back slots = sym (reverse-reverse (somes slots)) ∙ ap reverse (sym (reverse-somes slots))

-- the nodes that slots hold
top-is : (items lent : List KeptNode) (down : ℕ) → lent ≡ items
    → option_map node_in (slice_get (filter is_live lent) down) ≡ slice_get (reverse (somes (reverse (map opened_by items)))) down
top-is items lent down same = grind (arith, slice_get-map node_in (filter is_live lent) down, live-nodes lent, same, back (map opened_by items))

pub returns : goal.returns
returns c = ap (option_map node_in) (rw c.in_ok-nth.was at (nth_from_yields_List c.nth.result _ c.args.down c.nth.ensures.ran
    (YieldsList-from_filter _ is_live (YieldsList-from_slice c.deref.result.now cc) c.filter-open.ensures.closure (λ x b q k. search (rules, tests)))))
    ∙ top-is c.self.inside.items.items c.deref.result.now c.args.down c.deref.ensures.value
    ∙ ap (λ (n : OpenNodes ℕ). slice_get (reverse n.stack) c.args.down) c.self.view_is

pub returns-in_err-nth : goal.returns-in_err-nth
returns-in_err-nth c = ap (option_map open_of) c.from_residual.ensures
    ∙ ap (option_map node_in) (rw c.in_err-nth.was at (nth_from_yields_List c.nth.result _ c.args.down c.nth.ensures.ran
    (YieldsList-from_filter _ is_live (YieldsList-from_slice c.deref.result.now cc) c.filter-open.ensures.closure (λ x b q k. search (rules, tests)))))
    ∙ top-is c.self.inside.items.items c.deref.result.now c.args.down c.deref.ensures.value
    ∙ ap (λ (n : OpenNodes ℕ). slice_get (reverse n.stack) c.args.down) c.self.view_is
