use Rattle.hopen.proofs.Names.{◌∙◌, ap, open_of, rules, tests, sym, option_map, current, reverse, reverse-map, somes, opened_by, find_from_yields_List, YieldsList-from_rev_slice}
use Rattle.hopen.proofs.Projected.{first-live, is_live, node_in}
use Rattle.hopen.proofs.sought.last_open.Goals as goal

pub returns : goal.returns
returns c = let items = c.args.items.now in
    ap (option_map node_in) (rw c.in_ok-find.was at
    (find_from_yields_List is_live _ _ c.find.result c.find.ensures.ran (YieldsList-from_rev_slice items cc) (λ x b q k. search (rules, tests))))
    ∙ first-live (reverse items) ∙ ap (λ ys. current (somes ys)) (sym (reverse-map opened_by items))

pub returns-in_err-find : goal.returns-in_err-find
returns-in_err-find c = let items = c.args.items.now in
    ap (option_map open_of) c.from_residual.ensures ∙ ap (option_map node_in) (rw c.in_err-find.was at
    (find_from_yields_List is_live _ _ c.find.result c.find.ensures.ran (YieldsList-from_rev_slice items cc) (λ x b q k. search (rules, tests))))
    ∙ first-live (reverse items) ∙ ap (λ ys. current (somes ys)) (sym (reverse-map opened_by items))
