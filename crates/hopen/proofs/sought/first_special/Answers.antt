use Rattle.hopen.proofs.Names.{◌&&◌, ◌∙◌, ap, is_special, open_of, tag_of, KeptNode, rules, tests, option_map, find_from_yields_List, YieldsList-from_slice}
use Rattle.hopen.proofs.Projected.{first-passing, is_live, node_in}
use Rattle.hopen.proofs.sought.first_special.Goals as goal

pub returns : goal.returns
returns c = let items = c.args.items.now in
    ap (option_map node_in) (rw c.in_ok-special.was at
    (find_from_yields_List (λ (x : KeptNode). is_live x && is_special (tag_of x.opened.name)) _ _ c.find.result c.find.ensures.ran
    (YieldsList-from_slice items cc) (λ x b q k. search (rules, tests)))) ∙ first-passing (λ y. is_special (tag_of y.name)) items

pub returns-in_err-special : goal.returns-in_err-special
returns-in_err-special c = let items = c.args.items.now in
    ap (option_map open_of) c.from_residual.ensures ∙ ap (option_map node_in) (rw c.in_err-special.was at
    (find_from_yields_List (λ (x : KeptNode). is_live x && is_special (tag_of x.opened.name)) _ _ c.find.result c.find.ensures.ran
    (YieldsList-from_slice items cc) (λ x b q k. search (rules, tests)))) ∙ first-passing (λ y. is_special (tag_of y.name)) items
