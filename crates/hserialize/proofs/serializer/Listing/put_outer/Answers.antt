use Rattle.hserialize.proofs.Names.{◌∙◌, true, false, refl, sym, ap, what_of, goes_in, option_map_or, Written}
use Rattle.hserialize.proofs.Outer.{outer-parts}
use Rattle.hserialize.proofs.Output.{first_failed, then_put}
use Rattle.hserialize.proofs.serializer.Listing.put_outer.Goals as goal
use Rattle.hserialize.proofs.serializer.Listing.put_outer.Goals.{then-goes_in+in_ok-put_list, else-goes_in}

pub returns-in_err-put_opening : goal.returns-in_err-put_opening
returns-in_err-put_opening g c = let l = c.args.self.now in
    first_failed _ _ _ _ _ _ c.from_residual.ensures.1
    (outer-parts l (option_map_or (goes_in Written) (what_of l.root l.tree.now.trees) false) c.are_names.ensures.names c.are_nodes.ensures.nodes.counted
    c.requires.made c.requires.own (λ w is. sym (ap (λ o. option_map_or (goes_in Written) o false) is))) c.in_err-put_opening.ensures

pub returns-in_err-put_list : goal.returns-in_err-put_list
returns-in_err-put_list g c = then_put _ _ _ _ _ _ _ (outer-parts c.args.self.now true c.are_names.ensures.names c.are_nodes.ensures.nodes.counted
    c.requires.made c.requires.own (λ w is. c.goes_in.ensures w is ∙ c.if-goes_in.true)) c.in_ok-put_opening.ensures
    (first_failed _ _ _ _ _ _ c.from_residual-in_err-put_list.ensures.1 refl c.in_err-put_list.ensures)

pub returns : goal.returns
returns g c = elim c.if-goes_in.branch [
  | then-goes_in+in_ok-put_list w ↦ then_put _ _ _ _ _ _ _ (outer-parts c.args.self.now true c.are_names.ensures.names c.are_nodes.ensures.nodes.counted
      c.requires.made c.requires.own (λ v is. c.goes_in.ensures v is ∙ w.if-goes_in.true)) c.in_ok-put_opening.ensures
      (then_put _ _ _ _ _ _ _ refl w.in_ok-put_list.ensures (rw (sym w.out-is) c.put_closing.ensures))
  | else-goes_in w ↦ then_put _ _ _ _ _ _ _ (outer-parts c.args.self.now false c.are_names.ensures.names c.are_nodes.ensures.nodes.counted c.requires.made
      c.requires.own (λ v is. c.goes_in.ensures v is ∙ w.if-goes_in.false)) c.in_ok-put_opening.ensures (rw (sym w.out-is) c.put_closing.ensures)
]
