use Rattle.hnodes.proofs.Names.{ap, sym, ◌∙◌, ◌≡◌, Some, option_map, the_type, tag_of, node_name}
use denote.Enum.Bare.{same_true, true_same}
use Rattle.hnodes.proofs.Forests.{some_inj}
use Rattle.hnodes.proofs.tree.Tree.is.Goals as goal

pub returns-in-Some : goal.returns-in-Some
returns-in-Some c =
    let named : option_map tag_of (node_name c.args.node c.args.self.now.trees) ≡ Some c.tag.result =
    ap (option_map tag_of) (sym c.name.ensures ∙ c.in-Some.is) ∙ ap (λ t. Some t) (sym c.tag.ensures) in
    let same = c.eq.ensures in
    rw named (
      (λ e. ap (λ t. Some t) (same_true the_type tt c.tag.result c.args.tag (sym same ∙ e))),
      (λ e. same ∙ true_same the_type c.tag.result c.args.tag (some_inj e)),
    )
