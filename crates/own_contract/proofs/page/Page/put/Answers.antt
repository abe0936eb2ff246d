use Rattle.std.proofs.Common.{◌≡◌, ◌∙◌, sym, true≢false}
use Rattle.names.specs.Tags.{tag_of}
use Rattle.names.specs.declared.tag.Tag.TheVariants as tag
use Rattle.own_contract.proofs.Without.{grafted, made}
use Rattle.own_contract.proofs.page.Page.put.Goals as goal

pub invariant_of-self-2 : goal.invariant_of-self-2
invariant_of-self-2 c =
    let no-script : tag_of c.number.result ≡ tag.Script → ⊥ =
    λ is. (let same : c.args.tag ≡ tag.Script = sym c.number.ensures.tag ∙ is in true≢false (sym (rw same at c.eq.ensures) ∙ c.if-eq.false)) in
    rw c.append.ensures (grafted c.in_ok-node.node c.args.parent _
    (rw c.in_ok-node.ensures.ok (made c.self.inside.tree.trees c.self.inside.tree.made _ c.self.invariant no-script)))
