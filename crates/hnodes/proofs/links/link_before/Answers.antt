use Rattle.hnodes.proofs.Names.{◌≡◌, Some, None, refl, sym, ◌∙◌, with_last, with_previous}
use Rattle.hnodes.proofs.Rows.{changed}
use Rattle.hnodes.proofs.links.link_before.Goals as goal

pub returns-in-Some : goal.returns-in-Some
returns-in-Some c = let is : c.args.after ≡ Some c.in-Some.after = sym c.get.ensures ∙ c.in-Some.is in
    rw is (changed _ _ _ _ _ (with_previous c.args.to) c.after.view_is (c.requires.after_in c.in-Some.after is) c.index_mut.ensures.value refl (λ s. refl))

pub returns-in-None : goal.returns-in-None
returns-in-None c = let is : c.args.after ≡ None = sym c.get.ensures ∙ c.in-None.is in
    rw is (changed _ _ _ _ _ (with_last c.args.to) c.parent.view_is c.requires.parent_in c.index_mut-in-None.ensures.value refl (λ s. refl))
