use Rattle.hnodes.proofs.Names.{◌≡◌, Some, None, refl, sym, ◌∙◌, with_first, with_next}
use Rattle.hnodes.proofs.Rows.{changed}
use Rattle.hnodes.proofs.links.link_after.Goals as goal

pub returns-in-Some : goal.returns-in-Some
returns-in-Some c = let is : c.args.before ≡ Some c.in-Some.before = sym c.get.ensures ∙ c.in-Some.is in
    rw is
    (changed _ _ _ _ _ (with_next c.args.to) c.before-in-Some.view_is (c.requires.before_in c.in-Some.before is) c.index_mut.ensures.value refl (λ s. refl))

pub returns-in-None : goal.returns-in-None
returns-in-None c = let is : c.args.before ≡ None = sym c.get.ensures ∙ c.in-None.is in
    rw is (changed _ _ _ _ _ (with_first c.args.to) c.parent.view_is c.requires.parent_in c.index_mut-in-None.ensures.value refl (λ s. refl))
