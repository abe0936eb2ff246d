use Rattle.hnodes.proofs.Names.{refl}
use Rattle.hnodes.proofs.Rows.{changed}
use Rattle.hnodes.proofs.links.set_place.Goals as goal

pub returns : goal.returns
returns c = changed _ _ _ _ _ _ c.at.view_is c.requires c.index_mut-node.ensures.value refl (λ s. refl)
