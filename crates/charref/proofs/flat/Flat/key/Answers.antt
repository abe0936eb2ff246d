use Rattle.charref.proofs.Names.{ap, key_at, entry}
use Rattle.charref.proofs.Searching.{entry_in}
use Rattle.charref.proofs.flat.Flat.key.Goals as goal

pub returns : goal.returns
returns c = let text = c.self.inside.text.items in (
  entry text c.index-entity.result.now,
  entry_in text c.self.inside.entities.items c.args.self.now c.args.index c.index-entity.result.now c.self.view_is c.requires c.index-entity.ensures,
  ap (λ t. key_at t c.index-entity.result.now) c.deref.ensures.value,
)
