use Rattle.hadopt.proofs.Names.{◌∙◌}
use Rattle.hadopt.proofs.Inserting.{stopped-at-once}
use Rattle.hadopt.proofs.site.Site.is_reconstructed.Goals as goal

pub returns : goal.returns
returns c = c.stops_at.ensures ∙ stopped-at-once c.args.self.now c.args.self.now.items
