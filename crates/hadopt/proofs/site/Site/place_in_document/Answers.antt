use Rattle.hadopt.proofs.Names.{[], comment, numbers}
use Rattle.hadopt.proofs.Inserting.{stands-where, root-fits}
use Rattle.hadopt.proofs.site.Site.place_in_document.Goals as goal

pub returns-clause-stands : goal.returns-clause-stands
returns-clause-stands c = λ k. rw (c.document.ensures.number) (stands-where numbers c.args.self.now k _ (λ h. root-fits numbers (comment []) c.args.self.now h))
