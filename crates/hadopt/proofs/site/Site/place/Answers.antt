use Rattle.hadopt.proofs.Names.{[], comment, rules, numbers, Place, PlaceStands, trees, sym, subst}
use Rattle.hadopt.proofs.Inserting.{stands-where, place-fits}
use Rattle.hadopt.proofs.site.Site.place.Goals as goal

pub returns-clause-stands : goal.returns-clause-stands
returns-clause-stands c = λ k. subst (λ (p : Place). PlaceStands p (trees c.args.self.now)) (sym (search rules))
    (stands-where numbers c.args.self.now k _ (λ h. place-fits numbers (comment []) c.args.self.now h))
