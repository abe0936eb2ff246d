use Rattle.hparse.proofs.Names.{◌∙◌, ap, sym, false, nat_eq, Some, Option, ℕ, option_eq, option_map_or, stands_for}
use Rattle.hparse.proofs.ByText.{stands-is}
use Rattle.hparse.proofs.parsed.Parsed.is_element.Goals as goal

pub returns-in-Some : goal.returns-in-Some
returns-in-Some c = c.eq.ensures ∙ ap (λ (o : Option ℕ). option_eq nat_eq o (Some c.in-Some.own)) c.find.ensures.place
    ∙ stands-is c.args.self.now.names c.args.name.now c.in-Some.own c.find.ensures.names
    ∙ ap (λ (o : Option ℕ). option_map_or (stands_for c.args.self.now.names c.args.name.now) o false) (sym c.in-Some.is ∙ c.name.ensures)
