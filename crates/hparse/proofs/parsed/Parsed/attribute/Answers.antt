use Rattle.hparse.proofs.Names.{ap, sym, ◌∙◌, stands_for, attributes_of, value_of}
use Rattle.std.specs.Option.{option_map}
use Rattle.hparse.proofs.ByText.{no-value, stands-found, stands-missing}
use Rattle.hparse.proofs.parsed.Parsed.attribute.Goals as goal

pub returns-in_err-find : goal.returns-in_err-find
returns-in_err-find c = ap (option_map (λ value. value.now)) c.from_residual.ensures ∙ no-value (stands_for c.args.self.now.names c.args.name.now)
    (stands-missing c.args.self.now.names c.args.name.now (sym c.find.ensures.place ∙ c.in_err-find.was)) (attributes_of c.args.node c.args.self.now.tree.trees)

pub returns : goal.returns
returns c =
    let found = stands-found c.args.self.now.names c.args.name.now c.in_ok-find.field-0 c.find.ensures.names (sym c.find.ensures.place ∙ c.in_ok-find.was) in
    c.attr.ensures ∙ (λ i. value_of (λ id. found id i) c.args.node c.args.self.now.tree.trees)
