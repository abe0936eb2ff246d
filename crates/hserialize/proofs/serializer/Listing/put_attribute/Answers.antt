use Rattle.hserialize.proofs.Names.{◌≡◌, ◌∙◌, ℕ, List, ◌++◌, ap, codes, refl, sym, append_assoc, escaped, attribute_text, Escaping, Value}
use Rattle.hserialize.proofs.Output.{first_failed, then_put}
use Rattle.hserialize.proofs.serializer.Listing.put_attribute.Goals as goal

-- what comes before the value, as it is lent, and then the value and the quote
parted : (how : Escaping) (name lent value : List ℕ) → lent ≡ name
    → attribute_text how (name, value) ≡ (codes " " ++ lent ++ codes "=\"") ++ (escaped how Value value ++ codes "\"")
parted how name lent value same =
    ap (λ n. attribute_text how (n, value)) (sym same) ∙ append_assoc (codes " " ++ lent ++ codes "=\"") (escaped how Value value) (codes "\"")

pub returns-in_err-put_parts : goal.returns-in_err-put_parts
returns-in_err-put_parts g c = first_failed _ _ _ _ _ _ c.from_residual.ensures.1
    (parted c.args.self.now.escaping c.args.name.now _ c.args.value.now c.as_bytes.ensures.value) c.in_err-put_parts.ensures

pub returns-in_err-put_escaped : goal.returns-in_err-put_escaped
returns-in_err-put_escaped g c = then_put _ _ _ _ _ _ _ (parted c.args.self.now.escaping c.args.name.now _ c.args.value.now c.as_bytes.ensures.value)
    c.in_ok-put_parts.ensures (first_failed _ _ _ (escaped c.args.self.now.escaping Value c.args.value.now) (codes "\"") _
    c.from_residual-in_err-put_escaped.ensures.1 refl c.in_err-put_escaped.ensures)

pub returns : goal.returns
returns g c = then_put _ _ _ _ _ _ _ (parted c.args.self.now.escaping c.args.name.now _ c.args.value.now c.as_bytes.ensures.value) c.in_ok-put_parts.ensures
    (then_put _ _ _ _ (escaped c.args.self.now.escaping Value c.args.value.now) (codes "\"") _ refl c.in_ok-put_escaped.ensures c.put.ensures)
