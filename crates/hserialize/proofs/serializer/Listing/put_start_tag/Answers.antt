use Rattle.hserialize.proofs.Names.{◌≡◌, ◌∙◌, ℕ, List, [], ◌∷◌, ◌++◌, codes, map, sym, ap, append_assoc, flat_map, rules, text_of, Attribute, mapped_attribute, attribute_text, start_tag_text, Escaping, arith, common_steps}
use Rattle.hserialize.proofs.Output.{none_put, part_put, part_failed, last_put, passed_on}
use Rattle.hserialize.proofs.serializer.Listing.put_start_tag.Goals as goal

-- the text of the next attribute, and of those after it
next-text : (f : Attribute ℕ → Attribute (List ℕ)) (g : Attribute (List ℕ) → List ℕ) (attrs : List (Attribute ℕ)) (x : Attribute ℕ) (rest : List (Attribute ℕ))
    (a : Attribute (List ℕ)) (end : List ℕ) → attrs ≡ x ∷ rest → a ≡ f x → flat_map g (map f attrs) ++ end ≡ g a ++ (flat_map g (map f rest) ++ end)
next-text f g attrs x rest a end is same =
    ap (λ l. flat_map g (map f l) ++ end) is ∙ ap (λ b. (g b ++ flat_map g (map f rest)) ++ end) (sym same) ∙ append_assoc (g a) (flat_map g (map f rest)) end

-- the name, and then the attributes and the end
parted : (how : Escaping) (name lent : List ℕ) (attrs : List (Attribute (List ℕ))) → lent ≡ name
    → start_tag_text how name attrs ≡ (60 ∷ lent) ++ (flat_map (attribute_text how) attrs ++ codes ">")
parted how name lent attrs same = ap (λ n. start_tag_text how n attrs) (sym same) ∙ append_assoc (60 ∷ lent) (flat_map (attribute_text how) attrs) (codes ">")

pub returns-in_err-put_before : goal.returns-in_err-put_before
returns-in_err-put_before g c =
    passed_on _ _ _ _ c.from_residual.ensures.1 (part_failed _ _ _ _ _ _ _ (none_put _ _) (parted _ _ _ _ c.text.ensures.text) c.in_err-put_before.ensures)

pub returns-in_err-put_attribute : goal.returns-in_err-put_attribute
returns-in_err-put_attribute g c = let step : c.loop-name.name-iterator ≡ (c.in-Some.name, c.in-Some.value.now) ∷ c.next.new.self = search rules in
    passed_on _ _ _ _ c.from_residual-in_err-put_attribute.ensures.1 (part_failed _ _ _ _ _ _ _ c.loop-name.invariant.2
    (next-text (mapped_attribute (text_of c.args.self.now.names.now)) (attribute_text c.args.self.now.escaping) c.loop-name.name-iterator
    (c.in-Some.name, c.in-Some.value.now) c.next.new.self (c.text-in-loop-name.result.now, c.in-Some.value.now) (codes ">") step
    (λ i. (c.text-in-loop-name.ensures.text i, c.in-Some.value.now))) c.in_err-put_attribute.ensures)

pub loop-name-preserved : goal.loop-name-preserved
loop-name-preserved g c = let step : c.loop-name.name-iterator ≡ (c.in-Some.name, c.in-Some.value.now) ∷ c.next.new.self = search rules in (
  tt,
  tt,
  part_put _ _ _ _ _ _ _ c.loop-name.invariant.2
      (next-text (mapped_attribute (text_of c.args.self.now.names.now)) (attribute_text c.args.self.now.escaping) c.loop-name.name-iterator
      (c.in-Some.name, c.in-Some.value.now) c.next.new.self (c.text-in-loop-name.result.now, c.in-Some.value.now) (codes ">") step
      (λ i. (c.text-in-loop-name.ensures.text i, c.in-Some.value.now))) c.in_ok-put_attribute.ensures,
)

pub returns : goal.returns
returns g c = let none : c.loop-name.name-iterator ≡ [] = search rules in
    last_put _ _ _ _ _ _ _ c.loop-name.invariant.2
    (ap (λ l. flat_map (attribute_text c.args.self.now.escaping) (map (mapped_attribute (text_of c.args.self.now.names.now)) l) ++ codes ">") none)
    c.put.ensures

pub loop-name-init : goal.loop-name-init
loop-name-init g c = grind (arith, common_steps)
