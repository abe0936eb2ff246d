use Rattle.hnodes.proofs.IndexNames.{cases_Bool, ◌≡◌, ◌+◌, ◌-◌, ◌<◌, ℕ, List, eqb, cond, length, get_or, set, refl, ◌∙◌, ap, arith, map-set_same, get_or-set_same, get_or-set_other, map-set, length-map, link_number, before_of, befores_of, nat_tests}
use Rattle.hnodes.proofs.relink.keep.Goals as goal

pub returns-then-next-gt0-clause-numbers : goal.returns-then-next-gt0-clause-numbers
returns-then-next-gt0-clause-numbers c = map-set_same link_number c.args.links.now (c.args.next - 1) _ (record { number = 0; before = 0; hint = 0 }) refl

-- a list with another number before an ordinal
set_at : (bs : List ℕ) (next v j : ℕ) → 0 < next → next - 1 < length bs → get_or (set bs (next - 1) v) j 0 ≡ cond (eqb (j + 1) next) v (get_or bs j 0)
set_at bs next v j some within = grind (arith, cases_Bool (eqb (j + 1) next), get_or-set_same, get_or-set_other, nat_tests)

pub returns-then-next-gt0-clause-befores : goal.returns-then-next-gt0-clause-befores
returns-then-next-gt0-clause-befores c j = ap (λ bs. get_or bs j 0) (map-set before_of c.args.links.now (c.args.next - 1) _)
    ∙ set_at (befores_of c.args.links.now) c.args.next c.args.ordinal j (omega arith) (omega (arith, length-map c.args.links.now before_of))
