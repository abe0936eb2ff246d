use Rattle.html_c.proofs.Names.{◌≡◌, [], ◌∷◌, arith, common_steps, refl, rules}
use Rattle.html_c.proofs.Puts.{both, no_more}
use Rattle.html_c.proofs.rows.put_attributes.Goals as goal

pub loop-name-init : goal.loop-name-init
loop-name-init c = (tt, tt, λ new next all. rw (← c.into_iter-name-iterator.ensures.into_iter_gives) all)

pub loop-name-preserved : goal.loop-name-preserved
loop-name-preserved c = let step : c.loop-name.name-iterator ≡ (c.in-Some.name, c.in-Some.value.now) ∷ c.next.new.self = search rules in (
  tt,
  tt,
  λ new next rest. c.loop-name.invariant.2 new next (both (both c.put_word-end.ensures c.put_word-at.ensures refl) rest (grind (arith, common_steps, step))),
)

pub returns : goal.returns
returns c = let none : c.loop-name.name-iterator ≡ [] = search rules in c.loop-name.invariant.2 _ _ (rw none no_more)
