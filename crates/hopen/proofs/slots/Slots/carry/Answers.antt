use Rattle.hopen.proofs.Names.{common_steps, ◌≡◌, ℕ, ◌-◌, ◌<◌, List, length, ap, arith, insert, remove, length-insert, length-remove}
use Rattle.hopen.proofs.Moved.{exchanged, exchanged-down, exchanged-up}
use Rattle.hopen.proofs.slots.Slots.carry.Goals as goal

-- there are as many as before
carried : {X : Type 0} (old now : List X) (from i : ℕ) (x : X) → from < length old → i < length old → now ≡ insert (remove old from) i x
    → length now ≡ length old
carried old now from i x low within is = let left = length-remove old from low in omega (arith, ap length is, length-insert (remove old from) i x (omega arith))

pub swap-requires-else-index-to : goal.swap-requires-else-index-to
swap-requires-else-index-to c = omega (arith, carried _ _ _ _ _ c.requires.from c.loop-index.invariant.within c.loop-index.invariant.moved)

pub loop-index-preserved-then-index-to : goal.loop-index-preserved-then-index-to
loop-index-preserved-then-index-to c = grind (arith, common_steps, exchanged, exchanged-up, length-remove)

pub loop-index-preserved : goal.loop-index-preserved
loop-index-preserved c = grind (arith, common_steps, exchanged, exchanged-down, length-remove)

pub swap-requires : goal.swap-requires
swap-requires c = grind (arith, common_steps)
