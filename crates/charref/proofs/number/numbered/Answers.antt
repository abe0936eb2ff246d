use Rattle.charref.proofs.Names.{arith, ◌≡◌, ◌+◌, ◌-◌, true, nat_eq, refl, ap, ◌∙◌, agree_below_at, slice_index_or, eqb-true, numbered, C1_CONTROLS}
use Rattle.charref.proofs.number.numbered.Goals as goal

pub returns-in-128-to-159 : goal.returns-in-128-to-159
returns-in-128-to-159 c = let value = c.args.value in let back : value - 128 + 128 ≡ value = omega arith in
    eqb-true _ _ (agree_below_at (λ k. nat_eq (slice_index_or C1_CONTROLS k 0) (numbered (k + 128))) (λ k. true) 32 (value - 128) refl (omega arith))
    ∙ ap numbered back
