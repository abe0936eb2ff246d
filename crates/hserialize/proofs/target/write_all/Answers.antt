-- One call more: the first bytes of the rest were taken after what was taken before.
use Rattle.hserialize.proofs.Names.{◌≡◌, ℕ, ◌-◌, List, ◌++◌, length, take, drop, sym, ap, ◌∙◌, take_rest, Appends-trans, append_assoc, take-append-drop, arith, common_steps}
use Rattle.hserialize.proofs.target.write_all.Goals as goal

moves_front : (all done rest : List ℕ) (n : ℕ) → all ≡ done ++ rest → all ≡ (done ++ take n rest) ++ take (length rest - n) (drop n rest)
moves_front all done rest n e = e ∙ ap (λ l. done ++ l) (sym (take-append-drop n rest)) ∙ sym (append_assoc done (take n rest) (drop n rest))
    ∙ ap (λ l. (done ++ take n rest) ++ l) (sym (take_rest rest n))

pub loop-rest-preserved : goal.loop-rest-preserved
loop-rest-preserved g c = let (done, split, appended, failed) = c.loop-rest.invariant in let rest = c.loop-rest.rest.now in let n = c.in-Some.taken in
    (done ++ take n rest, moves_front _ done rest n split, Appends-trans _ _ _ _ _ appended c.in-Some.ensures.bytes.2, c.in-Some.ensures.count ∙ failed)

pub returns-clause-all : goal.returns-clause-all
returns-clause-all g c = grind (arith, common_steps)

pub returns-in-None-clause-beginning : goal.returns-in-None-clause-beginning
returns-in-None-clause-beginning g c = grind (arith, common_steps)
