use Rattle.htag.proofs.Vocabulary.{◌≡◌, ◌≤◌, ◌+◌, ◌∙◌, ℕ, length, zero, suc, List, [], ◌∷◌, set, sym, subst, get_or, refl, arith, get_or-set_same, get_or-set_other}
use Rattle.htag.proofs.Naming.{resized, marked, no_stamp}
use Rattle.htag.proofs.seen.Seen.add.Goals as goal

pub returns : goal.returns
returns c = λ numbers h.
    let past : length c.args.self.now.stamps.items ≤ c.args.number = omega arith in
    let items : (m : ℕ) → get_or c.resize.new.self.items m 0 ≡ get_or c.args.self.now.stamps.items m 0 =
    resized c.args.self.now.stamps.items c.resize.new.self.items (c.args.number + 1) _ (omega (arith, past)) c.in_ok-resize.ensures.items in (
      no_stamp c.args.self.now c.args.number numbers (omega arith) h past,
      marked c.args.self.now _ c.args.number numbers h refl
          (get_or-set_same c.resize.new.self.items c.args.number c.args.self.now.tag 0 (omega (arith, c.in_ok-resize.ensures.len)))
          (λ m other. get_or-set_other c.resize.new.self.items c.args.number m c.args.self.now.tag 0 other ∙ items m),
    )

stamped : (xs : List ℕ) (i v : ℕ) → ((m : ℕ) → get_or xs m 0 ≤ v) → (n : ℕ) → get_or (set xs i v) n 0 ≤ v
stamped [] i v h n = h n
stamped (x ∷ xs) zero v h zero = omega arith
stamped (x ∷ xs) zero v h (suc n) = h (suc n)
stamped (x ∷ xs) (suc i) v h zero = h 0
stamped (x ∷ xs) (suc i) v h (suc n) = stamped xs i v (λ m. h (suc m)) n

pub invariant_of-self-2 : goal.invariant_of-self-2
invariant_of-self-2 c = record {
  begun = c.args.self.now.begun;
  older = stamped c.resize.new.self.items c.args.number c.args.self.now.tag (λ m. subst (λ v. v ≤ c.args.self.now.tag)
      (sym (resized c.args.self.now.stamps.items c.resize.new.self.items (c.args.number + 1) _ (omega arith) c.in_ok-resize.ensures.items m))
      (c.args.self.now.older m));
}
