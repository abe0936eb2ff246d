use Rattle.names.proofs.Vocabulary.{◌++◌, ◌+◌, ◌-◌, length, take, ap, ◌∙◌, arith, rules, subst, sym, IsUtf8, take-put_mid, overwrites, IsUtf8-had, IsUtf8-append, common_steps}
use Rattle.names.proofs.short.ShortText.push_str.Goals as goal

pub invariant_of-self : goal.invariant_of-self
invariant_of-self g c = let held = c.self.inside in let added = c.copy_from_slice.ensures.after ∙ c.as_bytes.ensures.value in
    let front = take-put_mid held.len (held.len + length c.args.more.now - held.len) held.bytes c.copy_from_slice.new.self (held.len + length c.args.more.now)
    (omega (arith, ap length added)) (omega (arith, c.self.invariant)) ∙ ap (λ l. take held.len held.bytes ++ l) added in (
      c.self.invariant.0,
      omega arith,
      search (rules, overwrites),
      ∣ subst IsUtf8 (sym front) (IsUtf8-append _ _ (IsUtf8-had _ c.self.invariant.3) c.utf8.more) ∣₁,
    )

pub returns-clause-text : goal.returns-clause-text
returns-clause-text g c = grind (arith, common_steps)
