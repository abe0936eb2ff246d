use Rattle.hserialize.proofs.Names.{◌≡◌, ℕ, ◌+◌, ◌<◌, List, [], ◌∷◌, true, Some, Texts, slice_get, zero, suc, sym, ◌∙◌, ap, subst, arith, inl, inr, ◌⊎◌, ◌≤◌, cases_lt, text_of, is_plain_name, ArePlainTo}
use Rattle.hserialize.proofs.plain_names.PlainNames.of.Goals as goal

found : (names : Texts) (end : ℕ) {text : List ℕ} → Some text ≡ slice_get names end → text ≡ text_of names end
found [] end e = cc
found (name ∷ names) zero e = cc
found (name ∷ names) (suc end) e = found names end e

one_more : (names : Texts) (end : ℕ) → ArePlainTo (text_of names) end → is_plain_name (text_of names end) ≡ true → ArePlainTo (text_of names) (end + 1)
one_more names end before plain i h = go (cases_lt i end) where
  go : (i < end) ⊎ (end ≤ i) → is_plain_name (text_of names i) ≡ true
  go (inl k) = before i k
  go (inr k) = let e : end ≡ i = omega (arith, h, k) in subst (λ j. is_plain_name (text_of names j) ≡ true) e plain

pub loop-end-preserved : goal.loop-end-preserved
loop-end-preserved c = one_more c.args.table.now c.loop-end.end c.loop-end.invariant
    (sym (ap is_plain_name (found c.args.table.now c.loop-end.end c.in-Some.ensures.text)) ∙ sym c.is_plain_name.ensures ∙ c.if-is_plain_name.true)
