-- Items that are put into a room one after another.
use Rattle.html_c.proofs.Names.{◌≡◌, ℕ, ◌<◌, ◌+◌, List, [], ◌∷◌, ◌++◌, length, refl, sym, ap, ap₂, ◌∙◌, PutsAt, arith, common_steps, ◌≤◌, length-append, set, suc, zero, take-append-drop, overwrites, over_at}

over_both : {A : Type 0} (at : ℕ) (a b old : List A) → at + length (a ++ b) ≤ length old
    → over_at (at + length a) b (over_at at a old) ≡ over_at at (a ++ b) old
over_both at a b old h = grind (arith, common_steps, overwrites)

pub both : {A : Type 0} {at mid_at next : ℕ} {a b items old mid new : List A} → PutsAt at a old mid mid_at → PutsAt mid_at b mid new next → items ≡ a ++ b
    → PutsAt at items old new next
both {at = at} {a = a} {b = b} {old = old} p q is = rw is
    let e = length-append a b in
    record {
      onward = omega (arith, p.onward, q.onward);
      counted = λ h. let last = q.counted h in omega (arith, e, p.counted (omega (arith, h, q.onward)), last);
      further = λ h. let past = q.further h in grind (arith, e, p.counted, p.further, past);
      long = q.long ∙ p.long;
      fits = λ h.
          let (end, first) = p.fits (omega (arith, e, h)) in let (last, second) = q.fits (omega (arith, e, h, end, p.long)) in
          (last ∙ ap (λ n. n + length b) end ∙ omega (arith, e), second ∙ ap₂ (λ n l. over_at n b l) end first ∙ over_both at a b old h);
    }

pub no_more : {A : Type 0} {at : ℕ} {room : List A} → PutsAt at [] room room at
no_more {at = at} {room = room} = record {
  onward = omega arith;
  counted = λ h. omega arith;
  further = λ h. omega (arith, h);
  long = refl;
  fits = λ fits. (omega arith, sym (take-append-drop at room));
}

pub set_over : {A : Type 0} (at : ℕ) (x : A) (old : List A) → at < length old → set old at x ≡ over_at at (x ∷ []) old
set_over at x [] h = absurd (omega (arith, h))
set_over zero x (y ∷ ys) h = refl
set_over (suc n) x (y ∷ ys) h = ap (λ l. y ∷ l) (set_over n x ys (omega (arith, h)))
