use Rattle.charref.proofs.Names.{arith, nat_tests, inl, inr, ◌∷◌, [], ap, sym, ◌∙◌, subst, is_digit_of, digit_value, IsSign}
use Rattle.charref.proofs.Numbers.{first_no_digit, two_signs, first_digit, no_digits_after}
use Rattle.charref.proofs.walking.after_sign.Goals as goal
use Rattle.charref.proofs.walking.after_sign.Goals.{in-Decimal+else-ch-eq120+else-ch-eq88, in-Hexadecimal, then-ch-eq120-via-then-ch-eq120, then-ch-eq120-via-else-ch-eq120+then-ch-eq88}

pub returns-then-ch-eq120-clause-next : goal.returns-then-ch-eq120-clause-next
returns-then-ch-eq120-clause-next c =
    λ table in_value text p sign is. two_signs table in_value text p (subst (λ b. IsSign b text) c.in-Decimal.is sign) (elim c.then-ch-eq120.branch
    [ then-ch-eq120-via-then-ch-eq120 w ↦ inl (is ∙ w.if-ch-eq120.true) | then-ch-eq120-via-else-ch-eq120+then-ch-eq88 w ↦ inr (is ∙ w.if-ch-eq88.true) ])

pub returns-in-Some-clause-next : goal.returns-in-Some-clause-next
returns-in-Some-clause-next c = λ table in_value text p sign is. first_digit table in_value c.args.base text p c.in-Some.digit sign
    (ap (is_digit_of c.args.base) is ∙ c.in-Some.ensures.0) (c.in-Some.ensures.1 ∙ ap digit_value (sym is)) c.in-Some.ensures.2

pub returns-in-None-clause-next : goal.returns-in-None-clause-next
returns-in-None-clause-next c = λ table in_value text p sign is after. rw c.no_digits.ensures (no_digits_after table in_value (p ∷ []) after c.args.base text
    sign (first_no_digit c.args.base p after (ap (is_digit_of c.args.base) is ∙ c.in-None.ensures) (λ decimal. elim c.match-base.branch [
      | in-Decimal+else-ch-eq120+else-ch-eq88 w ↦ grind (arith, nat_tests, is, w.if-ch-eq120.false, w.if-ch-eq88.false)
      | in-Hexadecimal w ↦ (let other = w.in-Hexadecimal.is in absurd cc)
    ])))
