use Rattle.htext.proofs.Names.{◌≤◌, length, refl, arith, nat_tests}
use Rattle.htext.proofs.Alone.{alone_first, not_ascii, not_last, by_next}
use Rattle.htext.proofs.run.is_bad_alone.Goals as goal

pub returns-in-0-to-127 : goal.returns-in-0-to-127
returns-in-0-to-127 c = (λ never. absurd cc, λ h. absurd (not_ascii c.args.bytes.now _ c.requires refl (omega (arith, c.in-0-to-127)) h))

pub returns-then-bytes-gt1 : goal.returns-then-bytes-gt1
returns-then-bytes-gt1 c =
    by_next c.args.bytes.now _ _ _ c.if-bytes-gt1.true refl refl (omega (arith, c.in-194-to-244)) (omega (arith, c.in-194-to-244)) c.may_follow.ensures

pub returns-else-bytes-gt1 : goal.returns-else-bytes-gt1
returns-else-bytes-gt1 c = let one : length c.args.bytes.now ≤ 1 = c.if-bytes-gt1.false in (
  λ more. absurd (grind (arith, nat_tests)),
  λ h. absurd (not_last c.args.bytes.now _ c.requires one refl (omega (arith, c.in-194-to-244)) (omega (arith, c.in-194-to-244)) h),
)

pub returns-in_default : goal.returns-in_default
returns-in_default c =
    (λ _. alone_first c.args.bytes.now _ c.requires refl (omega (arith, c.in_default)) (λ low most. omega (arith, c.in_default, low, most)), λ _. refl)

pub returns-in_default-2 : goal.returns-in_default-2
returns-in_default-2 c =
    (λ _. alone_first c.args.bytes.now _ c.requires refl (omega (arith, c.in_default)) (λ low most. omega (arith, c.in_default, low, most)), λ _. refl)
