use Rattle.hnodes.proofs.Names.{common_steps}
use Rattle.hnodes.proofs.IndexNames.{◌≡◌, ℕ, ◌+◌, ◌<◌, set, List, length, sym, ◌∙◌, ap, arith, numbers_of, Link, group_of}
use Rattle.hnodes.proofs.IndexSteps.{group-of}
use Rattle.hnodes.proofs.Relinked.{length-numbers, freed, fit-down, fit-same, fit-other, exchanged}
use Rattle.hnodes.proofs.relink.swap_at.Goals as goal
use Rattle.hnodes.proofs.relink.swap_at.Goals.{then-same, else-same}

pub put_in-requires-clause-fit : goal.put_in-requires-clause-fit
put_in-requires-clause-fit c = λ some. fit-down _ (numbers_of c.take_out-second.new.links) c.args.index c.take_out-second.result
    (freed c.take_out-link.new.links (numbers_of c.take_out-second.new.links) (c.args.index + 1) c.take_out-second.ensures.numbers
    (omega (arith, c.take_out-link.auto.links, c.requires.within))) (c.take_out-second.ensures.fit some)

pub put_in-requires-2-clause-fit : goal.put_in-requires-2-clause-fit
put_in-requires-2-clause-fit c = λ some. let i = c.args.index in let w = length c.put_in.new.last in let xs : List ℕ = numbers_of c.args.links.now in
    let first : Link = c.take_out-link.result in let second : Link = c.take_out-second.result in
    let within : i + 1 < length xs = omega (arith, c.requires.within, length-numbers c.args.links.now) in
    let e1 = c.take_out-link.ensures.numbers in let e2 = c.take_out-second.ensures.numbers in let e3 = c.put_in.ensures.numbers in
    elim c.if-same.branch [
      | then-same b ↦ let group = group-of w (group_of first.number w) second.number (sym c.is_grouped-same.ensures ∙ b.if-same.true) in
          rw b.link-is (fit-same w i xs first second e1 e2 e3 within c.take_out-second.ensures.number group.0
          (rw c.put_in.auto.last (c.take_out-second.ensures.fit group.0)) (sym group.1))
      | else-same b ↦ rw b.link-is (fit-other w i xs first second e1 e2 e3 within c.take_out-second.ensures.number
          (rw (c.put_in.auto.last, c.take_out-second.auto.last) (c.take_out-link.ensures.fit (λ e. some (ap (λ x. x.number) b.link-is ∙ e))))
          (sym c.is_grouped-same.ensures ∙ b.if-same.false))
    ]

pub returns-clause-numbers : goal.returns-clause-numbers
returns-clause-numbers c = let i = c.args.index in let first : ℕ = c.take_out-link.result.number in
    let is : c.if-same.link.number ≡ first = elim c.if-same.branch
    [ then-same b ↦ ap (λ x. x.number) b.link-is | else-same b ↦ ap (λ x. x.number) b.link-is ] in
    c.put_in-2.ensures.numbers ∙ ap (λ n. set (numbers_of c.put_in.new.links) (i + 1) n) is
    ∙ exchanged (length c.put_in.new.last) i (numbers_of c.args.links.now) c.take_out-link.result c.take_out-second.result c.take_out-link.ensures.numbers
    c.take_out-second.ensures.numbers c.put_in.ensures.numbers (omega (arith, c.requires.within, length-numbers c.args.links.now))
    c.take_out-second.ensures.number c.take_out-link.ensures.number

pub put_in-requires-2-clause-free : goal.put_in-requires-2-clause-free
put_in-requires-2-clause-free c = grind (arith, common_steps)

pub put_in-requires-clause-free : goal.put_in-requires-clause-free
put_in-requires-clause-free c = grind (arith, common_steps)

pub returns-clause-are_indexed : goal.returns-clause-are_indexed
returns-clause-are_indexed c = grind (arith, common_steps)

pub take_out-link-requires-clause-are_indexed : goal.take_out-link-requires-clause-are_indexed
take_out-link-requires-clause-are_indexed c = grind (arith, common_steps)
