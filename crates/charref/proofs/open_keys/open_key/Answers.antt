use Rattle.charref.proofs.Names.{arith, ℕ, length, true, refl, ap, ◌∙◌, code_at, Entry, length-set, elements}
use Rattle.charref.proofs.Searching.{after_key, ends_later, first_marked, marked_more}
use Rattle.charref.proofs.open_keys.open_key.Goals as goal

pub loop-next-init : goal.loop-next-init
loop-next-init c = let e : Entry = c.key.ensures.0 in
    let after = after_key c.args.flat.now c.args.index _ _ e c.requires.sorted c.key.ensures.1 (c.requires.ends.at c.args.index e (omega arith) c.key.ensures.1)
    (ap length c.key.ensures.2) c.requires.longer in
    (after, omega arith, first_marked c.args.flat.now _ _ after refl, refl)

pub loop-next-smaller : goal.loop-next-smaller
loop-next-smaller c = omega (
  arith,
  ends_later c.args.flat.now c.loop-next.next _ c.key-in-loop-next.ensures.0 c.key-in-loop-next.ensures.1
      (c.requires.ends.at c.loop-next.next c.key-in-loop-next.ensures.0 (omega arith) c.key-in-loop-next.ensures.1),
)

pub loop-next-preserved : goal.loop-next-preserved
loop-next-preserved c = let table = c.args.flat.now in let at : ℕ = c.loop-next.next in let f : Entry = c.key-in-loop-next.ensures.0 in
    let range = c.requires.ends.at at f (omega arith) c.key-in-loop-next.ensures.1 in
    let code = c.from.ensures ∙ c.code_at.ensures.code ∙ ap (λ key. code_at key (length c.key.result.now)) c.key-in-loop-next.ensures.2 in (
      c.loop-next.invariant.0,
      omega (arith, c.loop-next.invariant.1, ends_later table at _ f c.key-in-loop-next.ensures.1 range),
      marked_more table _ at c.from.result _ f c.loop-next.goes_on c.requires.sorted c.loop-next.invariant.0 c.loop-next.invariant.2
          c.key-in-loop-next.ensures.1 c.loop-next.invariant.1 c.loop-next-test.true range code
          (omega (arith, c.loop-next.invariant.3, c.code_at.ensures.few, c.from.ensures)),
      length-set c.loop-next.goes_on c.from.result true ∙ c.loop-next.invariant.3,
    )

pub returns : goal.returns
returns c = grind (arith, elements)
