use Rattle.charref.proofs.Names.{arith, ◌≡◌, ◌+◌, ◌*◌, ◌≤◌, length, false, inr, refl, sym, ◌∙◌, subst, [], nat_tests, next_start, List, ℕ, ap, common_steps}
use Rattle.charref.proofs.ReadingFlat.{HasReadTo, begun, keys_before, one_more, no_entry, no_order}
use Rattle.charref.proofs.entries.entities_of.Goals as goal

pub loop-start-init : goal.loop-start-init
loop-start-init c = let some : 1 ≤ length c.args.text.now = (grind (arith, nat_tests, c.is_empty.ensures, c.if-is_empty.false)) in
    record {
      read = subst (λ es. HasReadTo c.args.text.now es [] 1) (sym c.in_ok-entities.ensures.items) (begun c.args.text.now some c.if-text-ne1.false);
      room = c.in_ok-entities.ensures.exact;
      key = omega arith;
      later = omega arith;
    }

pub returns-in_default-clause-err : goal.returns-in_default-clause-err
returns-in_default-clause-err c = let l = c.loop-start in
    inr (refl, no_entry c.args.text.now l.entities.items _ l.start l.invariant.read c.loop-start-test.true c.in_default.ensures)

pub returns-then-not-is_key_before-clause-err : goal.returns-then-not-is_key_before-clause-err
returns-then-not-is_key_before-clause-err c = let l = c.loop-start in
    inr (
      refl,
      no_order c.args.text.now l.entities.items _ l.start c.in-Some.end l.invariant.read c.in-Some.ensures (sym
          (keys_before c.args.text.now l.last l.last_end l.start c.in-Some.end c.is_key_before.result c.is_key_before.ensures) ∙ c.if-not-is_key_before.true),
    )

pub loop-start-preserved : goal.loop-start-preserved
loop-start-preserved c = let l = c.loop-start in let text : List ℕ = c.args.text.now in let end : ℕ = c.in-Some.end in
    let next : next_start text end ≡ end + 1 + 4 * c.from.result = ap (λ k. end + 1 + 4 * k) (sym c.from.ensures) in
    let more = one_more text l.entities.items _ l.start end l.invariant.read c.in-Some.ensures
    (sym (keys_before text l.last l.last_end l.start end c.is_key_before.result c.is_key_before.ensures) ∙ c.if-not-is_key_before.false) in
    record {
      read = rw c.push_reserved.ensures.items (rw (← next) more);
      room = c.push_reserved.ensures.capacity ∙ l.invariant.room;
      key = omega (arith, c.in-Some.ensures.some);
      later = omega arith;
    }

pub returns-clause-ok : goal.returns-clause-ok
returns-clause-ok c = grind (arith, common_steps)
