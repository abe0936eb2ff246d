use Rattle.hopen.proofs.Names.{common_steps, ◌≡◌, ◌-◌, ◌<◌, List, None, length, map, take, get_or, sym, ap, ◌∙◌, subst, arith, rules, length-take-le, opened_by, stack_of, LevelsStand, KeptNode, gap, sum_by}
use Rattle.hopen.proofs.Trimmed.{holes-trimmed, stack-holes, stack-trimmed, stands-trimmed}
use Rattle.hopen.proofs.leaving.trim.Goals as goal

pub loop-items-preserved : goal.loop-items-preserved
loop-items-preserved c = let items = c.loop-items.items.items in
    let h = subst (λ (xs : List KeptNode). (0 < length xs) × (get_or (map opened_by xs) (length xs - 1) None ≡ None)) c.deref.ensures.value
    (c.ends_in_hole.ensures.hole c.loop-items-test.true) in
    let left : c.truncate.new.self.items ≡ take (length items - 1) items = search rules in
    let same : stack_of c.truncate.new.self.items ≡ stack_of items = ap stack_of left ∙ stack-trimmed items h.0 h.1 in
    let s : LevelsStand c.loop-items.last c.truncate.new.self.items =
    subst (LevelsStand c.loop-items.last) (sym left) (stands-trimmed items h.0 h.1 c.loop-items.last c.loop-items.invariant.stands) in
    let many : length (take (length items - 1) items) ≡ length items - 1 = length-take-le (length items - 1) items (omega arith) in
    record {
      stands = record { names = s.names; nodes = s.nodes; sets = s.sets; kinds = s.kinds; closes = s.closes; fits = s.fits };
      holes = omega (arith, holes-trimmed items h.0 h.1, ap (λ (xs : List KeptNode). sum_by gap (map opened_by xs)) left, c.loop-items.invariant.holes);
      same = same ∙ c.loop-items.invariant.same;
      room = record {
        names = c.loop-items.invariant.room.names;
        nodes = c.loop-items.invariant.room.nodes;
        len = omega (arith, ap length left, many, c.loop-items.invariant.room.len);
        capacity = omega (arith, c.truncate.ensures.capacity, c.loop-items.invariant.room.capacity);
      };
    }

pub returns-clause-rests : goal.returns-clause-rests
returns-clause-rests c = grind (arith, common_steps, stack-holes)

pub overflow_sub-last : goal.overflow_sub-last
overflow_sub-last c = grind (arith, common_steps)
