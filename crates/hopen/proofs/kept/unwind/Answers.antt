use Rattle.hopen.proofs.Names.{common_steps, ◌≡◌, ℕ, None, suc, List, ◌-◌, ◌<◌, ◌∙◌, sym, subst, arith, length, opened_by, KeptNode, LastLevels, LevelsTo, elements}
use Rattle.hopen.proofs.Projected.{held, no-node, part-at}
use Rattle.hopen.proofs.Standing.{levels-counted, levels-hole, levels-in, levels-less}
use Rattle.hopen.proofs.kept.unwind.Goals as goal

-- the slot that was the last
slot-stands : (n : ℕ) (last : LastLevels) (items : List KeptNode) → 0 < n → LevelsTo n last items → LevelsTo (suc (n - 1)) last items
slot-stands n last items some s = let next : n ≡ suc (n - 1) = omega arith in subst (λ k. LevelsTo k last items) next s

pub take_back-requires-clause-room : goal.take_back-requires-clause-room
take_back-requires-clause-room c = grind (arith, common_steps, held, levels-in, slot-stands)

pub take_back-requires-clause-counted : goal.take_back-requires-clause-counted
take_back-requires-clause-counted c = grind (arith, common_steps, held, levels-counted, slot-stands)

pub loop-end-preserved-then-not-is_hole : goal.loop-end-preserved-then-not-is_hole
loop-end-preserved-then-not-is_hole c = let items = c.args.items.now in let last = c.loop-end.last in let x = c.index-items-end.result in
    let s = slot-stands c.loop-end.end last items (omega arith) c.loop-end.invariant.stands in
    let long = c.loop-end.invariant.tables in
    let t = c.take_back.ensures.tables in
    record {
      within = omega (arith, c.loop-end.invariant.within);
      above = omega arith;
      stands = levels-less items (c.loop-end.end - 1) (omega (arith, c.loop-end.invariant.within)) last x c.index-items-end.is s
          (held x (sym c.is_hole.ensures ∙ c.if-not-is_hole.true)) c.take_back.new.self c.take_back.ensures.names c.take_back.ensures.nodes
          c.take_back.ensures.closes;
      tables = record { names = t.names ∙ long.names; nodes = t.nodes ∙ long.nodes; holes = t.holes ∙ long.holes };
    }

pub loop-end-preserved : goal.loop-end-preserved
loop-end-preserved c = let items = c.args.items.now in let i = c.loop-end.end - 1 in let last = c.loop-end.last in let x = c.index-items-end.result in
    let within : i < length items = omega (arith, c.loop-end.invariant.within) in
    record {
      within = omega (arith, c.loop-end.invariant.within);
      above = omega arith;
      stands = levels-hole items i within last (slot-stands c.loop-end.end last items (omega arith) c.loop-end.invariant.stands)
          (part-at opened_by None items i x within c.index-items-end.is ∙ no-node x (sym c.is_hole.ensures ∙ c.if-not-is_hole.false));
      tables = c.loop-end.invariant.tables;
    }

pub loop-end-init : goal.loop-end-init
loop-end-init c = grind (arith, elements)
