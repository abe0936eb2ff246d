use Rattle.charref.proofs.Names.{arith, slice_get, sym, ap, ◌∙◌, Entities, IsStart}
use Rattle.charref.proofs.Searching.{start_at, start_moved, start_more, below_next}
use Rattle.charref.proofs.starts.starts_of.Goals as goal
use Rattle.charref.proofs.starts.starts_of.Goals.{then-here-code, else-here-code}

pub loop-code-preserved : goal.loop-code-preserved
loop-code-preserved c = let l = c.loop-code in let table : Entities = c.args.flat.now in
    let start : IsStart table c.if-here-code.index l.code = elim c.if-here-code.branch [
      | then-here-code w ↦ rw w.index-is (start_moved table l.index w.first_from-index.result l.code c.requires.sorted w.first_from-index.ensures.after
          (omega (arith, w.first_from-index.ensures.before, w.len.ensures)) l.invariant.below (rw (← w.len.ensures) w.first_from-index.ensures.parted))
      | else-here-code w ↦ rw w.index-is (start_at table l.index l.code c.requires.sorted l.invariant.within l.invariant.below (λ e got.
          omega (arith, l.invariant.here e got, w.if-here-code.false)))
    ] in
    record {
      index = rw c.push_reserved.ensures.items (start_more table l.starts.items l.code c.if-here-code.index l.invariant.index start);
      room = c.push_reserved.ensures.capacity ∙ l.invariant.room;
      within = start.within;
      below = below_next table c.if-here-code.index l.code start;
      here = elim c.if-here-code.branch [
        | then-here-code w ↦ λ e got. w.here-is ∙ w.code_from-here-then-here-code.ensures e (ap (slice_get table) (sym w.index-is) ∙ got)
        | else-here-code w ↦ λ e got. w.here-is ∙ l.invariant.here e (ap (slice_get table) (sym w.index-is) ∙ got)
      ];
    }
