use Rattle.hnodes.proofs.IndexNames.{◌≡◌, ◌+◌, ◌<◌, length, get_or, set, ap, sym, ◌∙◌, refl, arith, get_or_default, get_or-set_same, length-set, map-set_same, link_number, Link}
use Rattle.hnodes.proofs.Names.{take-set-le, common_steps}
use Rattle.hnodes.proofs.IndexSteps.{nothing, indexed-front, indexed_to-same, says-le, more-none, more-some}
use Rattle.hnodes.proofs.indexed_list.rewind.Goals as goal
use Rattle.hnodes.proofs.indexed_list.rewind.Goals.{then-number-ne-NONE, else-number-ne-NONE}

pub hint_at-requires : goal.hint_at-requires
hint_at-requires c = let links = c.loop-index.links in let last = c.loop-index.last in let i = c.loop-index.index in let old : Link = get_or links i nothing in
    let group = c.group_of-group.result in
    let put = length-set links i (record { number = old.number; before = get_or last group 0; hint = old.hint }) in
    omega (arith, says-le last links i group c.loop-index.invariant.indexed c.group_of-group.ensures.within)

pub loop-index-preserved : goal.loop-index-preserved
loop-index-preserved c = let links = c.loop-index.links in let last = c.loop-index.last in let i = c.loop-index.index in
    let within : i < length links = omega arith in
    let wide : 0 < length last = omega (arith, c.requires.wide (omega arith)) in
    let old : Link = get_or links i nothing in
    elim c.if-number-ne-NONE.branch [
      | then-number-ne-NONE w ↦ let group = w.group_of-group.result in
          let x : Link = record { number = old.number; before = get_or last group 0; hint = old.hint } in
          let put = set links i x in
          let len : length put ≡ length links = length-set links i x in
          let front = indexed-front i links put (sym (take-set-le i links i x (omega arith))) (omega arith) (omega arith) last c.loop-index.invariant.indexed in
          let more = more-some last put i (i + 1) x (omega arith) (omega arith) (get_or-set_same links i x x within) group w.group_of-group.ensures.group
          w.if-number-ne-NONE.true wide refl front in
          rw (w.links-is, w.last-is) (record {
            within = omega (arith, ap length w.links-is);
            indexed = indexed_to-same (set last group (i + 1)) put w.hint_at.new.links w.hint_at.ensures.numbers w.hint_at.ensures.befores (i + 1) more;
            same = w.hint_at.ensures.numbers ∙ map-set_same link_number links i x nothing refl ∙ c.loop-index.invariant.same;
          })
      | else-number-ne-NONE w ↦ rw (w.links-is, w.last-is) (record {
        within = omega arith;
        indexed = more-none last links i (i + 1) old (omega arith) within (get_or_default links i old nothing within) w.if-number-ne-NONE.false
            c.loop-index.invariant.indexed;
        same = c.loop-index.invariant.same;
      })
    ]

pub returns-clause-indexed : goal.returns-clause-indexed
returns-clause-indexed c = grind (arith, common_steps)
