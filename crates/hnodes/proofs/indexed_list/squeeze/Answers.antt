use Rattle.hnodes.proofs.IndexNames.{◌≡◌, ◌<◌, not, eqb, true, false, length, get_or, arith, ne_eqb, eq-eqb, not_from_false, not_from_true, get_or_default, none, Link}
use Rattle.hnodes.proofs.Names.{FiltersInPlace-more_no, FiltersInPlace-more_set}
use Rattle.hnodes.proofs.indexed_list.squeeze.Goals as goal
use Rattle.hnodes.proofs.indexed_list.squeeze.Goals.{then-link-ne-NONE, else-link-ne-NONE}

pub loop-index-preserved : goal.loop-index-preserved
loop-index-preserved c = let links = c.loop-index.links in let x : Link = get_or links c.loop-index.index (record { number = 0; before = 0; hint = 0 }) in
    let within : c.loop-index.index < length links = omega arith in
    let at : x ≡ get_or links c.loop-index.index x = get_or_default links c.loop-index.index (record { number = 0; before = 0; hint = 0 }) x within in
    elim c.if-link-ne-NONE.branch [
      | then-link-ne-NONE w ↦ let is : not (eqb x.number none) ≡ true = not_from_false (eqb x.number none) (ne_eqb x.number none w.if-link-ne-NONE.true) in
          rw (w.links-is, w.kept-is) (FiltersInPlace-more_set c.loop-index.invariant within is at)
      | else-link-ne-NONE w ↦ let is : not (eqb x.number none) ≡ false = not_from_true (eqb x.number none) (eq-eqb x.number none w.if-link-ne-NONE.false) in
          rw (w.links-is, w.kept-is) (FiltersInPlace-more_no c.loop-index.invariant within is at)
    ]
