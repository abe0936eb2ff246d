use Rattle.charref.proofs.Names.{IsOpenKey, All-push, arith, elements}
use Rattle.charref.proofs.open_keys.OpenKeys.new.Goals as goal
use Rattle.charref.proofs.open_keys.OpenKeys.new.Goals.{then-index+in_ok-push+in_ok-count, else-index}

pub loop-index-preserved : goal.loop-index-preserved
loop-index-preserved c = elim c.if-index.branch [
  | then-index+in_ok-push+in_ok-count w ↦
      rw (w.keys-is, w.count.ensures, w.in_ok-push.ensures.items) (All-push (IsOpenKey c.args.flat.now) _ _ c.loop-index.invariant w.open_key.ensures)
  | else-index w ↦ rw w.keys-is c.loop-index.invariant
]

pub loop-first-init : goal.loop-first-init
loop-first-init c = grind (arith, elements)
