use Rattle.hopen.proofs.Names.{add-one, ap, refl, set, common_steps, suc, ◌+◌, arith, closing}
use Rattle.hopen.proofs.Standing.{few-closed, levels-alike, levels-more, one-closes}
use Rattle.hopen.proofs.kept.enter.Goals as goal

pub overflow_add-last : goal.overflow_add-last
overflow_add-last c = grind (arith, common_steps, few-closed, one-closes)

pub returns-clause-stands : goal.returns-clause-stands
returns-clause-stands c = let i = c.args.index in let last = c.args.last.now in let z = c.args.slot in
    rw (add-one i) (levels-alike (suc i) _ c.hint.new.items c.args.items.now c.hint.ensures (levels-more c.args.items.now i (omega arith) last z c.requires.slot
    _ (suc i) refl c.requires.below c.requires.room (ap (λ k. set last.names.items k (suc i)) c.index.ensures)
    (ap (λ k. set last.nodes.items k (suc i)) c.index-2.ensures) (ap (λ k. last.must_close + k) c.closing.ensures) c.requires.stands))
