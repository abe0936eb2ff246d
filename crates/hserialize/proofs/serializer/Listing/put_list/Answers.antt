use Rattle.hserialize.proofs.Names.{◌∙◌, ◌∷◌, ap, Enter, Leave, arith, common_steps}
use Rattle.hserialize.proofs.Output.{passed_on}
use Rattle.hserialize.proofs.Wrote.{begun, goes_on, failed}
use Rattle.hserialize.proofs.serializer.Listing.put_list.Goals as goal

pub loop-visit-init : goal.loop-visit-init
loop-visit-init g c = begun c.args.self.now _ _ _ c.are_names.ensures.names c.new-visit-items.ensures.nodes.counted c.requires
    c.into_iter-visit-iterator.ensures.into_iter_gives c.new-visit-items.ensures.visits

pub loop-visit-preserved-in-Continue-1 : goal.loop-visit-preserved-in-Continue-1
loop-visit-preserved-in-Continue-1 g c = goes_on c.args.self.now _ _ (Enter c.in-Enter.node) _ _
    (c.in-Some.ensures.steps ∙ ap (λ v. v ∷ c.next.new.self) c.in-Enter.is) c.loop-visit.invariant _ c.in_ok-put_opening-in-Enter.ensures

pub loop-visit-preserved : goal.loop-visit-preserved
loop-visit-preserved g c = goes_on c.args.self.now _ _ (Leave c.in-Leave.node) _ _ (c.in-Some.ensures.steps ∙ ap (λ v. v ∷ c.next.new.self) c.in-Leave.is)
    c.loop-visit.invariant _ c.in_ok-put_closing-in-Leave.ensures

pub returns-in_err-put_opening-in-Enter : goal.returns-in_err-put_opening-in-Enter
returns-in_err-put_opening-in-Enter g c = passed_on _ _ _ _ c.from_residual.ensures.1 (failed c.args.self.now _ _ (Enter c.in-Enter.node) _ _
    (c.in-Some.ensures.steps ∙ ap (λ v. v ∷ c.next.new.self) c.in-Enter.is) c.loop-visit.invariant _ c.in_err-put_opening-in-Enter.ensures)

pub returns-in_err-put_closing-in-Leave : goal.returns-in_err-put_closing-in-Leave
returns-in_err-put_closing-in-Leave g c =
    passed_on _ _ _ _ c.from_residual-in_err-put_closing-in-Leave.ensures.1 (failed c.args.self.now _ _ (Leave c.in-Leave.node) _ _
    (c.in-Some.ensures.steps ∙ ap (λ v. v ∷ c.next.new.self) c.in-Leave.is) c.loop-visit.invariant _ c.in_err-put_closing-in-Leave.ensures)

pub returns : goal.returns
returns g c = grind (arith, common_steps)
