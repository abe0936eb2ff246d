use Rattle.hnodes.proofs.Names.{◌++◌, ◌∷◌, ◌≡◌, [], map, take, sym, ◌∙◌, subst, attribute_of, run_in, Adds, IfSome, IsText, map_more, arith, common_steps}
use Rattle.hnodes.proofs.Rows.{adds-one, longer-trans}
use Rattle.hnodes.proofs.store.Store.push_attrs.Goals as goal

pub loop-attr-preserved : goal.loop-attr-preserved
loop-attr-preserved c = let texts = c.add.new.self in let attr = c.attr-item.result in
    let run = subst (λ o. IfSome o (λ r. IsText r texts × (run_in r texts ≡ c.value.result.now))) c.in-Some.is c.in_ok-value.ensures.run in (
      subst (λ xs. Adds xs c.args.self.now (record c.loop-attr.self { texts = texts; attrs = c.push.new.self }))
          (sym (map_more attribute_of c.args.attrs.now c.loop-attr.attr-index attr c.loop-attr-test.true
          ∙ (λ i. map attribute_of (take c.loop-attr.attr-index c.args.attrs.now) ++ attribute_of (sym c.attr-item.is i) ∷ [])))
          (adds-one _ (attribute_of attr) (record { name = c.name.result; value = c.in-Some.value }) c.args.self.now c.loop-attr.self _ c.loop-attr.invariant.0
          c.add.ensures.grown run.0 (λ i. (c.name.ensures i, (run.1 ∙ c.value.ensures) i)) c.in_ok-push.ensures.items),
      record {
        texts = longer-trans c.args.self.now.texts c.loop-attr.self.texts texts c.loop-attr.invariant.1.texts c.add.ensures.grown;
        attrs = longer-trans c.args.self.now.attrs.items c.loop-attr.self.attrs.items c.push.new.self.items c.loop-attr.invariant.1.attrs
            (_, c.in_ok-push.ensures.items);
      },
    )

pub returns-in_err-value-clause-grown : goal.returns-in_err-value-clause-grown
returns-in_err-value-clause-grown c = grind (arith, common_steps)

pub returns-in_err-push-clause-grown : goal.returns-in_err-push-clause-grown
returns-in_err-push-clause-grown c = grind (arith, common_steps)

pub returns-in_default-clause-grown : goal.returns-in_default-clause-grown
returns-in_default-clause-grown c = grind (arith, common_steps)

pub returns-clause-added : goal.returns-clause-added
returns-clause-added c = grind (arith, common_steps)

pub returns-in_default-clause-added : goal.returns-in_default-clause-added
returns-in_default-clause-added c = grind (arith, common_steps)
