use Rattle.hnodes.proofs.Names.{◌++◌, sym, ◌∙◌, ap, subst, text, content_is, with_text, IsKept, Text, arith, common_steps}
use Rattle.hnodes.proofs.Rows.{grown-holds}
use Rattle.hnodes.proofs.node.NodeData.add_text.Goals as goal

pub returns-in_ok-self-in-None-clause-ok : goal.returns-in_ok-self-in-None-clause-ok
returns-in_ok-self-in-None-clause-ok c = let long = c.in_ok-self-in-None.ensures c.lengthen.new.self in
    let held = grown-holds c.args.store.now c.lengthen.new.self (Text c.in-Text.run') c.lengthen.ensures.grown
    (subst (IsKept c.args.store.now) c.in-Text.is c.requires) in (
      long.0,
      long.1 ∙ ap (λ bytes. text (bytes ++ c.args.more.now)) c.get.ensures ∙ ap (with_text c.args.more.now) held.1
          ∙ ap (λ d. with_text c.args.more.now (content_is c.args.store.now d)) (sym c.in-Text.is),
    )

pub returns-in-Some-clause-ok : goal.returns-in-Some-clause-ok
returns-in-Some-clause-ok c = grind (arith, common_steps)

pub returns-in_err-push_str-in-Long-clause-grown : goal.returns-in_err-push_str-in-Long-clause-grown
returns-in_err-push_str-in-Long-clause-grown c = grind (arith, common_steps)

pub returns-in_err-longer-in-Text-clause-err : goal.returns-in_err-longer-in-Text-clause-err
returns-in_err-longer-in-Text-clause-err c = grind (arith, common_steps)

pub returns-in_err-self-in-None-clause-err : goal.returns-in_err-self-in-None-clause-err
returns-in_err-self-in-None-clause-err c = grind (arith, common_steps)

pub get-requires : goal.get-requires
get-requires c = grind (arith, common_steps)
