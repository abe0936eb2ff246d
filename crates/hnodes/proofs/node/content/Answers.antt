use Rattle.hnodes.proofs.Names.{sym, ◌∙◌, ap, given_is, element, arith, common_steps}
use Rattle.hnodes.proofs.node.content.Goals as goal

pub returns-in-Sharing-clause-content : goal.returns-in-Sharing-clause-content
returns-in-Sharing-clause-content c = let held = c.sharing.ensures c.args.store.now in (held.0, held.1 ∙ ap given_is (sym c.in-Sharing.is))

pub returns-in_ok-share-in-None-clause-content : goal.returns-in_ok-share-in-None-clause-content
returns-in_ok-share-in-None-clause-content c = let held = c.sharing-in-None.ensures c.add_attrs.new.self in
    (held.0, held.1 ∙ ap (element c.in-Copied.name) c.in_ok-share-in-None.ensures ∙ ap given_is (sym c.in-Copied.is))

pub returns-in_err-new-in-Doctype-clause-grown : goal.returns-in_err-new-in-Doctype-clause-grown
returns-in_err-new-in-Doctype-clause-grown c = grind (arith, common_steps)

pub returns-in-Some-3-clause-content : goal.returns-in-Some-3-clause-content
returns-in-Some-3-clause-content c = grind (arith, common_steps)

pub returns-in_err-new-in-None-2-clause-grown : goal.returns-in_err-new-in-None-2-clause-grown
returns-in_err-new-in-None-2-clause-grown c = grind (arith, common_steps)

pub returns-in-Some-2-clause-content : goal.returns-in-Some-2-clause-content
returns-in-Some-2-clause-content c = grind (arith, common_steps)

pub returns-in_err-run-in-Comment-clause-grown : goal.returns-in_err-run-in-Comment-clause-grown
returns-in_err-run-in-Comment-clause-grown c = grind (arith, common_steps)

pub returns-in-Some-clause-content : goal.returns-in-Some-clause-content
returns-in-Some-clause-content c = grind (arith, common_steps)

pub returns-in_ok-new-in-None-2-clause-grown : goal.returns-in_ok-new-in-None-2-clause-grown
returns-in_ok-new-in-None-2-clause-grown c = grind (arith, common_steps)

pub returns-in_err-run-in-Text-clause-grown : goal.returns-in_err-run-in-Text-clause-grown
returns-in_err-run-in-Text-clause-grown c = grind (arith, common_steps)

pub returns-in-None-3-clause-grown : goal.returns-in-None-3-clause-grown
returns-in-None-3-clause-grown c = grind (arith, common_steps)

pub returns-in-Some-2-clause-grown : goal.returns-in-Some-2-clause-grown
returns-in-Some-2-clause-grown c = grind (arith, common_steps)
