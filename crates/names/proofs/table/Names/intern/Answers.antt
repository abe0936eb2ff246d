use Rattle.names.proofs.Vocabulary.{slice_get, slice_get_within, ap, ◌∙◌, Texts, arith, common_steps}
use Rattle.names.proofs.KnownTags.{tag_of-named}
use Rattle.names.proofs.TableLemmas.{are_names, grows-interned, interned-there}
use Rattle.names.proofs.table.Names.intern.Goals as goal

pub returns-in-Some-clause-tag : goal.returns-in-Some-clause-tag
returns-in-Some-clause-tag c = tag_of-named c.args.self.now c.in-Some.id c.args.text.now c.in-Some.ensures.names c.in-Some.ensures.found

pub returns-in-Some-clause-added : goal.returns-in-Some-clause-added
returns-in-Some-clause-added c =
    interned-there c.args.self.now c.in-Some.id c.args.text.now (slice_get_within c.args.self.now c.in-Some.id c.args.text.now c.in-Some.ensures.found)

pub returns-clause-names : goal.returns-clause-names
returns-clause-names c = are_names _ c.self.invariant.0

pub returns-clause-tag : goal.returns-clause-tag
returns-clause-tag c = tag_of-named _ c.in_ok-id.id c.args.text.now (are_names _ c.self.invariant.0)
    (ap (λ (x : Texts). slice_get x c.in_ok-id.id) c.self.view_is ∙ c.in_ok-id.ensures.number)

pub returns-clause-grows : goal.returns-clause-grows
returns-clause-grows c = let g = grows-interned c.args.self.now c.in_ok-id.id c.args.text.now in (g.0, c.self.view_is ∙ c.in_ok-id.ensures.added ∙ g.1)

pub returns-in_err-id-clause-grows : goal.returns-in_err-id-clause-grows
returns-in_err-id-clause-grows c = grind (arith, common_steps)
