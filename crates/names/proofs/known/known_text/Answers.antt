use Rattle.names.proofs.Vocabulary.{◌≡◌, arith, ap, sym, ◌∙◌, length, Some, slice_get, known, tags, tag_text, A}
use Rattle.names.proofs.KnownTexts.{known_tag}
use Rattle.names.proofs.known.known_text.Goals as goal

pub returns-in-Some : goal.returns-in-Some
returns-in-Some c = let there = c.in-Some.ensures.lookup.3 in ap Some (c.text.ensures ∙ ap tag_text (there.1 A)) ∙ sym (known_tag c.args.index A there.0)

pub returns-in-None : goal.returns-in-None
returns-in-None c = let is : c.args.index ≡ length tags = omega (arith, c.in-None.ensures.lookup.3, c.requires) in ap (slice_get known) (sym is)
