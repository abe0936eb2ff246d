use Rattle.htag.proofs.Vocabulary.{true≢false, sym, ap, ◌∙◌, inl, inr, is_in_attribute}
use Rattle.htag.proofs.walk.TagWalk.in_attribute.Goals as goal

pub returns-in-TagName-clause-takes : goal.returns-in-TagName-clause-takes
returns-in-TagName-clause-takes c = λ names body h. absurd (elim c.in-TagName.is [
  | inl e ↦ true≢false (sym c.requires ∙ ap is_in_attribute e)
  | inr o ↦ elim o [ inl e ↦ true≢false (sym c.requires ∙ ap is_in_attribute e) | inr e ↦ true≢false (sym c.requires ∙ ap is_in_attribute e) ]
])
