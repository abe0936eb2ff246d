use Rattle.htag.proofs.Vocabulary.{true, false, refl, MatchResult-weaker, inl, inr}
use Rattle.htag.proofs.Values.{keeps_tag}
use Rattle.htag.proofs.Cut.{cut_in_name, cut_before_attribute, cut_after_solidus, cut_after_name, cut_before_value, cut_in_quotes, cut_in_unquoted, cut_after_quotes}
use Rattle.htag.proofs.walk.TagWalk.end.Goals as goal

pub returns-in-TagName-clause-cut : goal.returns-in-TagName-clause-cut
returns-in-TagName-clause-cut c = λ table body h. elim c.in-TagName.is
    [ inl e ↦ cut_in_name h e | inr o ↦ elim o [ inl e ↦ cut_before_attribute h e | inr e ↦ cut_after_solidus h e ] ]

pub returns-in-AttributeName-clause-cut : goal.returns-in-AttributeName-clause-cut
returns-in-AttributeName-clause-cut c = λ table body h.
    MatchResult-weaker c.end_attribute-in-AttributeName.result c.end_attribute-in-AttributeName.ensures.ended (λ u ends. elim c.in-AttributeName.is [
      | inl e ↦ cut_after_name h ends false e
      | inr o ↦ elim o [ inl e ↦ cut_after_name h ends true e | inr p ↦ elim p [ inl e ↦ cut_before_value h ends e | inr e ↦ cut_after_quotes h ends e ] ]
    ]) (λ e is. is)

pub returns-in_ok-end-in-AttributeValueQuoted-clause-cut : goal.returns-in_ok-end-in-AttributeValueQuoted-clause-cut
returns-in_ok-end-in-AttributeValueQuoted-clause-cut c =
    λ table body h. MatchResult-weaker c.end_attribute.result c.end_attribute.ensures.ended (λ u ends. elim c.in-AttributeValueQuoted.is [
      | inl e ↦ cut_in_quotes h (keeps_tag refl refl refl refl refl) refl refl ends e.1 c.in_ok-end-in-AttributeValueQuoted.ensures
      | inr e ↦ cut_in_unquoted h (keeps_tag refl refl refl refl refl) refl refl ends e c.in_ok-end-in-AttributeValueQuoted.ensures
    ]) (λ e is. is)
