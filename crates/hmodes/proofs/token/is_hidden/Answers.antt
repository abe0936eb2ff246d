use Rattle.hmodes.proofs.Vocabulary.{sym, refl, ap, ◌∙◌, list_any, numbers, Given, is_hidden, token_attrs, token_of, attribute_of, any-map, Attr}
use Rattle.hmodes.proofs.token.is_hidden.Goals as goal

pub returns-in-Start : goal.returns-in-Start
returns-in-Start c = c.has_hidden.ensures ∙ ap (list_any (λ (a : Attr). is_hidden numbers (attribute_of a))) c.deref.ensures.value
    ∙ sym (any-map attribute_of (λ (a : Attr). is_hidden numbers (attribute_of a)) (is_hidden numbers) (λ a. refl) c.in-Start.attrs.items)
    ∙ ap (λ (t : Given). list_any (is_hidden numbers) (token_attrs (token_of t))) (sym c.in-Start.is)
