use Rattle.htag.proofs.Vocabulary.{◌≡◌, true, [], ◌∷◌, ◌++◌, ap, sym, ◌∙◌, append-nil, refl, encode_utf8, to_ascii_lowercase, string_bytes, and_both, is_letter, without_null}
use Rattle.htag.proofs.Names.{begun_in_tag}
use Rattle.htag.proofs.walk.TagWalk.begin.Goals as goal

pub returns-clause-begun : goal.returns-clause-begun
returns-clause-begun c = λ table names p is letter.
    let first : is_letter p.ch ≡ true = ap is_letter is ∙ letter in
    begun_in_tag c.begin_parts.ensures.begun (p ∷ []) first (and_both (is_letter p.ch) true first refl)
    (ap string_bytes c.begin_parts.ensures.name ∙ c.in_ok-push.ensures.bytes ∙ (λ i.
    c.clear.ensures.bytes i ++ encode_utf8 ((c.to_ascii_lowercase.ensures.value ∙ ap to_ascii_lowercase (c.kept.ensures ∙ ap without_null (sym is))) i))
    ∙ sym (append-nil (encode_utf8 (to_ascii_lowercase (without_null p.ch)))))
