use Rattle.htag.proofs.Vocabulary.{encode_utf8, to_ascii_lowercase, ◌∙◌, ◌++◌, ℕ, List, true, not, refl, sym, ap, append-nil, string_bytes, and_both, arith, common_steps}
use Rattle.htag.proofs.Names.{name_grows}
use Rattle.htag.proofs.walk.TagWalk.in_tag_name.Goals as goal

pub returns-clause-takes : goal.returns-clause-takes
returns-clause-takes c = λ table names body h.
    name_grows h c.requires _ refl refl refl refl (c.in_ok-push.ensures.bytes ∙ ap (λ (x : List ℕ). string_bytes c.args.self.now.name ++ x)
    (ap encode_utf8 (c.to_ascii_lowercase.ensures.value ∙ ap to_ascii_lowercase c.kept.ensures) ∙ sym (append-nil _))) c.in_ok-keep_null.ensures
    (and_both _ true (ap not (sym c.ends_name.ensures ∙ c.if-ends_name.false)) refl)

pub returns-then-ends_name-clause-takes : goal.returns-then-ends_name-clause-takes
returns-then-ends_name-clause-takes c = grind (arith, common_steps)
