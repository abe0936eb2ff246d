use Rattle.htag.proofs.Vocabulary.{◌++◌, ℕ, List, sym, ap, ◌∙◌, string_bytes, all_placed, all_weaker, is_word_byte, placed}
use Rattle.htag.proofs.AtOnce.{named_begins}
use Rattle.htag.proofs.InRun.{word_bytes, word_in_name, word_nulls}
use Rattle.htag.proofs.Names.{name_begun}
use Rattle.htag.proofs.walk.TagWalk.begin_start.Goals as goal

pub returns-clause-begun : goal.returns-clause-begun
returns-clause-begun c = λ table names at is.
    let name = c.args.name.now in let begins = named_begins name is at in
    name_begun c.begin_parts.ensures.begun (placed at name) begins.0 (all_placed _ at name (all_weaker is_word_byte _ word_in_name name begins.1))
    (word_nulls at name begins.1) (ap string_bytes c.begin_parts.ensures.name ∙ c.in_ok-push_str.ensures.bytes
    ∙ ap (λ (x : List ℕ). x ++ name) c.clear.ensures.bytes ∙ sym (word_bytes at name begins.1))
