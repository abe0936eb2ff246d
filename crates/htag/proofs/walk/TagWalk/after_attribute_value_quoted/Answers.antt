use Rattle.htag.proofs.Vocabulary.{◌∙◌, ap, Bool, ◌++◌, not, MissingWhitespaceBetweenAttributes, error_if}
use Rattle.htag.proofs.Values.{quoted_ends}
use Rattle.htag.proofs.walk.TagWalk.after_attribute_value_quoted.Goals as goal

pub returns-clause-takes : goal.returns-clause-takes
returns-clause-takes c = λ table names body h after walk later ends. quoted_ends h c.requires (c.in_ok-keep_if.ensures
    ∙ ap (λ (b : Bool). c.args.errors.now.items ++ error_if (not b) MissingWhitespaceBetweenAttributes c.args.next.at) c.ends_name.ensures) ends
