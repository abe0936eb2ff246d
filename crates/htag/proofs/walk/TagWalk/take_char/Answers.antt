use Rattle.htag.proofs.Vocabulary.{◌∙◌, on_ok_weaker}
use Rattle.htag.proofs.walk.TagWalk.take_char.Goals as goal

pub returns-then-not-branch-clause-takes : goal.returns-then-not-branch-clause-takes
returns-then-not-branch-clause-takes c = λ body h. rw c.if-not-branch.true at (c.in_ok-in_attribute-in_default.ensures.takes _ body h)

pub returns-in_ok-end_attribute-in_default-clause-takes : goal.returns-in_ok-end_attribute-in_default-clause-takes
returns-in_ok-end_attribute-in_default-clause-takes c = λ body h. c.before_attribute_name-in_default.ensures.takes c.args.table.now _ body
    ((rw c.if-not-branch.false at (c.in_ok-in_attribute-in_default.ensures.takes _ body h)) _ _ _ c.in_ok-end_attribute-in_default.ensures.ended)

pub returns-in_ok-end_attribute-in_default-clause-kind : goal.returns-in_ok-end_attribute-in_default-clause-kind
returns-in_ok-end_attribute-in_default-clause-kind c = on_ok_weaker c.before_attribute_name-in_default.result
    (λ is. is ∙ c.in_ok-end_attribute-in_default.ensures.ended.kind_is ∙ c.in_ok-in_attribute-in_default.ensures.kind)
    c.before_attribute_name-in_default.ensures.kind
