use Rattle.htoken.proofs.Names.{◌∙◌, true≢false, sym}
use Rattle.htoken.proofs.Declaring.{plain_at, plain_take}
use Rattle.htoken.proofs.markup_declaration_open.plain_front.Goals as goal

pub returns-then-not-is_plain-clause-whole : goal.returns-then-not-is_plain-clause-whole
returns-then-not-is_plain-clause-whole c = λ plain.
    absurd (true≢false (sym (plain_at c.args.text.now c.loop-index.index _ c.loop-index-test.true plain) ∙ sym c.is_plain.ensures ∙ c.if-not-is_plain.true))

pub loop-index-preserved : goal.loop-index-preserved
loop-index-preserved c =
    plain_take c.args.text.now c.loop-index.index _ c.loop-index-test.true (sym c.is_plain.ensures ∙ c.if-not-is_plain.false) c.loop-index.invariant
