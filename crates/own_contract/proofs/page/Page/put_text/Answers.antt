use Rattle.std.specs.Str.{chars}
use Rattle.own_contract.proofs.Without.{text_put}
use Rattle.own_contract.proofs.page.Page.put_text.Goals as goal

pub invariant_of-self : goal.invariant_of-self
invariant_of-self c = text_put c.put_text.result c.self.inside.tree c.put_text.new.self (chars c.args.text.now) c.args.parent c.put_text.ensures.ok
    c.put_text.ensures.err c.self.invariant
