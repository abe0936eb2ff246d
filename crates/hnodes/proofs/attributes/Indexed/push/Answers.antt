use Rattle.hnodes.proofs.Names.{◌≡◌, rules, nat_eq, not, list_any, names_differ, arith, common_steps}
use Rattle.std.proofs.Common.{◌&&◌}
use Rattle.hnodes.proofs.Indexed.{pushed}
use Rattle.hnodes.proofs.attributes.Indexed.push.Goals as goal
use Rattle.hnodes.proofs.attributes.Indexed.push.Goals.{then-self, else-self}

pub invariant_of-self-2 : goal.invariant_of-self-2
invariant_of-self-2 c =
    let test : c.if-self.differ ≡ (names_differ nat_eq c.index.new.self && not (list_any (λ b. nat_eq b.0 c.args.attr.name) c.index.new.self)) =
    elim c.if-self.branch [ then-self w ↦ search rules | else-self w ↦ search rules ] in
    pushed c.self.inside c.index.new.self c.push.new.self _ c.if-self.differ c.self.invariant c.self.view_is c.in_ok-push.ensures.items test

pub returns-clause-ok : goal.returns-clause-ok
returns-clause-ok c = grind (arith, common_steps)
