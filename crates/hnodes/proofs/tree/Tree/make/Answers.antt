use Rattle.hnodes.proofs.Names.{given_is, rules, arith, common_steps}
use Rattle.hnodes.proofs.Opened.{opened, grew, edited, added, makes, makes_nothing}
use Rattle.hnodes.proofs.tree.Tree.make.Goals as goal

pub invariant_of-self : goal.invariant_of-self
invariant_of-self c =
    let o = opened c.self.inside c.args.self.now c.self.view_is c.self.invariant in edited o (grew o c.content.ensures.grown)

pub returns-in_err-content : goal.returns-in_err-content
returns-in_err-content c = makes_nothing _ c.args.at c.from_residual.result (opened c.self.inside c.args.self.now c.self.view_is c.self.invariant)
    c.content.ensures.grown (search rules) c.from_residual.ensures.1

pub invariant_of-self-in_err-push : goal.invariant_of-self-in_err-push
invariant_of-self-in_err-push c =
    let o = opened c.self.inside c.args.self.now c.self.view_is c.self.invariant in rw c.in_err-push.ensures.items (edited o (grew o c.content.ensures.grown))

pub returns-in_err-push : goal.returns-in_err-push
returns-in_err-push c = rw c.in_err-push.ensures.items (makes_nothing _ c.args.at c.from_residual-in_err-push.result
    (opened c.self.inside c.args.self.now c.self.view_is c.self.invariant) c.content.ensures.grown (search rules) c.from_residual-in_err-push.ensures.1)

pub invariant_of-self-2 : goal.invariant_of-self-2
invariant_of-self-2 c = let o = opened c.self.inside c.args.self.now c.self.view_is c.self.invariant in rw c.in_ok-push.ensures.items
    (added (given_is c.args.given) o c.content.ensures.grown c.in_ok-content.ensures.content c.loose.ensures (search rules))

pub returns : goal.returns
returns c = let o = opened c.self.inside c.args.self.now c.self.view_is c.self.invariant in
    rw c.in_ok-push.ensures.items (makes (given_is c.args.given) o c.content.ensures.grown c.in_ok-content.ensures.content c.loose.ensures c.args.at
    c.len-number.result (search rules) (search rules))

pub returns-then-len-self : goal.returns-then-len-self
returns-then-len-self c = grind (arith, common_steps)
