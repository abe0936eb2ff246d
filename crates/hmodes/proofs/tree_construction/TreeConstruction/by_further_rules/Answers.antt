use Rattle.hmodes.proofs.Vocabulary.{sym, numbers, state_of, token_of}
use Rattle.hmodes.proofs.Between.{orderly-kept, orderly-head}
use Rattle.hmodes.proofs.Looping.{goes-from-again, goes-on, goes-lower, goes-out, goes-wrong, wrong-chain}
use Rattle.hmodes.proofs.tree_construction.TreeConstruction.by_further_rules.Goals as goal

pub loop-self-init : goal.loop-self-init
loop-self-init c = goes-from-again c.args.at (token_of c.args.token.now) (state_of c.args.self.now) c.requires

pub rule-requires-clause-kept : goal.rule-requires-clause-kept
rule-requires-clause-kept c = orderly-kept numbers (state_of c.loop-self.self) c.loop-self.invariant.orderly

pub rule-requires-clause-head : goal.rule-requires-clause-head
rule-requires-clause-head c = orderly-head numbers (state_of c.loop-self.self) c.loop-self.invariant.orderly

pub returns-in_err-rule : goal.returns-in_err-rule
returns-in_err-rule c = wrong-chain c.args.at (token_of c.args.token.now) (state_of c.args.self.now) c.from_residual.result c.in_err-rule.field-0.0
    (state_of c.rule.new.self) c.from_residual.ensures.1 (goes-wrong _ _ _ _ _ c.in_err-rule.field-0.0 c.loop-self.invariant c.in_err-rule.ensures)

pub returns-in-Done : goal.returns-in-Done
returns-in-Done c =
    goes-out _ _ _ _ _ (state_of c.rule.new.self) c.end.result (state_of c.end.new.self) c.loop-self.invariant (rw c.in-Done.is at c.in_ok-rule.ensures)
    (c.end.ensures (token_of c.loop-self.token) (sym c.is_self_closing-closing.ensures))

pub loop-self-smaller : goal.loop-self-smaller
loop-self-smaller c = goes-lower _ _ _ _ _ _ _ c.loop-self.invariant (rw c.in-Again.is at c.in_ok-rule.ensures)

pub loop-self-preserved : goal.loop-self-preserved
loop-self-preserved c = goes-on _ _ _ _ _ _ _ c.loop-self.invariant (rw c.in-Again.is at c.in_ok-rule.ensures)
