use Rattle.hmodes.proofs.Vocabulary.{sym, numbers, state_of, token_of}
use Rattle.hmodes.proofs.Between.{orderly-kept, orderly-head}
use Rattle.hmodes.proofs.Looping.{goes-from, goes-out, goes-wrong, chain-again, wrong-chain}
use Rattle.hmodes.proofs.tree_construction.TreeConstruction.by_rules.Goals as goal

pub rule-requires-clause-kept : goal.rule-requires-clause-kept
rule-requires-clause-kept c = let s = state_of c.args.self.now in orderly-kept numbers s (goes-from c.args.at (token_of c.args.token.now) s c.requires).orderly

pub rule-requires-clause-head : goal.rule-requires-clause-head
rule-requires-clause-head c = let s = state_of c.args.self.now in orderly-head numbers s (goes-from c.args.at (token_of c.args.token.now) s c.requires).orderly

pub returns-in_err-rule : goal.returns-in_err-rule
returns-in_err-rule c = let t = token_of c.args.token.now in let s = state_of c.args.self.now in
    wrong-chain c.args.at t s c.from_residual.result c.in_err-rule.field-0.0 (state_of c.rule.new.self) c.from_residual.ensures.1
    (goes-wrong c.args.at t s t s c.in_err-rule.field-0.0 (goes-from c.args.at t s c.requires) c.in_err-rule.ensures)

pub returns-in-Done : goal.returns-in-Done
returns-in-Done c = let t = token_of c.args.token.now in let s = state_of c.args.self.now in
    goes-out _ _ _ _ _ (state_of c.rule.new.self) c.end.result (state_of c.end.new.self) (goes-from c.args.at t s c.requires)
    (rw c.in-Done.is at c.in_ok-rule.ensures) (c.end.ensures t (sym c.is_self_closing-closing.ensures))

pub returns-in-Again : goal.returns-in-Again
returns-in-Again c = chain-again c.args.at (token_of c.args.token.now) (state_of c.args.self.now) _ _ c.by_further_rules.result _
    (rw c.in-Again.is at c.in_ok-rule.ensures) c.by_further_rules.ensures

pub by_further_rules-requires : goal.by_further_rules-requires
by_further_rules-requires c = (token_of c.args.token.now, state_of c.args.self.now, c.requires, (rw c.in-Again.is at c.in_ok-rule.ensures))
