use Rattle.htoken.proofs.Names.{ap, subst, HoldsFrom, from_of, sym}
use Rattle.htoken.proofs.Held.{from_held, holds_from}
use Rattle.htoken.proofs.tokenizer.Tokenizer.held_from.Goals as goal

pub returns-in-Text-clause-holds : goal.returns-in-Text-clause-holds
returns-in-Text-clause-holds c = λ table start names text taken h.
    subst (HoldsFrom table start text taken) (ap (λ s. from_of s c.args.self.now) c.in-Text.is) (holds_from table c.args.self.now names text h)

pub returns-in-AmbiguousAmpersand-clause-holds : goal.returns-in-AmbiguousAmpersand-clause-holds
returns-in-AmbiguousAmpersand-clause-holds c = λ table start names text taken h.
    subst (HoldsFrom table start text taken) (ap (λ s. from_of s c.args.self.now) c.in-AmbiguousAmpersand.is) (holds_from table c.args.self.now names text h)

pub returns-in_default-clause-holds : goal.returns-in_default-clause-holds
returns-in_default-clause-holds c = λ table start names text taken h.
    subst (HoldsFrom table start text taken) (sym (from_held c.args.self.now.state c.args.self.now c.in_default.not-Text c.in_default.not-AmbiguousAmpersand))
    (holds_from table c.args.self.now names text h)

pub returns-in_default-clause-from : goal.returns-in_default-clause-from
returns-in_default-clause-from c = from_held c.args.self.now.state c.args.self.now c.in_default.not-Text c.in_default.not-AmbiguousAmpersand
