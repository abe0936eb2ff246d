use Rattle.charref.proofs.Names.{[], ◌∷◌, ◌++◌, Name, Sign, Number, NextIs}
use Rattle.charref.proofs.Numbers.{held_name, held_sign, own, by_own}
use Rattle.charref.proofs.walk.Walk.step.Goals as goal

pub returns-in-Name-clause-next : goal.returns-in-Name-clause-next
returns-in-Name-clause-next c = λ table in_value text p taken is.
    let parts = held_name c.args.self.now.table.now c.args.self.now.in_value c.in-Name.search text
    (own c.args.self.now table in_value text (Name c.in-Name.search) taken c.in-Name.is) in
    by_own c.args.self.now table in_value text taken (λ t b. NextIs t b (text ++ p ∷ []) c.after_name.result)
    (c.after_name.ensures.next text p parts.0 parts.1 is)

pub returns-in-Sign-clause-next : goal.returns-in-Sign-clause-next
returns-in-Sign-clause-next c = λ table in_value text p taken is. c.after_sign.ensures.next table in_value text p (held_sign c.args.self.now.table.now
    c.args.self.now.in_value c.in-Sign.base text (own c.args.self.now table in_value text (Sign c.in-Sign.base) taken c.in-Sign.is)) is

pub returns-in-Number-clause-next : goal.returns-in-Number-clause-next
returns-in-Number-clause-next c = λ table in_value text p taken is. by_own c.args.self.now table in_value text taken
    (λ t b. NextIs t b (text ++ p ∷ []) c.after_digits.result) (c.after_digits.ensures.next c.args.self.now.table.now c.args.self.now.in_value text p
    (own c.args.self.now table in_value text (Number c.in-Number.base c.in-Number.value) taken c.in-Number.is) is)
