use Rattle.charref.proofs.Names.{◌≡◌, true, nat_eq, drop, sym, ◌∙◌, subst, All, starts_with, some_same, Entry, IsOpenKey, All-get_or, arith, elements}
use Rattle.charref.proofs.open_keys.OpenKeys.find.Goals as goal

pub returns-then-opens : goal.returns-then-opens
returns-then-opens c = let table = c.args.flat.now in let key = c.in_ok-key.key.now in
    let all : All (IsOpenKey table) c.deref-in-loop-tried.result.now = subst (All (IsOpenKey table)) (sym c.deref-in-loop-tried.ensures.value) c.requires in
    let is : IsOpenKey table key = subst (IsOpenKey table) (sym (c.in_ok-key.ensures.lookup.3.1 key))
    (All-get_or (IsOpenKey table) c.deref-in-loop-tried.result.now _ key c.in_ok-key.ensures.lookup.3.0 all) in
    let same : c.opens.ensures.0 ≡ is.read.entry = some_same c.opens.ensures.0 is.read.entry (sym c.opens.ensures.1 ∙ is.read.stands) in
    record { is = is; opens = subst (λ (e : Entry). starts_with nat_eq c.args.bytes.now (drop 1 e.key) ≡ true) same (sym c.opens.ensures.2 ∙ c.if-opens.true) }

pub opens-requires : goal.opens-requires
opens-requires c = grind (arith, elements)
