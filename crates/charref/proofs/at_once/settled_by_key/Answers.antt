use Rattle.charref.proofs.Names.{[], ◌∷◌, ◌++◌, ◌+◌, ◌-◌, true≢false, false, get_or, refl, sym, ap, ◌∙◌, subst, arith, is_ascii, IsTable, IsOpenKeyOf, HasNone, key_bytes, last_of, elements}
use Rattle.charref.proofs.AtOnce.{key_settles_before, none_unmarked}
use Rattle.charref.proofs.Telling.{best_before, settled_before, count_read}
use Rattle.charref.proofs.Naming.{some_key}
use Rattle.charref.proofs.at_once.settled_by_key.Goals as goal

pub overflow_sub-count : goal.overflow_sub-count
overflow_sub-count c = let key = c.in_ok-key.key.now in let has : IsOpenKeyOf c.table.inside.flat c.args.bytes.now key = c.in_ok-key.ensures in
    omega (arith, some_key c.table.inside.flat key.search.low has.is.read.entry c.table.invariant.0.sorted.is_table has.is.read.stands, has.is.read.read.depth)

pub returns : goal.returns
returns c = let table = c.args.table.now in let key = c.in_ok-key.key.now in let byte = c.in_ok-byte.ensures.lookup.3.1 0 in
    let has : IsOpenKeyOf table c.args.bytes.now key = subst (λ t. IsOpenKeyOf t c.args.bytes.now key) c.table.view_is c.in_ok-key.ensures in
    key_settles_before table c.args.bytes.now (key.search.depth - 1) key c.decided.result (subst IsTable c.table.view_is c.table.invariant.0.sorted.is_table)
    has refl c.in_ok-byte.ensures.lookup.3.0 (ap is_ascii (sym byte) ∙ sym c.is_ascii.ensures ∙ c.if-not-is_ascii.false) (λ text p read some run is after.
    let none : HasNone table (key_bytes text ++ p.ch ∷ []) = subst (λ x. HasNone table (key_bytes text ++ x ∷ [])) (byte ∙ sym is) (none_unmarked table key
    c.in_ok-byte.field-0.now text has.is read (ap (λ n. get_or key.goes_on (n + 1) false) (sym c.from.ensures) ∙ c.if-key-from.false)) in
    c.decided.ensures text p after run (λ empty. absurd (true≢false (sym empty ∙ some))) (count_read text p key.search.depth read.depth)
    (c.of-last.ensures ∙ ap last_of (c.from-2.ensures ∙ byte ∙ sym is)) (best_before table false text after p key.search read none)
    (settled_before table false text after p key.search read none))

pub decided-requires : goal.decided-requires
decided-requires c = grind (arith, elements)
